-- What a turn reads stands behind what was read before it.
use Rattle.std.proofs.Common.{rules, ◌≡◌, ◌+◌, ◌-◌, ◌++◌, length, take, drop, sym, ap, ◌∙◌, subst, le_refl, drop_at, length-take-le}
use Rattle.std.proofs.Math.Seq.{take-add, take-append-le}
use Rattle.std.proofs.lemmas.Slice.{take-put_mid_below}
use Rattle.std.specs.Io.KnownBytes.{Consumes}
use Rattle.std.proofs.KnownBytes.{Consumes-trans}
use borrow.Rule.Slice.PartMut.{put_mid, post_of}
use Rattle.rack.proofs.read_sheet.Goals as goal

pub loop-n-preserved : goal.loop-n-preserved
loop-n-preserved g c =
    let n = c.loop-n.n in
    let old = c.loop-n.buffer in
    let room = length old - n in
    let new = put_mid n room old c.read.new.buf in
    let within = c.loop-n.invariant.within in
    let fits = c.in-Ok.ensures.bound.0 in
    let behind : take c.in-Ok.more (drop n new) ≡ take c.in-Ok.more c.read.new.buf =
    ap (take c.in-Ok.more) (drop_at (take n old) (c.read.new.buf ++ post_of n room old) n (length-take-le n old within))
    ∙ take-append-le c.in-Ok.more c.read.new.buf (post_of n room old) fits in
    let front : take n new ≡ take n old = take-put_mid_below _ _ _ _ _ (le_refl _) within in
    let joined : take n old ++ take c.in-Ok.more c.read.new.buf ≡ take (n + c.in-Ok.more) new =
    sym (take-add n c.in-Ok.more new ∙ rw (front, behind)) in
    record {
      within = search rules;
      bytes = subst (Consumes _ _) joined (Consumes-trans _ _ _ _ _ c.loop-n.invariant.bytes c.in-Ok.ensures.bytes.0);
    }
