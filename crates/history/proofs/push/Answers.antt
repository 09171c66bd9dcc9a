-- A place more, up to the last.
use Rattle.std.proofs.Common.{◌<◌, refl, ap, ◌∙◌, ◌∷◌, length, get_or, set, take, pos, add-one, to_z, of_z, w64, FitsSigned, rules, arith}
use mir.Facts.{to_z-of_z}
use Rattle.history.proofs.Shift.{next_here, one_moved, all_moved}
use Rattle.history.proofs.push.Goals as goal

pub loop-k-init : goal.loop-k-init
loop-k-init c = (refl, refl)

pub loop-k-preserved : goal.loop-k-preserved
loop-k-preserved c =
    let k = c.loop-k.k in
    let x = to_z w64 (of_z w64 c.args.x) in
    let sums = c.args.sums.now in
    let was = c.loop-k.invariant in
    let here : k < length sums = omega (arith, c.told-sums) in
    let fits : FitsSigned w64 (get_or c.loop-k.sums k (pos 0)) = search rules in (
      rw (add-one k) ((λ i. set (was.0 i) k (was.1 i)) ∙ one_moved k x sums here),
      rw (add-one k) (to_z-of_z fits ∙ (λ i. get_or (was.0 i) k (pos 0)) ∙ next_here k x sums here),
    )

pub returns : goal.returns
returns c =
    c.loop-k.invariant.0 ∙ all_moved c.loop-k.k (to_z w64 (of_z w64 c.args.x)) c.args.sums.now c.told-sums (omega arith)
    ∙ ap (λ z. z ∷ take 63 c.args.sums.now) (to_z-of_z c.ranges.x)
