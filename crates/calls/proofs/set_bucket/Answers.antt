-- Accepted within the bounds, or turned down with 14.
use Rattle.std.proofs.Common.{rules, refl, ◌≡◌, Err, ap, sym, ◌∙◌, ◌-◌, ◌%◌, eqb, get_or}
use Rattle.rules.specs.Events.{set_bucket}
use Rattle.rules.specs.State.{with_inputs, with_buckets}
use Rattle.rules.specs.Buckets.{bucket_from, put_at_size}
use Rattle.rules.specs.Refusals.{refusal}
use Rattle.rules.specs.Run.{after_set, effect}
use Rattle.rules.specs.Inputs.{each_from}
use Rattle.rules.proofs.SoundBuckets.{set_allowed}
use Rattle.refusals.proofs.Numbers.{refused}
use Rattle.buckets.specs.Bridge.{buckets_of}
use Rattle.buckets.proofs.Sets.{set_anew}
use Rattle.inputs.specs.Bridge.{is_set, inputs_of}
use Rattle.state.specs.Stored.{meaning, unit_of}
use Rattle.unit.proofs.Given.{accepted, turned_down}
use Rattle.calls.proofs.Concerned.{concerned}
use Rattle.calls.proofs.set_bucket.Goals as goal

pub returns-in_err-check_set-clause-gives : goal.returns-in_err-check_set-clause-gives
unfolding refusal
returns-in_err-check_set-clause-gives c k h w regs =
    let a = c.args in
    let r = c.in_err-check_set.field-0.0 in
    let e : c.from_residual.result ≡ Err r = search rules in
    rw e (turned_down _ (set_bucket a.n a.size a.high a.low a.d) c.in_err-check_set.ensures (refused r))

pub returns-clause-gives : goal.returns-clause-gives
unfolding refusal effect after_set bucket_from put_at_size each_from inputs_of buckets_of
returns-clause-gives c k h w regs =
    let a = c.args in
    let m = a.m.now in
    let b = a.b.now in
    let number = c.in_ok-check_set.ensures in
    let ok = set_allowed a.n a.size a.high a.low a.d (sym number) in
    let put = c.put_at_size.ensures.inputs
    ∙ (λ i. put_at_size (λ j. is_set (get_or (c.having.ensures i) (j - 1) 0)) (c.from.ensures i) (inputs_of m))
    ∙ concerned m a.size (λ k. eqb (get_or b.assigned k 0 % 4) a.n) in
    let anew = ap buckets_of c.with_set.ensures
    ∙ set_anew b a.n a.size a.high a.low a.d ok.known c.ranges.size.fits c.ranges.high.fits c.ranges.low.fits ok.few in
    accepted _ _ (set_bucket a.n a.size a.high a.low a.d) number refl
    (λ i. with_buckets (anew i) (with_inputs (put i) (meaning (unit_of k m b h w regs))))
