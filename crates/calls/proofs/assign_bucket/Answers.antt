-- Accepted of an input 1 to 8 and a set 0 to 3, or turned down with 6 or 14.
use Rattle.std.proofs.Common.{rules, refl, arith, ◌≡◌, Err, ap, sym, ◌∙◌, ℕ, ◌+◌, ◌-◌, ◌%◌, eqb, get_or, if◌then◌else◌}
use Rattle.rules.specs.Events.{assign_bucket}
use Rattle.rules.specs.State.{with_inputs, with_buckets}
use Rattle.rules.specs.Monitors.{Bucket}
use Rattle.rules.specs.Buckets.{put_at_size, set_at}
use Rattle.rules.specs.Refusals.{refusal}
use Rattle.rules.specs.Run.{after_assign, effect}
use Rattle.rules.specs.Inputs.{each_from}
use Rattle.rules.proofs.SoundBuckets.{assign_allowed}
use Rattle.refusals.proofs.Numbers.{refused}
use Rattle.buckets.specs.Bridge.{eight, buckets_of}
use Rattle.buckets.proofs.Sets.{set_at as stored_set, assigned_anew}
use Rattle.inputs.specs.Bridge.{is_set, inputs_of}
use Rattle.state.specs.Stored.{meaning, unit_of}
use Rattle.unit.proofs.Given.{accepted, turned_down}
use Rattle.calls.proofs.Concerned.{concerned}
use Rattle.calls.proofs.assign_bucket.Goals as goal

pub returns-in_err-check_assign-clause-gives : goal.returns-in_err-check_assign-clause-gives
unfolding refusal
returns-in_err-check_assign-clause-gives c k h w regs =
    let a = c.args in
    let r = c.in_err-check_assign.field-0.0 in
    let e : c.from_residual.result ≡ Err r = search rules in
    rw e (turned_down _ (assign_bucket a.i a.n) c.in_err-check_assign.ensures (refused r))

pub returns-clause-gives : goal.returns-clause-gives
unfolding refusal effect after_assign put_at_size each_from inputs_of
returns-clause-gives c k h w regs =
    let a = c.args in
    let m = a.m.now in
    let b = a.b.now in
    let number = c.in_ok-check_assign.ensures in
    let ok = assign_allowed a.i a.n (sym number) in
    let low : a.n % 4 ≡ a.n = omega (arith, ok.1) in
    let size = c.size_of.ensures
    ∙ ap (λ (x : Bucket). x.size) (stored_set b a.n)
    ∙ ap (λ (n : ℕ). (set_at (buckets_of b) n).size) low in
    let chosen = c.at_input-concerned.ensures ∙ (λ i. eight (λ k. if eqb (c.from.ensures i) (k + 1) then 1 else 0)) in
    let put = c.put_at_size.ensures.inputs
    ∙ (λ i. put_at_size (λ j. is_set (get_or (chosen i) (j - 1) 0)) (size i) (inputs_of m))
    ∙ concerned m (set_at (buckets_of b) a.n).size (λ k. eqb a.i (k + 1)) in
    let anew = ap buckets_of c.with_assigned.ensures ∙ assigned_anew b a.i a.n ok.0 ok.1 in
    accepted _ _ (assign_bucket a.i a.n) number refl
    (λ i. with_buckets (anew i) (with_inputs (put i) (meaning (unit_of k m b h w regs))))
