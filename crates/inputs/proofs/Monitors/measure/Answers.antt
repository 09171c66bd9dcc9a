-- Input i's frequency alarm alone is another (`altered_lane`).
use Rattle.std.proofs.Common.{refl, ◌-◌, ◌∙◌, get_or, ℕ, ap, max, nat_abs, to_z-of_z}
use Rattle.rules.specs.Monitors.{frequency_after, measured}
use Rattle.inputs.specs.Bridge.{is_set, frequency_number, input_at, inputs_of, with_frequency}
use Rattle.inputs.proofs.ByLane.{alarmed, placed, placed_same, placed_other, altered_lane, eight_at, frequency_set}
use Rattle.inputs.proofs.Monitors.measure.Goals as goal

pub returns-clause-inputs : goal.returns-clause-inputs
unfolding measured
returns-clause-inputs c =
    let a = c.args in
    let m = a.self.now in
    let i = a.i in
    let e = c.max.ensures ∙ ap (λ n. max n 1) c.from.ensures in
    let values = c.judged-values.result in
    let size = c.unsigned_abs-magnitude.ensures.value ∙ ap nat_abs (to_z-of_z c.ranges.offset) in
    let judged : ℕ → ℕ = λ k. frequency_number a.reject a.limit c.unsigned_abs-magnitude.result (get_or m.frequency k 0) in
    (λ t. inputs_of (with_frequency m (c.at_input-self.ensures t)))
    ∙ altered_lane (measured a.reject a.limit a.offset) m (with_frequency m (placed m.frequency values c.max.result i e)) i refl
    (λ h. let x = input_at m (i - 1) in
    (λ t. alarmed x (is_set (placed_same m.frequency values c.max.result i e (i - 1) refl h t)) x.remainder x.soak)
    ∙ (λ t. alarmed x (is_set (get_or (c.judged-values.ensures t) (i - 1) 0)) x.remainder x.soak)
    ∙ (λ t. alarmed x (is_set (eight_at judged 0 (i - 1) h t)) x.remainder x.soak)
    ∙ (λ t. alarmed x (frequency_set a.reject a.limit c.unsigned_abs-magnitude.result (get_or m.frequency (i - 1) 0) t) x.remainder x.soak)
    ∙ (λ t. alarmed x (frequency_after a.reject a.limit (size t) x.frequency) x.remainder x.soak))
    (λ j h n t. let x = input_at m j in
    alarmed x (is_set (placed_other m.frequency values c.max.result i e (i - 1) j refl h n t)) x.remainder x.soak)
