-- Accepted of an input 1 to 8, or turned down with 6.
use Rattle.std.proofs.Common.{refl, arith, ap, ◌∙◌, ℕ, ◌*◌, to_z-of_z}
use Rattle.rules.specs.Words.{is_input}
use Rattle.rules.specs.Events.{measurement, half_ppm}
use Rattle.rules.specs.Inputs.{altered}
use Rattle.rules.specs.Monitors.{measured}
use Rattle.rules.specs.Refusals.{refusal}
use Rattle.rules.specs.Run.{effect, after_measurement}
use Rattle.rules.specs.State.{with_inputs}
use Rattle.inputs.specs.Bridge.{inputs_of}
use Rattle.state.specs.Stored.{meaning, unit_of}
use Rattle.unit.proofs.Given.{accepted, turned_down}
use Rattle.unit.proofs.on_measurement.Goals as goal

pub returns-then-is_input : goal.returns-then-is_input
unfolding refusal effect after_measurement
returns-then-is_input c k b h w =
    let a = c.args in
    let reject = c.in_steps-reject.ensures ∙ ap (λ (n : ℕ). half_ppm * n) c.setting.ensures in
    let qualification = c.in_steps-qualification.ensures ∙ ap (λ (n : ℕ). half_ppm * n) c.setting-then-is_input.ensures in
    let inputs = c.measure.ensures.inputs
    ∙ (λ j. altered (measured (reject j) (qualification j) (to_z-of_z c.ranges.offset j)) a.i (inputs_of a.m.now)) in
    accepted _ _ (measurement a.i a.offset)
    (rw (← ap is_input c.from.ensures, ← c.is_input.ensures.input, c.if-is_input.true) refl) refl
    (λ i. with_inputs (inputs i) (meaning (unit_of k a.m.now b h w a.regs.now)))

pub returns : goal.returns
unfolding refusal
returns c k b h w =
    let a = c.args in
    turned_down _ (measurement a.i a.offset)
    (rw (← ap is_input c.from.ensures, ← c.is_input.ensures.input, c.if-is_input.false) refl) (λ z. omega arith)
