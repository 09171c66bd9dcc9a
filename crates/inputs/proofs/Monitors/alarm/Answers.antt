-- Input i's remainder and soak alone are others (`altered_lane`).
use Rattle.std.proofs.Common.{refl, ◌-◌, ◌∙◌}
use Rattle.rules.specs.Monitors.{lock_alarmed}
use Rattle.inputs.specs.Bridge.{input_at, inputs_of, with_lock_alarms}
use Rattle.inputs.proofs.ByLane.{alarmed, all, placed, placed_value, placed_other, altered_lane}
use Rattle.inputs.proofs.Monitors.alarm.Goals as goal

pub returns-clause-inputs : goal.returns-clause-inputs
unfolding lock_alarmed
returns-clause-inputs c =
    let m = c.args.self.now in
    let i = c.args.i in
    let a = c.max.ensures in
    let b = c.max-2.ensures in
    let r = placed m.remainder (all 782) c.max.result i a in
    let s = placed m.soak (all 0) c.max-2.result i b in
    (λ t. inputs_of (with_lock_alarms m (c.at_input-self.ensures t) (c.at_input-self-2.ensures t)))
    ∙ altered_lane lock_alarmed m (with_lock_alarms m r s) i refl
    (λ h t. let x = input_at m (i - 1) in
    alarmed x x.frequency (placed_value m.remainder 782 c.max.result i a h t) (placed_value m.soak 0 c.max-2.result i b h t))
    (λ j h n t. let x = input_at m j in
    alarmed x x.frequency (placed_other m.remainder (all 782) c.max.result i a (i - 1) j refl h n t)
    (placed_other m.soak (all 0) c.max-2.result i b (i - 1) j refl h n t))
