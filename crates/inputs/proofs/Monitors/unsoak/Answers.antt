-- Input i's soak alone is another (`altered_lane`).
use Rattle.std.proofs.Common.{refl, ◌-◌, ◌∙◌}
use Rattle.rules.specs.Monitors.{unsoaked}
use Rattle.inputs.specs.Bridge.{input_at, inputs_of, with_soak}
use Rattle.inputs.proofs.ByLane.{alarmed, all, placed, placed_value, placed_other, altered_lane}
use Rattle.inputs.proofs.Monitors.unsoak.Goals as goal

pub returns-clause-inputs : goal.returns-clause-inputs
unfolding unsoaked
returns-clause-inputs c =
    let m = c.args.self.now in
    let i = c.args.i in
    let e = c.max.ensures in
    (λ t. inputs_of (with_soak m (c.at_input-self.ensures t)))
    ∙ altered_lane unsoaked m (with_soak m (placed m.soak (all 0) c.max.result i e)) i refl
    (λ h t. let x = input_at m (i - 1) in alarmed x x.frequency x.remainder (placed_value m.soak 0 c.max.result i e h t))
    (λ j h n t. let x = input_at m j in alarmed x x.frequency x.remainder (placed_other m.soak (all 0) c.max.result i e (i - 1) j refl h n t))
