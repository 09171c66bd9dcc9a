-- The soak in the input's lane tells (`qualified_lane`).
use Rattle.std.proofs.Common.{◌≡◌, refl, sym, ◌∙◌}
use Rattle.rules.proofs.Tests.{low, high}
use Rattle.inputs.proofs.ByLane.{qualified_lane}
use Rattle.inputs.proofs.Monitors.qualified_at.Goals as goal

pub returns-then-is_input : goal.returns-then-is_input
returns-then-is_input c =
    let known = sym c.is_input.ensures.input ∙ c.if-is_input.true in
    qualified_lane c.args.self.now c.args.c _ (low 1 8 c.args.c known) (high 1 8 c.args.c known) refl
