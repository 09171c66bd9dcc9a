-- The registers are the column Fresh.
use Rattle.std.proofs.Common.{ap, ◌∙◌}
use Rattle.rules.specs.Registers.{fresh, fresh_with}
use Rattle.state.proofs.Unit.make.Goals as goal

pub returns : goal.returns
unfolding fresh
returns c = c.make_with.ensures ∙ ap fresh_with c.fresh_registers.ensures
