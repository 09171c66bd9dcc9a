-- Clamped twice, each number fits.
use Rattle.std.proofs.Common.{arith}
use mir.Facts.{to_z-of_z}
use Rattle.rules.specs.History.{saturated}
use Rattle.history.proofs.summed.Goals as goal

pub returns : goal.returns
unfolding saturated
returns c = grind (arith, to_z-of_z)
