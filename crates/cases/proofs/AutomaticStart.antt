-- Every row of the table is computed.
use mathlib.Core.Path.{refl}
use Rattle.rules.proofs.Computing.{computing}
use Rattle.cases.specs.AutomaticStart.{table, AutomaticStart}

pub automatic_start : AutomaticStart
unfolding computing table
automatic_start = refl
