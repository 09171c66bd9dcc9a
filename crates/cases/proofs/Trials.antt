-- Every row of the table is computed.
use mathlib.Core.Path.{refl}
use Rattle.rules.proofs.Computing.{computing}
use Rattle.cases.specs.Trials.{table, Trials}

pub trials : Trials
unfolding computing table
trials = refl
