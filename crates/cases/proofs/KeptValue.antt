-- Every row of the table is computed.
use mathlib.Core.Path.{refl}
use Rattle.rules.proofs.Computing.{computing}
use Rattle.cases.specs.KeptValue.{table, KeptValue}

pub kept_value : KeptValue
unfolding computing table
kept_value = refl
