-- Every row of the table is computed.
use mathlib.Core.Path.{refl}
use Rattle.rules.specs.Avoided.{table, Avoided}
use Rattle.rules.proofs.Computing.{computing}

pub avoided : Avoided
unfolding computing table
avoided = refl
