-- Every row of the table is computed.
use mathlib.Core.Path.{refl}
use Rattle.rules.proofs.Computing.{computing}
use Rattle.cases.specs.ExampleSheet.{table, ExampleSheet}

pub example_sheet : ExampleSheet
unfolding computing table
example_sheet = refl
