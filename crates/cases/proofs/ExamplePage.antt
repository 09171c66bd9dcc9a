-- Every row of the table is computed.
use mathlib.Core.Path.{refl}
use Rattle.rules.proofs.Computing.{computing}
use Rattle.cases.specs.ExamplePage.{table, ExamplePage}

pub example_page : ExamplePage
unfolding computing table
example_page = refl
