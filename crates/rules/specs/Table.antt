-- A table of worked cases. A row is written `got is expected`: on the left what the rules give, on the right what the document says.
use Rattle.std.specs.Prelude.{◌≡◌, List, [], ◌∷◌}

pub record Row : Type 1 where
  pub Answer : Type 0
  pub got : Answer
  pub expected : Answer

infix 68 ◌is◌
abbrev pub ◌is◌ : {A : Type 0} → A → A → Row
◌is◌ {A} x y = record { Answer = A; got = x; expected = y }

-- a column: an answer for each row
abbrev pub Column : List Row → Type 0
Column [] = Unit {0}
Column (row ∷ rows) = row.Answer × Column rows

abbrev pub left : (rows : List Row) → Column rows
left [] = tt
left (row ∷ rows) = (row.got, left rows)

abbrev pub right : (rows : List Row) → Column rows
right [] = tt
right (row ∷ rows) = (row.expected, right rows)

-- a table holds where its two columns are equal, row for row
abbrev pub Holds : List Row → Type 0
Holds rows = left rows ≡ right rows
