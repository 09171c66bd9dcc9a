-- A text that stands in front of a list of bytes.
use Rattle.std.specs.Prelude.{ℕ, ◌≡◌, List, length}
use Rattle.rules.specs.Sheet.{over}

-- n is the text's length, and the list after is the one before with the text over its front
pub record Front (text before : List ℕ) (n : ℕ) (after : List ℕ) : Type 0 where
  pub count : n ≡ length text
  pub left : after ≡ over text before
