-- A text in a lent list of bytes.
use Rattle.std.specs.Prelude.{ℕ, ◌+◌, ◌-◌, min, ◌≡◌, List, length}
use Rattle.std.proofs.lemmas.List.Edits.{sets}

-- As much of the text as there is room for is stored byte by byte from byte `at` on, and `next` is the byte after it. (A store past the end changes nothing.)
pub record Puts (text : List ℕ) (at : ℕ) (before : List ℕ) (next : ℕ) (after : List ℕ) : Type 0 where
  pub ends : next ≡ at + min (length text) (length before - at)
  pub stored : after ≡ sets before at text
