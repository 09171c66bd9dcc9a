-- The eight inputs: one of them by its number, one altered, each altered.
use Rattle.std.specs.Prelude.{ℕ, ◌+◌, ◌-◌, List, [], ◌∷◌, get_or, set}
use Rattle.rules.specs.Monitors.{Input, fresh_input}

-- input 1 first
abbrev pub Inputs : Type 0
Inputs = List Input

-- one of them, by its number
abbrev pub input : Inputs → ℕ → Input
input inputs i = get_or inputs (i - 1) fresh_input

-- one of them altered
unfoldable pub altered : (Input → Input) → ℕ → Inputs → Inputs
altered f i inputs = set inputs (i - 1) (f (input inputs i))

-- each altered, by its number; the first has number k
unfoldable pub each_from : (ℕ → Input → Input) → ℕ → Inputs → Inputs
each_from f k [] = []
each_from f k (i ∷ is) = f k i ∷ each_from f (k + 1) is
