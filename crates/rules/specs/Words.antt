-- Words that the rules are written in: a test of a whole list, bits and masks, the numbers of inputs and references.
use Rattle.std.specs.Prelude.{ℕ, ◌-◌, ◌^◌, ◌/◌, ◌%◌, Bool, true, false, ◌&&◌, List, [], ◌∷◌, leb, eqb}

-- every element of a list passes a test
abbrev pub every : {A : Type 0} → (A → Bool) → List A → Bool
every test [] = true
every test (x ∷ xs) = test x && every test xs

-- lo ≤ n ≤ hi
abbrev pub between : ℕ → ℕ → ℕ → Bool
between lo hi n = leb lo n && leb n hi

-- bit k of a number
unfoldable pub bit : ℕ → ℕ → Bool
bit n k = eqb (n / 2 ^ k % 2) 1

-- "in every mask bit i−1 is input i"
abbrev pub bit_of : ℕ → ℕ → Bool
bit_of mask i = bit mask (i - 1)

-- "1 to 8" has three roles, and a name for each.
-- the number of an input
abbrev pub is_input : ℕ → Bool
is_input i = between 1 8 i

-- a source that the PLL tracks: a reference 1 to 8; 0 is none, and 9 is Free Run as a candidate
abbrev pub is_tracked : ℕ → Bool
is_tracked c = between 1 8 c

-- a reference that counts for the history: "0 and 9 don't count"
abbrev pub is_counted : ℕ → Bool
is_counted c = between 1 8 c
