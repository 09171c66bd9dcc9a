-- The four bytes of a record.
use Prim.Native.Nat.{ℕ, ◌≤◌}
use mathlib.Core.Path.{◌≡◌, refl}
use mathlib.Core.List.{List, [], ◌∷◌}
use native.Mathlib.Omega.{arith}
use lib.ListN.{length, set}
use Rattle.rules.specs.Sheet.{over}

-- the first four elements stored one after the other
pub four : (a b c d : ℕ) (l : List ℕ) → 4 ≤ length l → set (set (set (set l 0 a) 1 b) 2 c) 3 d ≡ over (a ∷ b ∷ c ∷ d ∷ []) l
four a b c d (w ∷ x ∷ y ∷ z ∷ l) h = refl
four a b c d [] h = absurd (omega arith)
four a b c d (w ∷ []) h = absurd (omega arith)
four a b c d (w ∷ x ∷ []) h = absurd (omega arith)
four a b c d (w ∷ x ∷ y ∷ []) h = absurd (omega arith)
