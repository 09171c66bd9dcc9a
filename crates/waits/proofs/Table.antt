-- A table that is a rule's: its entries are the rule's numbers at 0, 1, 2 and on. Held against the numbers that the code has, it has antt compute the rule at
-- every number.
use Prim.Native.Nat.{ℕ, zero, suc, ◌+◌, ◌<◌}
use mathlib.Core.Path.{◌≡◌, refl, ap, ◌∙◌}
use mathlib.Core.List.{List, [], ◌∷◌}
use native.Mathlib.Nat.{add-zero, zero-add}
use native.Mathlib.Omega.{arith}
use lib.ListN.{get_or}

-- n entries, the first that of i
abbrev pub entries : (ℕ → ℕ) → ℕ → ℕ → List ℕ
entries rule i zero = []
entries rule i (suc n) = rule i ∷ entries rule (suc i) n

from : (rule : ℕ → ℕ) (i n k : ℕ) → k < n → get_or (entries rule i n) k 0 ≡ rule (i + k)
from rule i zero k h = absurd (omega arith)
from rule i (suc n) zero h = rw (add-zero i) refl
from rule i (suc n) (suc k) h = let next : suc i + k ≡ i + suc k = omega arith in from rule (suc i) n k (omega arith) ∙ ap rule next

-- the entry of a number
pub at : (rule : ℕ → ℕ) (n k : ℕ) → k < n → get_or (entries rule 0 n) k 0 ≡ rule k
at rule n k h = from rule 0 n k h ∙ ap rule (zero-add k)
