-- A list moved on by a place, turn by turn: what came in stands in front, and what is left behind it is as it was.
use Rattle.std.proofs.Common.{ℕ, zero, suc, ◌<◌, ◌≡◌, refl, ap, List, [], ◌∷◌, ◌++◌, append-nil, length, get_or, set, take, drop, ℤ, pos, arith}
use Rattle.std.proofs.lemmas.List.{drop_all}

-- i places are moved
abbrev pub moved : ℕ → ℤ → List ℤ → List ℤ
moved i x sums = take i (x ∷ sums) ++ drop i sums

-- the next place, which has what comes next
pub next_here : (i : ℕ) (x : ℤ) (sums : List ℤ) → i < length sums → get_or (moved i x sums) i (pos 0) ≡ get_or (x ∷ sums) (suc i) (pos 0)
next_here i x [] h = absurd (omega arith)
next_here zero x (y ∷ sums) h = refl
next_here (suc i) x (y ∷ sums) h = next_here i y sums (omega arith)

pub one_moved : (i : ℕ) (x : ℤ) (sums : List ℤ) → i < length sums → set (moved i x sums) i (get_or (x ∷ sums) i (pos 0)) ≡ moved (suc i) x sums
one_moved i x [] h = absurd (omega arith)
one_moved zero x (y ∷ sums) h = refl
one_moved (suc i) x (y ∷ sums) h = ap (λ (l : List ℤ). x ∷ l) (one_moved i y sums (omega arith))

-- all 64
pub all_moved : (k : ℕ) (x : ℤ) (sums : List ℤ) → length sums ≡ 64 → k ≡ 64 → moved k x sums ≡ x ∷ take 63 sums
all_moved k x sums long all = rw (all, drop_all 64 sums (omega arith), append-nil (take 63 sums)) refl
