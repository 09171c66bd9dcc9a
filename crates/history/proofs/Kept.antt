-- Block sums, as the arrays hold them.
use Rattle.std.proofs.Common.{arith, ◌≡◌, ◌+◌, ◌*◌, ◌≤◌, min, ℕ, zero, suc, List, [], ◌∷◌, length, take, get_or, length-take, FitsSigned, w64, refl, ap}
use native.Mathlib.Numerals.{unary_clauses}
use Rattle.std.proofs.lemmas.Int.{fits_signed_from_abs, ints}
use lib.Dec.{leb}
use lib.IntN.{ℤ, pos, nat_abs, ◌+ℤ◌}
use Rattle.rules.specs.History.{sum_limit, saturated, sum_of}
use Rattle.rules.proofs.Integers.{natAbs-+, saturated_le}
use Rattle.history.specs.Bridge.{first_sums, kept_of, pushed}

-- ---- pushing a sum

-- of the first k, the first m are the first m
pub first_take : (m k : ℕ) (l : List ℤ) → m ≤ k → first_sums m (take k l) ≡ first_sums m l
unfolding first_sums
first_take zero k l h = refl
first_take (suc m) zero l h = absurd (omega arith)
first_take (suc m) (suc k) [] h = refl
first_take (suc m) (suc k) (x ∷ l) h = ap (λ t. saturated x ∷ t) (first_take m k l (omega arith))

take_first : (m n : ℕ) (l : List ℤ) → take m (first_sums n l) ≡ first_sums (min m n) l
unfolding first_sums
take_first zero n l = simp unary_clauses refl
take_first (suc m) zero l = simp unary_clauses refl
take_first (suc m) (suc n) [] = simp unary_clauses (ap (λ t. pos 0 ∷ t) (take_first m n []))
take_first (suc m) (suc n) (x ∷ l) = simp unary_clauses (ap (λ t. saturated x ∷ t) (take_first m n l))

-- the latest 64 are kept
pub kept_push : (x : ℤ) (sums : List ℤ) (count more : ℕ) → more ≡ min 64 (count + 1) → kept_of (pushed x sums) more ≡ take 64 (saturated x ∷ kept_of sums count)
unfolding first_sums
kept_push x sums count more e =
    let up : min more 64 ≡ suc (min 63 count) = omega arith in
    rw up (grind (arith, first_take (min 63 count) 63 sums (omega arith), take_first 63 (min count 64) sums))

-- ---- how many are kept

first_length : (n : ℕ) (l : List ℤ) → length (first_sums n l) ≡ n
unfolding first_sums
first_length zero l = refl
first_length (suc n) [] = ap suc (first_length n [])
first_length (suc n) (x ∷ l) = ap suc (first_length n l)

-- as many as the count says, and at most 64
pub kept_length : (sums : List ℤ) (count : ℕ) → length (kept_of sums count) ≡ min count 64
kept_length sums count = first_length (min count 64) sums

-- and with one more
pub pushed_length : (x : ℤ) (sums : List ℤ) (count : ℕ) → length (take 64 (saturated x ∷ kept_of sums count)) ≡ min 64 (count + 1)
pushed_length x sums count = omega (arith, length-take 64 (saturated x ∷ kept_of sums count), kept_length sums count)

pub ready_kept : (sums : List ℤ) (count : ℕ) → leb 43 count ≡ leb 43 (length (kept_of sums count))
ready_kept sums count = grind (arith, kept_length sums count)

-- ---- their sum

-- one more is added
pub sum_more : (sums : List ℤ) (i : ℕ) → sum_of (first_sums i sums) +ℤ saturated (get_or sums i (pos 0)) ≡ sum_of (first_sums (suc i) sums)
unfolding sum_of first_sums saturated
sum_more [] zero = refl
sum_more [] (suc i) = omega (arith, ints, sum_more [] i)
sum_more (x ∷ l) zero = omega (arith, ints)
sum_more (x ∷ l) (suc i) = omega (arith, ints, sum_more l i)

-- each within the limit, so their sum is within the limit as often
pub sum_le : (sums : List ℤ) (n : ℕ) → nat_abs (sum_of (first_sums n sums)) ≤ n * sum_limit
unfolding sum_of first_sums
sum_le sums zero = omega arith
sum_le [] (suc n) = omega (arith, natAbs-+ (pos 0) (sum_of (first_sums n [])), sum_le [] n)
sum_le (x ∷ l) (suc n) = omega (arith, natAbs-+ (saturated x) (sum_of (first_sums n l)), saturated_le x, sum_le l n)

pub sum_fits : (sums : List ℤ) (n : ℕ) → n ≤ 64 → FitsSigned w64 (sum_of (first_sums n sums))
sum_fits sums n h = fits_signed_from_abs w64 (sum_of (first_sums n sums)) (omega (arith, sum_le sums n))
