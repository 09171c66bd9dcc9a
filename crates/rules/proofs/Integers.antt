-- Laws of whole numbers: the magnitude of a sum, the quotient rounded down, and the limit of a block's sum.
use Prim.Native.Nat.{ℕ, zero, suc, ◌+◌, ◌-◌, ◌*◌, ◌/◌, ◌≤◌, ◌<◌}
use mathlib.Core.Path.{◌≡◌, refl, ap}
use mathlib.Core.Bool.{Bool, true, false, cond}
use native.Mathlib.Nat.{mul-div-le, lt-mul-div-succ, le-div_iff_mul-le, div-lt_iff_lt-mul, div-le_of_le-mul}
use native.Mathlib.Omega.{arith}
use lib.Dec.{T, ltb, le→leb, leb→le}
use lib.IntN.{ℤ, pos, negsuc, neg_ℤ, nat_abs, sub_ℕ, ◌+ℤ◌, ◌*ℤ◌}
use lib.Signed.{le_z, shr_z, le_z_yes}
use borrow.Author.Tests.{ltb-true}
use Rattle.rules.specs.History.{sum_limit, saturated}
use Rattle.rules.specs.Laws.{Floor}

-- the magnitude of a difference of two natural numbers is at most their sum
nat_abs_sub : (a b : ℕ) → nat_abs (sub_ℕ a b) ≤ a + b
nat_abs_sub a b = go (ltb a b) refl
  where
    go : (t : Bool) → ltb a b ≡ t → nat_abs (cond t (negsuc (b - suc a)) (pos (a - b))) ≤ a + b
    go true e = omega (arith, ltb-true a b e)
    go false e = omega arith

-- the magnitude of a sum is at most the sum of the magnitudes
pub natAbs-+ : (a b : ℤ) → nat_abs (a +ℤ b) ≤ nat_abs a + nat_abs b
natAbs-+ (pos a) (pos b) = omega arith
natAbs-+ (pos a) (negsuc b) = nat_abs_sub a (suc b)
natAbs-+ (negsuc a) (pos b) = omega (arith, nat_abs_sub b (suc a))
natAbs-+ (negsuc a) (negsuc b) = omega arith

-- −k is at most −(n + 1) where k is above n
neg_le : {k n : ℕ} → n < k → T (le_z (neg_ℤ (pos k)) (negsuc n))
neg_le {k = zero} h = absurd (omega arith)
neg_le {k = suc k} {n} h = le→leb n k (omega arith)

-- −k is at most −(n + 1) only where k is above n
le_neg : (k n : ℕ) → T (le_z (neg_ℤ (pos k)) (negsuc n)) → n < k
le_neg zero n h = absurd h
le_neg (suc k) n h = omega (arith, leb→le n k h)

-- the quotient rounded down is not above t / d
shr_not_above : (t : ℤ) {d : ℕ} → 1 ≤ d → T (le_z (pos d *ℤ shr_z t d) t)
shr_not_above (pos n) {d} h = le→leb (d * (n / d)) n (mul-div-le n d)
shr_not_above (negsuc n) {d} h = neg_le {k = d * suc (n / d)} (omega (arith, lt-mul-div-succ n h))

-- a whole number not above t / d is not above the quotient rounded down
shr_greatest : (t z : ℤ) {d : ℕ} → 1 ≤ d → T (le_z (pos d *ℤ z) t) → T (le_z z (shr_z t d))
shr_greatest (pos n) (pos m) {d} h k = le→leb m (n / d) ((le-div_iff_mul-le h).1 (omega (arith, leb→le (d * m) n k)))
shr_greatest (pos n) (negsuc m) h k = tt
shr_greatest (negsuc n) (pos m) h k = absurd k
shr_greatest (negsuc n) (negsuc m) {d} h k =
    let l : n / d < suc m = (div-lt_iff_lt-mul h).1 (omega (arith, le_neg (d * suc m) n k)) in
    le→leb (n / d) m (omega arith)

-- the quotient rounded down is the greatest whole number not above t / d
pub floor_shr : {t : ℤ} {d : ℕ} → 1 ≤ d → Floor t d (shr_z t d)
floor_shr {t} h = record { not_above = le_z_yes (shr_not_above t h); greatest = λ z k. le_z_yes (shr_greatest t z h k.le) }

-- the quotient of a number within ±d m is within ±m
pub shr_within : (t : ℤ) {d m : ℕ} → 1 ≤ d → nat_abs t ≤ d * m → nat_abs (shr_z t d) ≤ m
shr_within (pos n) {d} h k = div-le_of_le-mul d k
shr_within (negsuc n) h k = (div-lt_iff_lt-mul h).1 (omega arith)

-- a sum within the limit is kept
pub saturated_within : (z : ℤ) → nat_abs z ≤ sum_limit → saturated z ≡ z
unfolding saturated
saturated_within (pos n) h = ap pos (omega arith)
saturated_within (negsuc n) h = ap negsuc (omega arith)

-- what is kept is within the limit
pub saturated_le : (z : ℤ) → nat_abs (saturated z) ≤ sum_limit
unfolding saturated
saturated_le (pos n) = omega arith
saturated_le (negsuc n) = omega arith
