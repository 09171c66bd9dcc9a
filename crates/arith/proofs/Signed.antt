-- Whole numbers as the machine holds them, of any width, by their sign.
use Prim.Native.Nat.{ℕ, zero, suc, ◌^◌, ◌<◌}
use mathlib.Core.Path.{◌≡◌, refl, ap, sym, ◌∙◌, subst}
use mathlib.Core.Bool.{true, false, true≢false}
use native.Mathlib.Nat.{zero-add}
use native.Mathlib.Omega.{arith}
use lib.IntN.{ℤ, pos, negsuc, ◌-ℤ◌}
use lib.Signed.{mag, lt_z}
use mir.Syntax.{Width}
use mir.Val.{hbits, SFits, to_z, of_z}
use mir.Facts.{to_z-of_z, to_z_pos}
use borrow.Author.Tests.{ltb-true, le-ltb}

-- −1 − z of a number that is not below 0, and of one that is
flip_pos : (n : ℕ) → negsuc 0 -ℤ pos n ≡ negsuc n
flip_pos zero = refl
flip_pos (suc n) = ap (λ (k : ℕ). negsuc (suc k)) (zero-add n)

flip_neg : (z : ℤ) → lt_z z (pos 0) ≡ true → negsuc 0 -ℤ z ≡ pos (mag z)
flip_neg (pos n) h = absurd (omega (arith, ltb-true n 0 h))
flip_neg (negsuc n) h = rw (le-ltb (suc n) 1 (omega arith)) (ap pos (omega arith))

-- a number by its sign
neg_mag : (z : ℤ) → lt_z z (pos 0) ≡ true → negsuc (mag z) ≡ z
neg_mag (pos n) h = absurd (omega (arith, ltb-true n 0 h))
neg_mag (negsuc n) h = refl

pos_mag : (z : ℤ) → lt_z z (pos 0) ≡ false → pos (mag z) ≡ z
pos_mag (pos n) h = refl
pos_mag (negsuc n) h = absurd (true≢false h)

-- −1 − n of a magnitude, as the machine has it, and that it fits
module _ (w : Width) (n : ℕ) (h : n < 2 ^ hbits w) where
  pub flip_magnitude : negsuc 0 -ℤ to_z w n ≡ negsuc n
  flip_magnitude = ap (λ (y : ℤ). negsuc 0 -ℤ y) (to_z_pos w h) ∙ flip_pos n

  pub flip_fits : SFits w (negsuc 0 -ℤ to_z w n)
  flip_fits = subst (SFits w) (sym flip_magnitude) (record { sfits = h })

  pub flip_stored : to_z w (of_z w (negsuc 0 -ℤ to_z w n)) ≡ negsuc n
  flip_stored = to_z-of_z flip_fits ∙ flip_magnitude

-- a number of a width, below 0 or not
module _ {w : Width} (z : ℤ) (f : SFits w z) where
  pub below : lt_z (to_z w (of_z w z)) (pos 0) ≡ true → negsuc (mag z) ≡ z
  below h = neg_mag z (rw (to_z-of_z f) at h)

  pub above : lt_z (to_z w (of_z w z)) (pos 0) ≡ false → pos (mag z) ≡ z
  above h = pos_mag z (rw (to_z-of_z f) at h)

  pub flips : lt_z (to_z w (of_z w z)) (pos 0) ≡ true → negsuc 0 -ℤ to_z w (of_z w z) ≡ pos (mag z)
  flips h = rw (to_z-of_z f) (flip_neg z (rw (to_z-of_z f) at h))

  pub flips_fits : lt_z (to_z w (of_z w z)) (pos 0) ≡ true → SFits w (negsuc 0 -ℤ to_z w (of_z w z))
  flips_fits h = subst (SFits w) (sym (flips h)) (record { sfits = f.sfits })

  pub flips_back : lt_z (to_z w (of_z w z)) (pos 0) ≡ true → to_z w (of_z w (negsuc 0 -ℤ to_z w (of_z w z))) ≡ pos (mag z)
  flips_back h = to_z-of_z (flips_fits h) ∙ flips h

  pub stays : lt_z (to_z w (of_z w z)) (pos 0) ≡ false → to_z w (of_z w z) ≡ pos (mag z)
  stays h = to_z-of_z f ∙ sym (above h)
