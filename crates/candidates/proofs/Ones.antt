-- The ones of a mask.
use Rattle.std.specs.Prelude.{if◌then◌else◌}
use Prim.Native.Nat.{ℕ, zero, suc, ◌+◌, ◌^◌, ◌<◌}
use mathlib.Core.Path.{◌≡◌, refl, ap, sym, ◌∙◌}
use mathlib.Core.Bool.{Bool, true, false}
use native.Mathlib.Nat.{zero-add, one-mul, pow-suc}
use native.Mathlib.Omega.{arith}
use lib.Count.{ones, ones_cat}
use Rattle.rules.specs.Reading.{mask_up_to, count_up_to}

-- they are how many tests pass
pub ones_mask : (t : ℕ → Bool) (k : ℕ) → (ones (mask_up_to t k) ≡ count_up_to t k) × (mask_up_to t k < 2 ^ k)
unfolding mask_up_to count_up_to ones
ones_mask t zero = (refl, omega arith)
ones_mask t (suc k) = go (t (suc k)) (ones_mask t k)
  where
    m : ℕ
    m = mask_up_to t k

    go : (b : Bool) → (ones m ≡ count_up_to t k) × (m < 2 ^ k)
        → (ones ((if b then 2 ^ k else 0) + m) ≡ (if b then 1 else 0) + count_up_to t k) × ((if b then 2 ^ k else 0) + m < 2 ^ suc k)
    go true h =
        (ap (λ (n : ℕ). ones (n + m)) (sym (one-mul (2 ^ k))) ∙ ones_cat k 1 m h.1 ∙ ap (λ (n : ℕ). 1 + n) h.0, rw (pow-suc 2 k) (omega (arith, h.1)))
    go false h = (ap ones (zero-add m) ∙ h.0 ∙ sym (zero-add (count_up_to t k)), rw (pow-suc 2 k) (omega (arith, h.1)))
