-- The state and its number.
use Rattle.std.proofs.Common.{◌≡◌, ℕ, zero, suc, min, refl, arith}
use Rattle.rules.specs.Pll.{mode_number}
use Rattle.pll.specs.Bridge.{mode_of}

-- the number of the state that a number stands for
pub number_mode : (n : ℕ) → mode_number (mode_of n) ≡ min 5 n
unfolding mode_of mode_number
number_mode zero = refl
number_mode (suc zero) = refl
number_mode (suc (suc zero)) = refl
number_mode (suc (suc (suc zero))) = refl
number_mode (suc (suc (suc (suc zero)))) = refl
number_mode (suc (suc (suc (suc (suc n))))) = omega arith
