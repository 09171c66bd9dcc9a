-- The value: it is the mean rounded down, and no greater in magnitude than a sample.
use Prim.Native.Nat.{◌*◌, ◌≤◌}
use mathlib.Core.List.{List, [], ◌∷◌}
use native.Mathlib.Omega.{arith}
use lib.IntN.{ℤ, nat_abs}
use lib.ListN.{length}
use Rattle.rules.specs.History.{sum_limit, sum_of, value}
use Rattle.rules.specs.Laws.{Within, Value, ValueRange}
use Rattle.rules.proofs.Integers.{natAbs-+, floor_shr, shr_within}

-- the value is the greatest whole number not above the mean
pub value_floor : Value
unfolding value
value_floor h p = floor_shr (omega arith)

-- a sum of numbers within the limit is within the limit as often as there are numbers
sum_within : (l : List ℤ) → Within l → nat_abs (sum_of l) ≤ length l * sum_limit
unfolding sum_of
sum_within [] w = omega arith
sum_within (z ∷ zs) w = omega (arith, natAbs-+ z (sum_of zs), sum_within zs w.1)

-- the value is within ±125,000,000
pub value_range : ValueRange
unfolding value
value_range h p w = shr_within (sum_of h.kept) (omega arith) (omega (arith, sum_within h.kept w))
