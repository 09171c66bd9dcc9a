-- The floor is not above the delay, for every number of minutes.
use Prim.Native.Nat.{ℕ, ◌≤◌}
use native.Mathlib.Omega.{arith}
use Rattle.rules.specs.Settings.{delay_ticks}
use Rattle.waits.specs.Floor.{delay_floor}

pub floor_le : (minutes : ℕ) → delay_floor minutes ≤ delay_ticks minutes
unfolding delay_ticks
floor_le minutes = omega arith
