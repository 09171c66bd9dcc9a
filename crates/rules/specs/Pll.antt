-- Document 01, "PLL (step 3)".
use Rattle.std.specs.Prelude.{ℕ, ◌+◌, min, Bool, eqb, if◌then◌else◌}

-- the unit's state: "0 Free Run, 1 Holdover, 2 Pre-locked, 3 Locked, 4 Loss of lock, 5 Pre-locked 2"
pub data Mode : Type 0 where
  free_run holdover pre_locked locked loss_of_lock pre_locked2 : Mode

unfoldable pub mode_number : Mode → ℕ
mode_number free_run = 0
mode_number holdover = 1
mode_number pre_locked = 2
mode_number locked = 3
mode_number loss_of_lock = 4
mode_number pre_locked2 = 5

-- the state is this one
abbrev pub is : Mode → Mode → Bool
is m mode = eqb (mode_number mode) (mode_number m)

pub record Loop : Type 0 where
  pub mode : Mode
  pub lock_run : ℕ
  pub unlock_run : ℕ

-- the lock run of Locked, and the unlock run that sets a lock alarm (100 s)
abbrev pub lock_ticks : ℕ
lock_ticks = 16

abbrev pub unlock_ticks : ℕ
unlock_ticks = 782

-- "Locked becomes Loss of lock"
unfoldable pub unlocked : Mode → Mode
unlocked mode = if is locked mode then loss_of_lock else mode

-- "Lock flag set: lock run +1 up to 16, unlock run 0. Clear: unlock run +1, lock run 0, and Locked becomes Loss of lock. Lock run 16 gives Locked."
-- The unlock run stops at 782; from fresh it never comes past it (`Saturation` in Laws).
unfoldable pub looped : Bool → Loop → Loop
looped lock p =
    if lock then
    record {
      mode = if eqb (min lock_ticks (p.lock_run + 1)) lock_ticks then locked else p.mode;
      lock_run = min lock_ticks (p.lock_run + 1);
      unlock_run = 0;
    }
    else record { mode = unlocked p.mode; lock_run = 0; unlock_run = min unlock_ticks (p.unlock_run + 1) }

-- "Unlock run 782 (100 s) sets that input's lock alarm"
unfoldable pub alarm_due : Loop → Bool
alarm_due p = eqb p.unlock_run unlock_ticks
