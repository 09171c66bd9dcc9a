-- From the code's PLL to the rules'.
use Rattle.std.specs.Prelude.{ℕ, [], ◌∷◌, get_or}
use Rattle.rules.specs.Pll.{Mode, free_run, holdover, pre_locked, locked, loss_of_lock, pre_locked2, Loop}
use Rattle.pll.specs.declared.Loop as code
use Rattle.pll.specs.declared.Mode as modes
use Rattle.pll.specs.declared.Mode.TheVariants as names

-- the state by the name that the code gives it
abbrev pub named : modes.Mode → Mode
named names.FreeRun = free_run
named names.Holdover = holdover
named names.PreLocked = pre_locked
named names.Locked = locked
named names.LossOfLock = loss_of_lock
named names.PreLocked2 = pre_locked2

-- The state by the number that 0x48 shows, the rules' `mode_number` (what `u32::from` promises of each state): 5, and any number past it, is Pre-locked 2.
unfoldable pub mode_of : ℕ → Mode
mode_of n = get_or (free_run ∷ holdover ∷ pre_locked ∷ locked ∷ loss_of_lock ∷ []) n pre_locked2

abbrev pub loop_of : code.Loop → Loop
loop_of p = record { mode = mode_of p.mode; lock_run = p.lock; unlock_run = p.unlock }
