-- After i settings their records are written, and the rest, run from the state so far, gives the rest of them and the same state. What is handed to the ticks
-- follows from the registers.
use Rattle.std.proofs.Common.{ℕ, ◌≡◌, ◌-◌, ◌*◌, List, length, drop}
use Rattle.rules.specs.Run.{run}
use Rattle.rules.specs.Registers.{settings_from}
use Rattle.rules.specs.Sheet.{settings_of, records}
use Rattle.buckets.specs.declared.Buckets.{Buckets}
use Rattle.selection.specs.Bridge.{Follows}
use Rattle.state.specs.Stored.{meaning, unit_of}
use Rattle.run.proofs.Turns.{Going}
use Rattle.run.proofs.run_settings.Given as goal

abbrev pub invariant-loop-i : goal.invariant-loop-i
invariant-loop-i l =
    (length l.out ≡ length l.initial.out)
    × Follows (settings_from l.regs) l.handed.keys l.handed.floor
    × ((b : Buckets) (w : List ℕ)
    → Going (records (meaning (unit_of l.initial.k l.m b l.initial.h w l.initial.regs)) (settings_of l.n l.part)) l.initial.out
    (4 * l.i) (meaning (unit_of l.k l.m b l.h w l.regs)) (settings_of (l.n - l.i) (drop (2 * l.i) l.part)) l.out)
    × ((b : Buckets) (w : List ℕ)
    → run (meaning (unit_of l.k l.m b l.h w l.regs)) (settings_of (l.n - l.i) (drop (2 * l.i) l.part))
    ≡ run (meaning (unit_of l.initial.k l.m b l.initial.h w l.initial.regs)) (settings_of l.n l.part))
