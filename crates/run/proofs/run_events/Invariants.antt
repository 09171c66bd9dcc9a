-- After i events their records are written, and the rest, run from the state so far, gives the rest of them. What is handed to the ticks suits the unit.
use Rattle.std.proofs.Common.{◌-◌, ◌*◌, drop}
use Rattle.rules.specs.Sheet.{events_of, records}
use Rattle.state.specs.Stored.{meaning, unit_of}
use Rattle.tick.specs.Handed.{Suits}
use Rattle.run.proofs.Turns.{Going}
use Rattle.run.proofs.run_events.Given as goal

abbrev pub invariant-loop-i : goal.invariant-loop-i
invariant-loop-i l =
    Suits l.numbers l.handed l.fn.u.buckets l.regs
    × Going (records (meaning l.fn.u) (events_of l.n l.part)) l.initial.out
    (4 * l.i) (meaning (unit_of l.k l.m l.fn.u.buckets l.h l.windows l.regs)) (events_of (l.n - l.i) (drop (8 * l.i) l.part)) l.out
