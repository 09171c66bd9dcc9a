-- While each event so far is one, those that are left decide.
use Rattle.std.proofs.Common.{◌≡◌, ◌/◌, length}
use Rattle.rules.specs.Sheet.{all_events}
use Rattle.sheet.proofs.read_all.Given as goal

abbrev pub invariant-loop-event : goal.invariant-loop-event
invariant-loop-event l =
    let rest = l.event-iterator.rest.now in
    (l.event-iterator.size ≡ 8) × (all_events (length l.part / 8) l.part ≡ all_events (length rest / 8) rest)
