-- The sums before place k are moved, and the next is what stood before place k.
use Rattle.std.proofs.Common.{◌≡◌, ◌∷◌, get_or, pos}
use Rattle.history.proofs.Shift.{moved}
use Rattle.history.proofs.push.Given as goal

abbrev pub invariant-loop-k : goal.invariant-loop-k
invariant-loop-k l = (l.sums ≡ moved l.k l.x l.initial.sums) × (l.next ≡ get_or (l.x ∷ l.initial.sums) l.k (pos 0))
