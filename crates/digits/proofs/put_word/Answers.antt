-- A byte more.
use Rattle.std.proofs.lemmas.List.{take_more}
use Rattle.digits.proofs.Putting.{then}
use Rattle.digits.proofs.put_word.Goals as goal

pub loop-byte-preserved : goal.loop-byte-preserved
loop-byte-preserved c = rw (take_more _ _ 0 c.loop-byte-test.true) (then c.loop-byte.invariant c.put-next.ensures)
