-- The bytes so far are put.
use Rattle.std.proofs.Common.{take}
use Rattle.digits.specs.Puts.{Puts}
use Rattle.digits.proofs.put_word.Given as goal

abbrev pub invariant-loop-byte : goal.invariant-loop-byte
invariant-loop-byte l = Puts (take l.byte-index l.word) l.at l.initial.out l.next l.out
