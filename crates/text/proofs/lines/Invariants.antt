-- The lines of the first i records follow the first line.
use Rattle.rules.specs.Printout.{record_lines}
use Rattle.digits.specs.Puts.{Puts}
use Rattle.text.proofs.lines.Given as goal

abbrev pub invariant-loop-i : goal.invariant-loop-i
invariant-loop-i l = Puts (record_lines l.i 0 l.records) l.initial.next l.initial.out l.next l.out
