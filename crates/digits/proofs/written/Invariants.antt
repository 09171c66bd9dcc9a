-- The digits of `rest` are left to write.
use Rattle.std.proofs.Common.{length}
use Rattle.rules.specs.Printout.{decimal}
use Rattle.rules.specs.Pages.{right_in}
use Rattle.digits.proofs.Columns.{Written}
use Rattle.digits.proofs.written.Given as goal

abbrev pub invariant-loop-i : goal.invariant-loop-i
invariant-loop-i l = Written (right_in (length l.initial.columns) (decimal l.n)) l.n (length l.initial.columns) l.i l.rest l.columns
