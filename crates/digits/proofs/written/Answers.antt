-- A digit more, the last digit, or the last column.
use Rattle.std.proofs.Common.{arith}
use Rattle.digits.proofs.Columns.{none_written, one_written, all_written, first_at, columns_full, none_before}
use Rattle.digits.proofs.written.Goals as goal

pub loop-i-init : goal.loop-i-init
loop-i-init c = none_written _ _ _ c.requires

pub loop-i-preserved : goal.loop-i-preserved
loop-i-preserved c = rw c.digit.ensures (one_written (omega arith) c.loop-i.invariant (omega arith))

pub returns-clause-columns : goal.returns-clause-columns
returns-clause-columns c = columns_full c.loop-i-test.false c.loop-i.invariant

pub returns-clause-start : goal.returns-clause-start
returns-clause-start c = none_before c.loop-i-test.false c.loop-i.invariant

pub returns-then-rest-lt10-clause-columns : goal.returns-then-rest-lt10-clause-columns
returns-then-rest-lt10-clause-columns c = rw c.digit.ensures (all_written (omega arith) c.loop-i.invariant (omega arith))

pub returns-then-rest-lt10-clause-start : goal.returns-then-rest-lt10-clause-start
returns-then-rest-lt10-clause-start c = first_at (omega arith) c.loop-i.invariant (omega arith)
