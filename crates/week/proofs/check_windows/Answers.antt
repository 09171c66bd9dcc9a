-- The check of the windows that are given, no more than eight.
use Rattle.std.proofs.Common.{rules, length-take, arith}
use Rattle.week.proofs.Windows.{few, pairs_long}
use Rattle.week.proofs.check_windows.Goals as goal

pub slice_bounds-given-end : goal.slice_bounds-given-end
slice_bounds-given-end c = omega (arith, pairs_long c.pairs.result.now c.args.windows.now c.pairs.ensures, length-take c.from.result c.pairs.result.now)

pub returns-then-fit : goal.returns-then-fit
returns-then-fit c =
    rw (few c.args.count c.args.windows.now c.pairs.result.now _ c.fit.result c.pairs.ensures (omega arith) (search rules) c.fit.ensures, c.if-fit.true)

pub returns-else-fit : goal.returns-else-fit
returns-else-fit c =
    rw (few c.args.count c.args.windows.now c.pairs.result.now _ c.fit.result c.pairs.ensures (omega arith) (search rules) c.fit.ensures, c.if-fit.false)
