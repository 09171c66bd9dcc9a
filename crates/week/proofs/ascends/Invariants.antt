-- Whether all ascend is whether those that are left do, after the end of the one before.
use Rattle.std.proofs.Common.{◌≡◌, map, drop}
use Rattle.rules.specs.Week.{ascending}
use Rattle.week.specs.Bridge.{window_of}
use Rattle.week.proofs.ascends.Given as goal

abbrev pub invariant-loop-start : goal.invariant-loop-start
invariant-loop-start l = ascending 0 (map window_of l.windows) ≡ ascending l.from (map window_of (drop l.start-index l.windows))
