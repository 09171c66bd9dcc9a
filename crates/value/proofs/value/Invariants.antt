-- The loop's invariant: the sum so far is that of the first sums in use.
use Rattle.std.proofs.Common.{◌≡◌}
use Rattle.rules.specs.History.{sum_of}
use Rattle.history.specs.Bridge.{first_sums}
use Rattle.value.proofs.value.Given as goal

abbrev pub invariant-loop-s : goal.invariant-loop-s
invariant-loop-s l = l.sum ≡ sum_of (first_sums l.s-index l.s-items)
