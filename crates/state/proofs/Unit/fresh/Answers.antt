-- Every part is fresh, and the registers are the column Fresh.
use Rattle.std.proofs.Common.{List, ℤ, pos, replicate}
use Rattle.rules.specs.Registers.{fresh, fresh_with}
use Rattle.rules.specs.Week.{fresh_week}
use Rattle.week.specs.Bridge.{week_of}
use Rattle.state.proofs.Unit.fresh.Goals as goal

-- sixty-four sums of 0
abbrev zeros : List ℤ
zeros = replicate 64 (pos 0)

pub returns : goal.returns
unfolding fresh fresh_with fresh_week
returns c =
    let (history, choice, loop, holding, place) = c.fresh.ensures in
    λ i. record {
      inputs = c.fresh-2.ensures i;
      buckets = c.fresh_buckets.ensures i;
      settings = c.fresh_registers.ensures i;
      loop = loop i;
      choice = choice i;
      history = history zeros zeros zeros i;
      holding = holding i;
      week = record { place = place i; windows = c.no_windows.ensures i };
    }
