-- Every part is fresh, and the registers are those given.
use Rattle.std.proofs.Common.{List, ℤ, pos, replicate}
use Rattle.rules.specs.Registers.{fresh, fresh_with, settings_from}
use Rattle.rules.specs.Week.{fresh_week}
use Rattle.state.proofs.Unit.make_with.Goals as goal

-- sixty-four sums of 0
abbrev zeros : List ℤ
zeros = replicate 64 (pos 0)

pub returns : goal.returns
unfolding fresh fresh_with fresh_week
returns c =
    let (history, choice, loop, holding, place) = c.fresh-self.ensures in
    λ i. record {
      inputs = c.fresh-self-2.ensures i;
      buckets = c.fresh_buckets-self.ensures i;
      settings = settings_from c.args.values.now;
      loop = loop i;
      choice = choice i;
      history = history zeros zeros zeros i;
      holding = holding i;
      week = record { place = place i; windows = c.no_windows-self.ensures i };
    }
