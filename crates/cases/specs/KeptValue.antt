-- Request #102, as a table: "Operators lose the value at each reference switch and fall to Free Run if the new clock dies within 12 minutes." Under the old rules
-- this unit was Ready and goes to Free Run; now it goes to Holdover, with the value.
use Rattle.std.specs.Prelude.{true, false, List, [], ◌∷◌, ◌++◌, pos, replicate}
use Rattle.rules.specs.Events.{Event, tick_with}
use Rattle.rules.specs.Monitors.{Input, full_soak}
use Rattle.rules.specs.Pll.{free_run, holdover, locked, lock_ticks}
use Rattle.rules.specs.Selection.{settled}
use Rattle.rules.specs.History.{refilled, with_last, value, fresh_history}
use Rattle.rules.specs.State.{State, mode, Ready}
use Rattle.rules.specs.Registers.{written, fresh}
use Rattle.rules.specs.Run.{run}
use Rattle.rules.specs.OldHistory.{old_run}
use Rattle.rules.specs.Table.{Row, ◌is◌, Holds}

-- an input that is qualified
abbrev good : Input
good = record { activity = record { level = 0; decay = 0; alarm = false }; frequency = false; remainder = 0; soak = full_soak }

-- Inputs 1 and 2 are qualified; 1 is selected, and Locked; automatic control and policy 0. The history has a mean of 7, and lacks one sample to 43 blocks.
abbrev nearly_ready : State
nearly_ready =
    record {
      inputs = good ∷ good ∷ replicate 6 (record { activity = good.activity; frequency = true; remainder = 0; soak = 0 });
      buckets = fresh.buckets;
      settings = written 0x40 1 fresh.settings;
      loop = record { mode = locked; lock_run = lock_ticks; unlock_run = 0 };
      choice = settled 1;
      history = with_last 1 (refilled (replicate 42 (pos 896)) false [] (pos 889) 127 fresh_history);
      holding = 0;
      week = fresh.week;
    }

-- that sample
abbrev last_sample : List Event
last_sample = tick_with 0 true (pos 7) ∷ []

-- then 1 stops, 2 is selected and Locked, and 2 stops too
abbrev both_stop : List Event
both_stop = last_sample ++ replicate 6 (tick_with 0b01 false (pos 0)) ++ replicate 16 (tick_with 0b01 true (pos 9)) ++ replicate 6 (tick_with 0b11 false (pos 0))

unfoldable pub table : List Row
table =
    Ready (run nearly_ready last_sample) is true
    ∷ mode (run nearly_ready both_stop) is holdover
    ∷ value (run nearly_ready both_stop).history is pos 7
    ∷ Ready (old_run nearly_ready last_sample) is true
    ∷ mode (old_run nearly_ready both_stop) is free_run
    ∷ []

abbrev pub KeptValue : Type 0
KeptValue = Holds table
