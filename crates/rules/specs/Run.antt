-- What each event leaves, and a list of events.
use Rattle.std.specs.Prelude.{ℕ, ◌*◌, List, [], ◌∷◌, eqb, ℤ, if◌then◌else◌}
use Rattle.rules.specs.Events.{Event, tick, measurement, hit, write, set_bucket, assign_bucket, set_week, set_windows, half_ppm}
use Rattle.rules.specs.Monitors.{Bucket, measured, unsoaked}
use Rattle.rules.specs.Settings.{reject, qualification}
use Rattle.rules.specs.Inputs.{altered}
use Rattle.rules.specs.Selection.{settled, unselected_loop}
use Rattle.rules.specs.Buckets.{bucket_from, set_at, with_set, with_assigned, put_at_size, having}
use Rattle.rules.specs.History.{open_emptied, commanded}
use Rattle.rules.specs.State.{State, selected, Ready, with_inputs, with_buckets, with_settings, with_loop, with_choice, with_history, with_holding, with_week}
use Rattle.rules.specs.Tick.{ticked}
use Rattle.rules.specs.Registers.{written}
use Rattle.rules.specs.Refusals.{refusal, accepted}

-- a measurement, on one input. #106: "the limits are compared as 32 times theirs"
unfoldable pub after_measurement : ℕ → ℤ → State → State
after_measurement i offset s =
    with_inputs (altered (measured (half_ppm * reject s.settings) (half_ppm * qualification s.settings) offset) i s.inputs) s

-- "Hit: the selected reference's soak becomes 0, selected 0, wait and runs 0, the open block empties, state Holdover or Free Run by Ready."
unfoldable pub after_hit : State → State
after_hit s =
    with_inputs (altered unsoaked (selected s) s.inputs)
    (with_loop (unselected_loop (Ready s)) (with_choice (settled 0) (with_history (open_emptied s.history) (with_holding 0 s))))

-- A write of 0x26 is a command to the history; any other is a setting. "Commands do not change the state before the next tick."
unfoldable pub after_write : ℕ → ℕ → State → State
after_write a v s = if eqb a 0x26 then with_history (commanded v s.history) s else with_settings (written a v s.settings) s

-- the inputs that a call concerns are put at their size
unfoldable pub after_set : ℕ → Bucket → State → State
after_set n b s = with_buckets (with_set n b s.buckets) (with_inputs (put_at_size (having s.buckets n) b.size s.inputs) s)

unfoldable pub after_assign : ℕ → ℕ → State → State
after_assign i n s = with_buckets (with_assigned i n s.buckets) (with_inputs (put_at_size (eqb i) (set_at s.buckets n).size s.inputs) s)

-- what an accepted event leaves
unfoldable pub effect : State → Event → State
effect s (tick t) = ticked t s
effect s (measurement i offset) = after_measurement i offset s
effect s hit = after_hit s
effect s (write a v) = after_write a v s
effect s (set_bucket n size set_level clear_level d) = after_set n (bucket_from size set_level clear_level d) s
effect s (assign_bucket i n) = after_assign i n s
effect s (set_week place) = with_week (record { place = place; windows = s.week.windows }) s
effect s (set_windows windows) = with_week (record { place = s.week.place; windows = windows }) s

-- what any event leaves: one that is turned down leaves the state "as before"
unfoldable pub next : State → Event → State
next s e = if accepted s e then effect s e else s

-- an event's number, 0 if it is accepted, and the state that it leaves
pub record Outcome : Type 0 where
  pub refusal : ℕ
  pub state : State

unfoldable pub outcome : State → Event → Outcome
outcome s e = record { refusal = refusal s e; state = next s e }

-- a list of events: "each event gets the state that the one before it left"
unfoldable pub run : State → List Event → State
run s [] = s
run s (e ∷ es) = run (next s e) es
