-- From the stored numbers of the inputs to the rules' inputs.
use Rattle.std.specs.Prelude.{ℕ, Bool, not, List, eqb, leb, ltb, get_or, if◌then◌else◌}
use Rattle.rules.specs.Monitors.{Input}
use Rattle.rules.specs.Inputs.{Inputs}
use Rattle.buckets.specs.Bridge.{eight}
use Rattle.inputs.specs.declared.Monitors.{Monitors}

-- an alarm that is a number: 0 is clear, any other number is set
abbrev pub is_set : ℕ → Bool
is_set n = not (eqb n 0)

-- the frequency alarm after a measurement, as a number: the rule's, but for what a set alarm's number is (`frequency_set` in proofs/ByLane)
abbrev pub frequency_number : ℕ → ℕ → ℕ → ℕ → ℕ
frequency_number reject limit magnitude frequency = if ltb reject magnitude then 1 else (if leb magnitude limit then 0 else frequency)

-- the input in a lane of the rows: input 1 is in lane 0
abbrev pub input_at : Monitors → ℕ → Input
input_at m k =
    record {
      activity = record { level = get_or m.level k 0; decay = get_or m.decay k 0; alarm = is_set (get_or m.activity k 0) };
      frequency = is_set (get_or m.frequency k 0);
      remainder = get_or m.remainder k 0;
      soak = get_or m.soak k 0;
    }

-- the rules' eight inputs that the rows hold
unfoldable pub inputs_of : Monitors → Inputs
inputs_of m = eight (input_at m)

-- ---- some of the rows replaced

-- other levels, decay counts and activity alarms
abbrev pub with_activity : Monitors → List ℕ → List ℕ → List ℕ → Monitors
with_activity m level decay activity =
    record { level = level; decay = decay; activity = activity; frequency = m.frequency; remainder = m.remainder; soak = m.soak }

-- other frequency alarms, remainders and soaks
abbrev pub with_alarms : Monitors → List ℕ → List ℕ → List ℕ → Monitors
with_alarms m frequency remainder soak =
    record { level = m.level; decay = m.decay; activity = m.activity; frequency = frequency; remainder = remainder; soak = soak }

abbrev pub with_frequency : Monitors → List ℕ → Monitors
with_frequency m frequency = with_alarms m frequency m.remainder m.soak

abbrev pub with_lock_alarms : Monitors → List ℕ → List ℕ → Monitors
with_lock_alarms m remainder soak = with_alarms m m.frequency remainder soak

abbrev pub with_soak : Monitors → List ℕ → Monitors
with_soak m soak = with_alarms m m.frequency m.remainder soak
