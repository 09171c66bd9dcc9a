-- The measurement and the events of a sheet as document 01 has them, before request #106: an offset is a "signed byte in 0.5 ppm", compared with the limits as
-- they stand, and a sheet has kinds 0 to 3. For the comparison (FinerReadings.antt, and `UnitAsBefore` of crate host) and for nothing else; everything but the
-- measurement and the kinds is as the rules have it.
use Rattle.std.specs.Prelude.{ℕ, zero, suc, ◌+◌, Bool, true, ◌&&◌, List, [], ◌∷◌, ◌++◌, ltb, eqb, ℤ, drop, if◌then◌else◌}
use Rattle.rules.specs.Events.{Event, tick, measurement, hit, write, set_bucket, assign_bucket, set_week, set_windows}
use Rattle.rules.specs.Monitors.{measured}
use Rattle.rules.specs.Settings.{reject, qualification}
use Rattle.rules.specs.Inputs.{altered}
use Rattle.rules.specs.State.{State, with_inputs}
use Rattle.rules.specs.Registers.{fresh}
use Rattle.rules.specs.Refusals.{refusal, accepted}
use Rattle.rules.specs.Run.{effect, Outcome}
use Rattle.rules.specs.Sheet.{signed_byte, Decoded, event, bad, is_zero, fields, decode_by, settings_count, events_at, events_count, settings_of, before, is_event, check_by, record_of}

-- ---- the run of a list, whose offsets are in 0.5 ppm

-- what an accepted event leaves: "A measurement's magnitude above the reject limit sets the frequency alarm", the limit being what the register holds
unfoldable pub coarse_effect : State → Event → State
coarse_effect s (tick t) = effect s (tick t)
coarse_effect s (measurement i offset) = with_inputs (altered (measured (reject s.settings) (qualification s.settings) offset) i s.inputs) s
coarse_effect s hit = effect s hit
coarse_effect s (write a v) = effect s (write a v)
coarse_effect s (set_bucket n size set_level clear_level d) = effect s (set_bucket n size set_level clear_level d)
coarse_effect s (assign_bucket i n) = effect s (assign_bucket i n)
coarse_effect s (set_week place) = effect s (set_week place)
coarse_effect s (set_windows windows) = effect s (set_windows windows)

unfoldable pub coarse_outcome : State → Event → Outcome
coarse_outcome s e = record { refusal = refusal s e; state = if accepted s e then coarse_effect s e else s }

unfoldable pub coarse_run : State → List Event → State
coarse_run s [] = s
coarse_run s (e ∷ es) = coarse_run (coarse_outcome s e).state es

unfoldable pub coarse_records : State → List Event → List ℕ
coarse_records s [] = []
coarse_records s (e ∷ es) = let o = coarse_outcome s e in record_of o ++ coarse_records o.state es

-- ---- a sheet

-- 12: "kind over 3, lock over 1, or unused field not 0"; "1 measurement (a input, b offset)"; kinds 0, 2 and 3 as the rules have them
unfoldable pub coarse_fields : ℕ → ℕ → ℕ → ℤ → Decoded
coarse_fields kind a b w =
    if ltb 3 kind then bad
    else (if eqb kind 1 then (if is_zero w then event (measurement a (signed_byte b)) else bad)
    else fields kind a b w)

unfoldable pub coarse_decode : List ℕ → Decoded
coarse_decode l = decode_by coarse_fields l

unfoldable pub coarse_events_of : ℕ → List ℕ → List Event
coarse_events_of zero l = []
coarse_events_of (suc k) l = before (coarse_decode l) (coarse_events_of k (drop 8 l))

unfoldable pub coarse_all_events : ℕ → List ℕ → Bool
coarse_all_events zero l = true
coarse_all_events (suc k) l = is_event (coarse_decode l) && coarse_all_events k (drop 8 l)

-- its events, its check, and the records of its run
unfoldable pub coarse_sheet_events : List ℕ → List Event
coarse_sheet_events s = settings_of (settings_count s) (drop 2 s) ++ coarse_events_of (events_count s) (drop (events_at s + 2) s)

unfoldable pub coarse_check : List ℕ → ℕ → ℕ
coarse_check s room = check_by (coarse_all_events (events_count s) (drop (events_at s + 2) s)) s room

unfoldable pub coarse_front : List ℕ → ℕ → List ℕ
coarse_front s room = if eqb (coarse_check s room) 0 then coarse_records fresh (coarse_sheet_events s) else []
