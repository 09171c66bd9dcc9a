-- Request #106 of document 02: what the finer readings leave as it was, against the rules before them (OldReadings.antt), and the width of an offset.
use Rattle.std.specs.Prelude.{ℕ, zero, suc, ◌+◌, ◌≤◌, ◌≡◌, Bool, true, false, not, ◌&&◌, List, map, eqb, ℤ, nat_abs, get_or, drop}
use Rattle.rules.specs.Events.{Event, tick, measurement, hit, write, set_bucket, assign_bucket, set_week, set_windows, old_kind}
use Rattle.rules.specs.Settings.{qualification}
use Rattle.rules.specs.State.{State}
use Rattle.rules.specs.Run.{outcome, run}
use Rattle.rules.specs.Sheet.{Decoded, event, bad, is_offset, fields, events_at, events_count, check, front}
use Rattle.rules.specs.OldReadings.{coarse_outcome, coarse_run, coarse_fields, coarse_check, coarse_front}
use Rattle.rules.specs.Service.{Fair}

-- ---- a history

-- what an event before the request, its offset in 0.5 ppm, is now: "A measurement of the old kind means 32 times its byte"
abbrev pub finer : Event → Event
finer (tick t) = tick t
finer (measurement i offset) = old_kind i offset
finer hit = hit
finer (write a v) = write a v
finer (set_bucket n size set_level clear_level d) = set_bucket n size set_level clear_level d
finer (assign_bucket i n) = assign_bucket i n
finer (set_week place) = set_week place
finer (set_windows windows) = set_windows windows

-- each event, in every state: number and state are those of the rules before
abbrev pub EventAsBefore : Type 0
EventAsBefore = (s : State) (e : Event) → outcome s (finer e) ≡ coarse_outcome s e

-- a list whose measurements are all of the old kind leaves what it left under the rules before, from a fresh unit and from every other state
abbrev pub HistoryAsBefore : Type 0
HistoryAsBefore = (s : State) (es : List Event) → run s (map finer es) ≡ coarse_run s es

-- what the promise of service asks of such a measurement is what it asked before: that r's is "in magnitude not above the qualification limit"
abbrev pub ProvisoAsBefore : Type 0
ProvisoAsBefore =
    (r i : ℕ) (s : State) (offset : ℤ)
    → (Fair r s (old_kind i offset) → i ≡ r → nat_abs offset ≤ qualification s.settings)
    × ((i ≡ r → nat_abs offset ≤ qualification s.settings) → Fair r s (old_kind i offset))

-- ---- fields, and a sheet

-- decoded fields before the request, as they are now
abbrev pub finer_decoded : Decoded → Decoded
finer_decoded (event e) = event (finer e)
finer_decoded bad = bad

-- fields of every kind but 4 are what they were: the events of a host that never sends it are of the old kind
abbrev pub FieldsAsBefore : Type 0
FieldsAsBefore = (kind a b : ℕ) (word : ℤ) → eqb kind 4 ≡ false → fields kind a b word ≡ finer_decoded (coarse_fields kind a b word)

-- none of k events is of kind 4
unfoldable pub without4 : ℕ → List ℕ → Bool
without4 zero l = true
without4 (suc k) l = not (eqb (get_or l 0 0) 4) && without4 k (drop 8 l)

-- "sheets without kind 4"
abbrev pub Without4 : List ℕ → Type 0
Without4 s = without4 (events_count s) (drop (events_at s + 2) s) ≡ true

-- "give the same records or refusal": the check's number for every output, and the front part of the output that a run hands back
abbrev pub SheetAsBefore : Type 0
SheetAsBefore = (s : List ℕ) (room : ℕ) → Without4 s → (check s room ≡ coarse_check s room) × (front s room ≡ coarse_front s room)

-- ---- the width

-- "The offset in a measurement becomes a 16-bit signed number": whatever fields are a measurement, its offset is one
abbrev pub SixteenBits : Type 0
SixteenBits = (kind a b i : ℕ) (word offset : ℤ) → fields kind a b word ≡ event (measurement i offset) → is_offset offset ≡ true

-- ---- together

pub record FinerReadings : Type 0 where
  pub event_as_before : EventAsBefore
  pub history_as_before : HistoryAsBefore
  pub proviso_as_before : ProvisoAsBefore
  pub fields_as_before : FieldsAsBefore
  pub sheet_as_before : SheetAsBefore
  pub sixteen_bits : SixteenBits
