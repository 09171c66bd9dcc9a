-- Document 01, "Run sheet and rack program", with the kind of request #106 of document 02: a run sheet, its check, and the records of its run. Sheets and
-- outputs are lists of bytes.
use Rattle.std.specs.Prelude.{ℕ, zero, suc, ◌+◌, ◌*◌, ◌-◌, Bool, true, not, ◌&&◌, ◌||◌, List, [], ◌∷◌, ◌++◌, leb, ltb, eqb, ℤ, pos, negsuc, nat_abs, length, get_or, drop, if◌then◌else◌}
use Rattle.rules.specs.Events.{Event, tick_with, measurement, old_kind, hit, write}
use Rattle.rules.specs.State.{State}
use Rattle.rules.specs.Registers.{fresh}
use Rattle.rules.specs.Reading.{read}
use Rattle.rules.specs.Run.{Outcome, outcome}

-- ---- numbers in bytes, "low byte first"

abbrev pub word16 : List ℕ → ℕ → ℕ
word16 s at = get_or s at 0 + 256 * get_or s (at + 1) 0

abbrev pub word32 : List ℕ → ℕ → ℕ
word32 s at = word16 s at + 65536 * word16 s (at + 2)

-- the signed number whose two's complement is n, where half the values are negative
unfoldable pub signed : ℕ → ℕ → ℤ
signed half n = if ltb n half then pos n else negsuc (half + half - 1 - n)

abbrev pub signed_byte : ℕ → ℤ
signed_byte n = signed 128 n

abbrev pub signed_word : ℕ → ℤ
signed_word n = signed 2_147_483_648 n

-- ---- an event

-- what the fields of an event are: an event, or none
pub data Decoded : Type 0 where
  event : Event → Decoded
  bad : Decoded

-- its number: 0, or 12, "kind over 3, lock over 1, or unused field not 0"; #106: also "a word outside −32,768 to 32,767", and of kinds those "over 4 from
-- now on"
abbrev pub decoded_number : Decoded → ℕ
decoded_number (event e) = 0
decoded_number bad = 12

abbrev pub is_zero : ℤ → Bool
is_zero z = eqb (nat_abs z) 0

-- "a 16-bit signed number", −32,768 to 32,767; `negsuc n` is −(n + 1)
abbrev pub is_offset : ℤ → Bool
is_offset (pos n) = leb n 32_767
is_offset (negsuc n) = leb n 32_767

-- "Kind 0 tick (a mask, b lock 0 or 1, word sample)"
unfoldable pub tick_of : ℕ → ℕ → ℤ → Decoded
tick_of a b w = if ltb 1 b then bad else event (tick_with a (eqb b 1) w)

-- "1 measurement (a input, b offset)", of the old kind
unfoldable pub measurement_of : ℕ → ℕ → ℤ → Decoded
measurement_of a b w = if is_zero w then event (old_kind a (signed_byte b)) else bad

-- "2 Hit"
unfoldable pub hit_of : ℕ → ℕ → ℤ → Decoded
hit_of a b w = if eqb a 0 && eqb b 0 && is_zero w then event hit else bad

-- "3 write (a address, b value)"
unfoldable pub write_of : ℕ → ℕ → ℤ → Decoded
write_of a b w = if is_zero w then event (write a b) else bad

-- #106: "Sheet kind 4 has the input in a, b 0 and the offset in the word; a word outside −32,768 to 32,767 gives 12"
unfoldable pub finer_of : ℕ → ℕ → ℤ → Decoded
finer_of a b w = if eqb b 0 && is_offset w then event (measurement a w) else bad

-- the fields of one event: kind, a, b and the word. "Unused fields are 0."
unfoldable pub fields : ℕ → ℕ → ℕ → ℤ → Decoded
fields kind a b w =
    if eqb kind 0 then tick_of a b w
    else (if eqb kind 1 then measurement_of a b w
    else (if eqb kind 2 then hit_of a b w
    else (if eqb kind 3 then write_of a b w
    else (if eqb kind 4 then finer_of a b w
    else bad))))

-- "Event: kind, a, b, 0, 32-bit signed word low byte first": the first 8 bytes, by a rule for the fields
abbrev pub decode_by : (ℕ → ℕ → ℕ → ℤ → Decoded) → List ℕ → Decoded
decode_by rule l = if eqb (get_or l 3 0) 0 then rule (get_or l 0 0) (get_or l 1 0) (get_or l 2 0) (signed_word (word32 l 4)) else bad

unfoldable pub decode : List ℕ → Decoded
decode l = decode_by fields l

-- ---- the sections

-- A section is a "16-bit count and that many" items of one length; `at` is where it starts. Its count, and where it ends.
abbrev pub count_at : List ℕ → ℕ → ℕ
count_at s at = word16 s at

abbrev pub end_of : List ℕ → ℕ → ℕ → ℕ
end_of s at item = at + 2 + item * count_at s at

-- "Sections in this order: 16-bit count and that many settings (address, value); 16-bit count and that many 8-byte events."
unfoldable pub settings_count : List ℕ → ℕ
settings_count s = count_at s 0

unfoldable pub events_at : List ℕ → ℕ
events_at s = end_of s 0 2

unfoldable pub events_count : List ℕ → ℕ
events_count s = count_at s (events_at s)

unfoldable pub sheet_end : List ℕ → ℕ
sheet_end s = end_of s (events_at s) 8

-- k settings as writes: "Settings run as writes on a fresh unit"
unfoldable pub settings_of : ℕ → List ℕ → List Event
settings_of zero l = []
settings_of (suc k) l = write (get_or l 0 0) (get_or l 1 0) ∷ settings_of k (drop 2 l)

-- an event before others; nothing from a bad one on
unfoldable pub before : Decoded → List Event → List Event
before (event e) es = e ∷ es
before bad es = []

-- k events, up to the first that is bad
unfoldable pub events_of : ℕ → List ℕ → List Event
events_of zero l = []
events_of (suc k) l = before (decode l) (events_of k (drop 8 l))

-- "then the events"
unfoldable pub sheet_events : List ℕ → List Event
sheet_events s = settings_of (settings_count s) (drop 2 s) ++ events_of (events_count s) (drop (events_at s + 2) s)

-- ---- the check

unfoldable pub is_event : Decoded → Bool
is_event d = eqb (decoded_number d) 0

-- each of k events is one
unfoldable pub all_events : ℕ → List ℕ → Bool
all_events zero l = true
all_events (suc k) l = is_event (decode l) && all_events k (drop 8 l)

-- "Each gives a 4-byte record"
unfoldable pub record_count : List ℕ → ℕ
record_count s = settings_count s + events_count s

-- "Checking a sheet against an output's length returns its number, 0 if it will run". 9: "sheet over 65,535 bytes, or a settings count over 256";
-- 10: "sheet ends early"; 11: "bytes after the events"; the number of an event that is none; 13: "output under 4 bytes a record". `good` says that each event
-- is one.
abbrev pub check_by : Bool → List ℕ → ℕ → ℕ
check_by good s room =
    if ltb 65_535 (length s) || ltb 256 (settings_count s) then 9
    else (if ltb (length s) (sheet_end s) then 10
    else (if ltb (sheet_end s) (length s) then 11
    else (if not good then decoded_number bad
    else (if ltb room (4 * record_count s) then 13
    else 0))))

unfoldable pub check : List ℕ → ℕ → ℕ
check s room = check_by (all_events (events_count s) (drop (events_at s + 2) s)) s room

-- ---- the run

-- "refusal or 0, then 0x48, 0x46, 0x49"
unfoldable pub record_of : Outcome → List ℕ
record_of o = o.refusal ∷ (read o.state 0x48).byte ∷ (read o.state 0x46).byte ∷ (read o.state 0x49).byte ∷ []

-- the records of a list of events
unfoldable pub records : State → List Event → List ℕ
records s [] = []
records s (e ∷ es) = let o = outcome s e in record_of o ++ records o.state es

-- "running it hands back the written front part of the lent output, empty when refused"; on the standard fresh unit, since a sheet has no place for a table
unfoldable pub front : List ℕ → ℕ → List ℕ
front s room = if eqb (check s room) 0 then records fresh (sheet_events s) else []

-- an output with f over its front: "bytes after it are unchanged"
abbrev pub over : List ℕ → List ℕ → List ℕ
over f output = f ++ drop (length f) output

-- the lent output after the run
unfoldable pub output_after : List ℕ → List ℕ → List ℕ
output_after s output = over (front s (length output)) output
