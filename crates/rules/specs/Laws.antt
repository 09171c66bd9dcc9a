-- What holds in every state that events lead to from a fresh unit, and other laws of the rules, as statements. The last definition, `Laws`, has them all, and is
-- proved in proofs/Laws.antt. The laws of the busy hours stand in BusyHours, those of the printed pages in PageLaws.
use Rattle.std.specs.Prelude.{ℕ, ◌+◌, ◌-◌, ◌*◌, ◌/◌, ◌%◌, ◌^◌, ◌≤◌, ◌<◌, min, ◌≡◌, ◌⊎◌, Bool, true, false, ◌&&◌, List, [], ◌∷◌, ℤ, pos, nat_abs, ◌+ℤ◌, ◌*ℤ◌, ◌≤ℤ◌, length, get_or, drop, if◌then◌else◌}
use Rattle.rules.specs.Words.{is_input, is_tracked}
use Rattle.rules.specs.Events.{Event, sample_limit, is_tick, is_call}
use Rattle.rules.specs.Monitors.{Bucket, Input, full_soak, qualified, alarm_ticks}
use Rattle.rules.specs.Pll.{mode_number, holdover, is, Loop, lock_ticks, unlock_ticks}
use Rattle.rules.specs.Settings.{Settings, automatic, reject, qualification, usable, revertive, ahead, delay_ticks}
use Rattle.rules.specs.Week.{week_ticks, Week, windows_fit}
use Rattle.rules.specs.Inputs.{Inputs, input}
use Rattle.rules.specs.Selection.{Choice, available, candidate, best, settled, wait_limit, wait_after, reverted, chosen}
use Rattle.rules.specs.Buckets.{Buckets, fresh_buckets, set_at, set_of, bucket_of}
use Rattle.rules.specs.History.{History, block_samples, kept_blocks, ready_blocks, sum_limit, saturated, sum_of, value}
use Rattle.rules.specs.State.{State, selected, mode, Ready}
use Rattle.rules.specs.Tick.{hour_ticks, holding_limit}
use Rattle.rules.specs.Registers.{in_map, register, read_only, largest, stored, settings_from, fresh_table, fresh}
use Rattle.rules.specs.Reading.{hours, twos, read}
use Rattle.rules.specs.Refusals.{accepted}
use Rattle.rules.specs.Run.{next, run}
use Rattle.rules.specs.Loading.{loads, fresh_from, Fresh}
use Rattle.rules.specs.Sheet.{signed_word, sheet_events, record_count, check, front, output_after}
use Rattle.rules.specs.Printout.{decimal}

-- ---- invariants

-- a set within its bounds. #104: "L < U ≤ S ≤ 255 and d from 0 to 3"
pub record SoundBucket (b : Bucket) : Type 0 where
  pub clears : b.clear_level < b.set_level
  pub sets : b.set_level ≤ b.size
  pub small : b.size ≤ 255
  pub decays : (d : ℕ) × ((d ≤ 3) × (b.decay_ticks ≡ 2 ^ d))

-- four sets, and each input has one of them
pub record SoundBuckets (bs : Buckets) : Type 0 where
  pub four : length bs.sets ≡ 4
  pub each : (n : ℕ) → n ≤ 3 → SoundBucket (set_at bs n)
  pub eight : length bs.assigned ≡ 8
  pub has : (i : ℕ) → is_input i ≡ true → set_of bs i ≤ 3

-- one input, with its bucket: level at most its size, decay count below the ticks of its decay, remainder at most 782, soak at most 79
pub record SoundInput (b : Bucket) (i : Input) : Type 0 where
  pub level_le : i.activity.level ≤ b.size
  pub decay_lt : i.activity.decay < b.decay_ticks
  pub remainder_le : i.remainder ≤ alarm_ticks
  pub soak_le : i.soak ≤ full_soak

pub record SoundInputs (bs : Buckets) (inputs : Inputs) : Type 0 where
  pub eight : length inputs ≡ 8
  pub each : (i : ℕ) → is_input i ≡ true → SoundInput (bucket_of bs i) (input inputs i)

-- each setting at most its Largest, reject − qualification at least 6
pub record SoundSettings (set : Settings) : Type 0 where
  pub largest_le : (a : ℕ) → set a ≤ largest a
  pub apart : qualification set + 6 ≤ reject set

-- lock run at most 16, unlock run at most 781; selected at most 9; the wait at most one more than the longest delay, 119,533 ticks, and 0 while nothing is selected, and
-- counting for none while it is 0; a selected reference has one of the four tracking states (2 to 5), and nothing else has
pub record SoundLoop (p : Loop) (c : Choice) : Type 0 where
  pub lock_le : p.lock_run ≤ lock_ticks
  pub unlock_lt : p.unlock_run < unlock_ticks
  pub selected_le : c.selected ≤ 9
  pub wait_lt : c.wait < wait_limit
  pub unselected : c.selected ≡ 0 → c.wait ≡ 0
  pub unwaited : c.wait ≡ 0 → c.awaited ≡ 0
  pub tracking : is_tracked c.selected ≡ true → 2 ≤ mode_number p.mode
  pub resting : is_tracked c.selected ≡ false → mode_number p.mode ≤ 1

-- each sum within ±16,000,000,000
abbrev pub Within : List ℤ → Type 0
Within [] = Unit {0}
Within (z ∷ zs) = (nat_abs z ≤ sum_limit) × Within zs

-- at most 64 of them
pub record SoundBlocks (l : List ℤ) : Type 0 where
  pub count_le : length l ≤ kept_blocks
  pub within : Within l

-- the building history: fewer than 43 blocks, and none while nothing builds
pub record SoundBuilding (builds : Bool) (l : List ℤ) : Type 0 where
  pub few : length l < ready_blocks
  pub within : Within l
  pub idle : builds ≡ false → l ≡ []

-- at most 127 open samples, their sum no more than so many can have; a command of the map; the backup is none or 43 blocks or more
pub record SoundHistory (h : History) : Type 0 where
  pub kept : SoundBlocks h.kept
  pub building : SoundBuilding h.builds h.building
  pub open_lt : h.open_count < block_samples
  pub open_within : nat_abs h.open_sum ≤ sample_limit * h.open_count
  pub command_le : h.command ≤ 3
  pub backup : SoundBlocks h.backup
  pub backup_full : (h.backup ≡ []) ⊎ (ready_blocks ≤ length h.backup)

-- a place of the week, and windows that the check lets through
pub record SoundWeek (w : Week) : Type 0 where
  pub place_lt : w.place < week_ticks
  pub fit : windows_fit w.windows ≡ true

pub record Lawful (s : State) : Type 0 where
  pub buckets : SoundBuckets s.buckets
  pub inputs : SoundInputs s.buckets s.inputs
  pub settings : SoundSettings s.settings
  pub loop : SoundLoop s.loop s.choice
  pub history : SoundHistory s.history
  -- a selected reference is the one that the history counts as selected last
  pub last : is_tracked (selected s) ≡ true → s.history.last ≡ selected s
  -- ticks are counted in Holdover alone
  pub holding_le : s.holding ≤ holding_limit
  pub holding_none : (mode_number (mode s) ≡ mode_number holdover → ⊥) → s.holding ≡ 0
  pub week : SoundWeek s.week

abbrev pub Invariants : Type 0
Invariants = (start : State) → Fresh start → (es : List Event) → Lawful (run start es)

-- ---- a bound that stands in a rule and not in document 01 never shows, from a fresh unit

pub record Unsaturated (s : State) : Type 0 where
  pub unlock_run : min unlock_ticks (s.loop.unlock_run + 1) ≡ s.loop.unlock_run + 1
  pub wait : min wait_limit (s.choice.wait + 1) ≡ s.choice.wait + 1
  pub open_sum : (x : ℤ) → nat_abs x ≤ sample_limit → saturated (s.history.open_sum +ℤ x) ≡ s.history.open_sum +ℤ x
  pub selected_bits : selected s % 16 ≡ selected s

abbrev pub Saturation : Type 0
Saturation = (start : State) → Fresh start → (es : List Event) → Unsaturated (run start es)

-- the ticks in Holdover after the entering event, with no bound: n of them in state s, then those of a list of events
unfoldable pub held_after : ℕ → State → Event → ℕ
held_after n s e =
    if is holdover (mode s) && is holdover (mode (next s e)) then (if is_tick e && accepted s e then n + 1 else n)
    else 0

unfoldable pub held_ticks : ℕ → State → List Event → ℕ
held_ticks n s [] = n
held_ticks n s (e ∷ es) = held_ticks (held_after n s e) (next s e) es

-- 0x27 shows the hours of that count
abbrev pub Hours : Type 0
Hours =
    (start : State) → Fresh start → (es : List Event)
    → hours (mode (run start es)) (run start es).holding ≡ (if is holdover (mode (run start es)) then min 255 (held_ticks 0 start es / hour_ticks) else 0)

-- ---- selection

-- n is the least whole number with 4 n at least 1,875 times the delay in minutes
pub record LeastDelay (minutes n : ℕ) : Type 0 where
  pub enough : 1875 * minutes ≤ 4 * n
  pub least : (m : ℕ) → 1875 * minutes ≤ 4 * m → n ≤ m

abbrev pub Delays : Type 0
Delays = (minutes : ℕ) → LeastDelay minutes (delay_ticks minutes)

-- no candidate and 0, or a candidate that is ahead of every other
abbrev pub BestOf : Settings → Inputs → ℕ → Type 0
BestOf set inputs b =
    ((b ≡ 0) × ((c : ℕ) → candidate set inputs c ≡ false))
    ⊎ ((candidate set inputs b ≡ true) × ((c : ℕ) → candidate set inputs c ≡ true → (c ≡ b) ⊎ (ahead set b c ≡ true)))

abbrev pub BestCandidate : Type 0
BestCandidate = (set : Settings) (inputs : Inputs) → BestOf set inputs (best set inputs)

-- under automatic control what is selected is none, Free Run if enabled, or an available reference: none is taken unjudged or masked
abbrev pub Eligible : Settings → Inputs → ℕ → Type 0
Eligible set inputs c = (c ≡ 0) ⊎ (((c ≡ 9) × (usable set 9 ≡ true)) ⊎ (available set inputs c ≡ true))

abbrev pub Judged : Type 0
Judged = (blocked : Bool) (set : Settings) (inputs : Inputs) (c : Choice) → automatic set ≡ true → Eligible set inputs (chosen blocked set inputs c).selected

-- under any control what is selected is none, Free Run or a qualified reference
abbrev pub Selectable : Inputs → ℕ → Type 0
Selectable inputs c = ((c ≡ 0) ⊎ (c ≡ 9)) ⊎ ((is_input c ≡ true) × (qualified (input inputs c) ≡ true))

abbrev pub Selected : Type 0
Selected = (blocked : Bool) (set : Settings) (inputs : Inputs) (c : Choice) → Selectable inputs (chosen blocked set inputs c).selected

-- a non-revertive candidate stays selected, whatever the best's own bit 3 says
abbrev pub NonRevertive : Type 0
NonRevertive =
    (blocked : Bool) (set : Settings) (inputs : Inputs) (c : Choice) → automatic set ≡ true → candidate set inputs c.selected ≡ true
    → revertive set c.selected ≡ false → chosen blocked set inputs c ≡ settled c.selected

-- a wait starts anew for another best, and ends with the switch not before its n ticks are over, and outside a window
pub record WaitRule : Type 0 where
  pub anew : (blocked : Bool) (n b : ℕ) (c : Choice) → (c.awaited ≡ b → ⊥) → wait_after blocked n b c ≡ 1
  pub full : (blocked : Bool) (n b : ℕ) (c : Choice) → (c.selected ≡ b → ⊥) → (reverted blocked n b c).selected ≡ b
      → (n < wait_after blocked n b c) × (blocked ≡ false)

-- ---- the value

-- v is the greatest whole number not above t / d
pub record Floor (t : ℤ) (d : ℕ) (v : ℤ) : Type 0 where
  pub not_above : (pos d *ℤ v) ≤ℤ t
  pub greatest : (z : ℤ) → (pos d *ℤ z) ≤ℤ t → z ≤ℤ v

-- the value is that of the mean of the kept samples, 128 in a block
abbrev pub Value : Type 0
Value = (h : History) → 1 ≤ length h.kept → Floor (sum_of h.kept) (block_samples * length h.kept) (value h)

-- and no greater in magnitude than the largest sample, so that 32 bits hold it
abbrev pub ValueRange : Type 0
ValueRange = (h : History) → 1 ≤ length h.kept → Within h.kept → nat_abs (value h) ≤ sample_limit

-- and its 32 bits read back as it is
abbrev pub TwosComplement : Type 0
TwosComplement = (z : ℤ) → nat_abs z ≤ sample_limit → signed_word (twos z) ≡ z

-- a fresh unit is not Ready
abbrev pub NotReady : Type 0
NotReady = (start : State) → Fresh start → Ready start ≡ false

-- ---- events and registers

-- what is "left" is "as before": a refused event changes nothing
abbrev pub Refused : Type 0
Refused = (s : State) (e : Event) → accepted s e ≡ false → next s e ≡ s

-- the map has each address at its slot
abbrev pub Map : Type 0
Map = (a : ℕ) → in_map a ≡ true → (register a).address ≡ a

-- each register is a byte
abbrev pub Bytes : Type 0
Bytes = (start : State) → Fresh start → (es : List Event) (a : ℕ) → (read (run start es) a).byte < 256

-- ---- tables of fresh values

-- the standard fresh unit is one that a table which loads makes: the column Fresh
pub record Standard : Type 0 where
  pub is_fresh : Fresh fresh
  pub by_column : is_fresh.table ≡ fresh_table

-- what a table has for a register that may be written reads back, in 0x1c to 0x23 without bits 7-4
abbrev pub ReadsBack : Type 0
ReadsBack =
    (table : List ℕ) (a : ℕ) → loads table ≡ true → in_map a ≡ true → read_only a ≡ false
    → (read (fresh_from table) a).byte ≡ stored a (settings_from table a)

-- ---- the calls of the host's

-- a list with no call in it
abbrev pub Callless : List Event → Type 0
Callless [] = Unit {0}
Callless (e ∷ es) = (is_call e ≡ false) × Callless es

-- leaves every set and every input's set as they start, and sets no window
abbrev pub Untouched : Type 0
Untouched = (start : State) → Fresh start → (es : List Event) → Callless es → ((run start es).buckets ≡ fresh_buckets) × ((run start es).week.windows ≡ [])

-- and a run sheet has none
abbrev pub NoCalls : Type 0
NoCalls = (s : List ℕ) → Callless (sheet_events s)

-- ---- run sheets, which run on the standard fresh unit

-- a sheet that runs writes 4 bytes a record, within the output, and leaves the output's length
pub record Fits (s output : List ℕ) : Type 0 where
  pub written : length (front s (length output)) ≡ 4 * record_count s
  pub within : 4 * record_count s ≤ length output
  pub kept : length (output_after s output) ≡ length output

abbrev pub Outputs : Type 0
Outputs = (s output : List ℕ) → check s (length output) ≡ 0 → Fits s output

-- a sheet that is refused leaves the output as it was
abbrev pub OutputKept : Type 0
OutputKept = (s output : List ℕ) → (check s (length output) ≡ 0 → ⊥) → output_after s output ≡ output

-- a record, as it stands at the front of a list: its refusal is at most 8, its state 0 to 5, and its 0x49 has four bits
pub record RecordBytes (r : List ℕ) : Type 0 where
  pub refusal_le : get_or r 0 0 ≤ 8
  pub state_le : get_or r 1 0 / 16 ≤ 5
  pub status_lt : get_or r 3 0 < 16

abbrev pub EachRecord : Type 0
EachRecord = (s : List ℕ) (room i : ℕ) → check s room ≡ 0 → i < record_count s → RecordBytes (drop (4 * i) (front s room))

-- the digits of a number read back as it is
unfoldable pub number : ℕ → List ℕ → ℕ
number n [] = n
number n (d ∷ ds) = number (10 * n + (d - 48)) ds

abbrev pub Decimal : Type 0
Decimal = (n : ℕ) → number 0 (decimal n) ≡ n

-- ---- all of them

pub record Laws : Type 0 where
  pub invariants : Invariants
  pub saturation : Saturation
  pub hours : Hours
  pub delays : Delays
  pub best_candidate : BestCandidate
  pub judged : Judged
  pub selected : Selected
  pub non_revertive : NonRevertive
  pub wait_rule : WaitRule
  pub value : Value
  pub value_range : ValueRange
  pub twos_complement : TwosComplement
  pub not_ready : NotReady
  pub refused : Refused
  pub map : Map
  pub bytes : Bytes
  pub standard : Standard
  pub reads_back : ReadsBack
  pub untouched : Untouched
  pub no_calls : NoCalls
  pub outputs : Outputs
  pub output_kept : OutputKept
  pub each_record : EachRecord
  pub decimal : Decimal
