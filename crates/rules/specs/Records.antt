-- Document 01, "Demand 3", in the records of a run sheet: a corollary of the promise of service.
use Rattle.std.specs.Prelude.{ℕ, ◌+◌, ◌*◌, ◌%◌, ◌≤◌, ◌≡◌, Bool, true, List, [], ◌∷◌, ◌++◌, length, get_or}
use Rattle.rules.specs.Words.{bit}
use Rattle.rules.specs.Events.{Event}
use Rattle.rules.specs.Settings.{reversion}
use Rattle.rules.specs.State.{State}
use Rattle.rules.specs.Registers.{fresh}
use Rattle.rules.specs.Run.{run}
use Rattle.rules.specs.Sheet.{sheet_events, check, front}
use Rattle.rules.specs.Service.{Provisos, accepted_ticks}

-- "Each gives a 4-byte record: refusal or 0, then 0x48, 0x46, 0x49." Byte k of record i.
abbrev pub byte_of : List ℕ → ℕ → ℕ → ℕ
byte_of records i k = get_or records (4 * i + k) 0

-- 0x48's selected, and 0x49's Ready bit
abbrev pub shown_selected : List ℕ → ℕ → ℕ
shown_selected records i = byte_of records i 1 % 16

abbrev pub shown_ready : List ℕ → ℕ → Bool
shown_ready records i = bit (byte_of records i 3) 2

-- what is promised of record i, where s is the rules' state at the moment and `since` are the events since then, up to and with that of the record
pub record RecordServed (r : ℕ) (s : State) (since : List Event) (records : List ℕ) (i : ℕ) : Type 0 where
  pub selected_is : 860 + reversion s.settings ≤ accepted_ticks s since → shown_selected records i ≡ r
  pub ready_is : 6_379 + reversion s.settings ≤ accepted_ticks s since → shown_ready records i ≡ true

-- THE PROMISE IN THE RECORDS. Take every sheet that runs; its settings and events are `before`, `after`, an event e and the rest, with the moment after
-- `before`. For every reference r for which the provisos hold from the moment up to and with e: if 860 + n of the events since the moment, e itself included,
-- are accepted ticks, the record of e shows r as selected; if 6,379 + n are, it shows Ready too. The fresh unit is the standard one, on which every sheet
-- runs, the sets are as they start, and there is no window, since a sheet holds no call.
abbrev pub RecordsPromise : Type 0
RecordsPromise =
    (sheet : List ℕ) (room : ℕ) (before after : List Event) (e : Event) (rest : List Event) (r : ℕ)
    → check sheet room ≡ 0
    → sheet_events sheet ≡ (before ++ after) ++ (e ∷ rest)
    → Provisos r (run fresh before) (after ++ (e ∷ []))
    → RecordServed r (run fresh before) (after ++ (e ∷ [])) (front sheet room) (length (before ++ after))
