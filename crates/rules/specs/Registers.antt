-- Document 01, "Registers": the map, and a fresh unit.
use Rattle.std.specs.Prelude.{ℕ, ◌-◌, ◌%◌, Bool, true, false, List, [], ◌∷◌, map, ltb, leb, eqb, get_or, replicate, if◌then◌else◌}
use Rattle.rules.specs.Words.{between}
use Rattle.rules.specs.Monitors.{fresh_input}
use Rattle.rules.specs.Pll.{free_run}
use Rattle.rules.specs.Settings.{Settings}
use Rattle.rules.specs.Week.{fresh_week}
use Rattle.rules.specs.Selection.{settled}
use Rattle.rules.specs.Buckets.{fresh_buckets}
use Rattle.rules.specs.History.{fresh_history}
use Rattle.rules.specs.State.{State}

-- ---- the map

pub record Register : Type 0 where
  pub address : ℕ
  -- "R read only"
  pub read_only : Bool
  pub fresh : ℕ
  pub largest : ℕ

-- a register that may be written: Address, Fresh, Largest
abbrev pub writes : ℕ → ℕ → ℕ → Register
writes address fresh largest = record { address = address; read_only = false; fresh = fresh; largest = largest }

-- a register that is read only; it has no Fresh and no Largest
abbrev pub reads : ℕ → Register
reads address = record { address = address; read_only = true; fresh = 0; largest = 0 }

unfoldable pub registers : List Register
registers =
    -- 0x1c to 0x23: inputs 1 to 8
    writes 0x1c 0 255
    ∷ writes 0x1d 0 255
    ∷ writes 0x1e 0 255
    ∷ writes 0x1f 0 255
    ∷ writes 0x20 0 255
    ∷ writes 0x21 0 255
    ∷ writes 0x22 0 255
    ∷ writes 0x23 0 255
    -- Free Run; history policy; command; hours in Holdover
    ∷ writes 0x24 0 31
    ∷ writes 0x25 0 1
    ∷ writes 0x26 0 3
    ∷ reads 0x27
    -- control; Op_Mode; mask; delay in minutes; reject limit; qualification limit
    ∷ writes 0x40 0 1
    ∷ writes 0x41 0 9
    ∷ writes 0x42 255 255
    ∷ writes 0x43 0 255
    ∷ writes 0x44 31 127
    ∷ writes 0x45 25 127
    -- qualified mask; available mask; state and selected; alarms and Ready
    ∷ reads 0x46
    ∷ reads 0x47
    ∷ reads 0x48
    ∷ reads 0x49
    -- the value's four bytes; how many references are available
    ∷ reads 0x4a
    ∷ reads 0x4b
    ∷ reads 0x4c
    ∷ reads 0x4d
    ∷ reads 0x4e
    ∷ []

-- how many registers the map has
abbrev pub map_size : ℕ
map_size = 27

-- the slot of an address in the map, from 0; `map_size` for an address that is not in it
unfoldable pub slot : ℕ → ℕ
slot a = if between 0x1c 0x27 a then a - 0x1c else (if between 0x40 0x4e a then a - 0x34 else map_size)

unfoldable pub in_map : ℕ → Bool
in_map a = ltb (slot a) map_size

unfoldable pub register : ℕ → Register
register a = get_or registers (slot a) (reads a)

unfoldable pub read_only : ℕ → Bool
read_only a = (register a).read_only

unfoldable pub largest : ℕ → ℕ
largest a = (register a).largest

-- "inputs 1 to 8: .. bits 7-4 ignored, read 0"
unfoldable pub stored : ℕ → ℕ → ℕ
stored a v = if leb a 0x23 then v % 16 else v

-- the settings after a write
unfoldable pub written : ℕ → ℕ → Settings → Settings
written a v set b = if eqb b a then stored a v else set b

-- ---- a fresh unit

-- a value for each register, in address order, as settings by address
unfoldable pub settings_from : List ℕ → Settings
settings_from table a = get_or table (slot a) 0

-- with these settings: "Fresh: all counts 0, activity alarms clear, frequency alarms set, selected 0, Free Run."
unfoldable pub fresh_with : Settings → State
fresh_with set =
    record {
      inputs = replicate 8 fresh_input;
      buckets = fresh_buckets;
      settings = set;
      loop = record { mode = free_run; lock_run = 0; unlock_run = 0 };
      choice = settled 0;
      history = fresh_history;
      holding = 0;
      week = fresh_week;
    }

-- the column Fresh
unfoldable pub fresh_table : List ℕ
fresh_table = map (λ (r : Register). r.fresh) registers

-- the standard fresh unit; those of a buyer's own stand in Loading
unfoldable pub fresh : State
fresh = fresh_with (settings_from fresh_table)
