-- Request #105 of document 02, "Fresh values of the buyer's own": which tables of bytes load, the unit that one makes, and what a fresh unit is.
-- "A fresh unit may be made from 27 bytes, one for each register in address order; read-only registers and the command must have 0."
use Rattle.std.specs.Prelude.{ℕ, ◌≡◌, Bool, true, ◌&&◌, ◌||◌, List, leb, eqb, length, if◌then◌else◌}
use Rattle.rules.specs.Words.{every}
use Rattle.rules.specs.State.{State}
use Rattle.rules.specs.Registers.{Register, registers, map_size, stored, settings_from, fresh_with}
use Rattle.rules.specs.Refusals.{limits_apart}
use Rattle.rules.specs.Run.{Outcome}

-- the most that a table may have for a register: "read-only registers and the command must have 0"; for any other, its Largest
unfoldable pub most : Register → ℕ
most r = if r.read_only || eqb r.address 0x26 then 0 else r.largest

-- a table has no more than that for it
unfoldable pub fits : List ℕ → Register → Bool
fits table r = leb (settings_from table r.address) (most r)

-- a table loads
unfoldable pub loads : List ℕ → Bool
loads table = eqb (length table) map_size && every (fits table) registers && limits_apart (settings_from table)

-- 15: "wrong length, a forbidden nonzero, a value above Largest or reject − qualification under 6; the only check of loading"
unfoldable pub load_refusal : List ℕ → ℕ
load_refusal table = if loads table then 0 else 15

-- the unit that a table makes. As by a write, bits 7-4 of 0x1c to 0x23 are not stored.
unfoldable pub fresh_from : List ℕ → State
fresh_from table = fresh_with (λ a. stored a (settings_from table a))

-- what loading a table gives in state s: its number, and the unit made anew, or the state "as before"
unfoldable pub loading : List ℕ → State → Outcome
loading table s = record { refusal = load_refusal table; state = if loads table then fresh_from table else s }

-- A FRESH UNIT is one that a table which loads makes. "Histories from a fresh unit then include those from every table that loads."
-- The standard fresh unit is one of them (`Standard` in Laws).
pub record Fresh (s : State) : Type 0 where
  pub table : List ℕ
  pub loaded : loads table ≡ true
  pub made : fresh_from table ≡ s
