-- Tables of fresh values (#105): the settings of one that loads are sound, the standard fresh unit is made by one, and what was loaded reads back.
use Prim.Native.Nat.{ℕ, ◌≤◌}
use mathlib.Core.Path.{◌≡◌, refl, sym, subst}
use mathlib.Core.Bool.{Bool, true, ◌&&◌, ◌||◌}
use mathlib.Core.List.{List}
use native.Mathlib.Omega.{arith}
use lib.Dec.{leb, ltb, eqb}
use lib.ListN.{length, get_or-eq_default}
use borrow.Author.Tests.{eqb-true, leb-true, ltb-true, ltb-false, lt-leb}
use Rattle.rules.specs.Words.{every}
use Rattle.rules.specs.Settings.{Settings}
use Rattle.rules.specs.History.{fresh_history}
use Rattle.rules.specs.State.{State}
use Rattle.rules.specs.Registers.{Register, registers, reads, map_size, slot, in_map, register, largest, stored, settings_from, fresh_with, fresh_table, fresh}
use Rattle.rules.specs.Reading.{content, read}
use Rattle.rules.specs.Refusals.{limits_apart}
use Rattle.rules.specs.Loading.{most, fits, loads, fresh_from, Fresh}
use Rattle.rules.specs.Laws.{SoundSettings, Standard, ReadsBack}
use Rattle.rules.proofs.Tests.{if_case, if_le, by_test, and_left, and_right}
use Rattle.rules.proofs.Tables.{at_index, at_below, map_slots}

pub stored_le : (a v : ℕ) → stored a v ≤ v
unfolding stored
stored_le a v = if_case (λ n. n ≤ v) (leb a 0x23) (λ e. omega arith) (λ e. omega arith)

most_largest : (r : Register) → most r ≤ r.largest
unfolding most
most_largest r = if_le (r.read_only || eqb r.address 0x26) (omega arith) (omega arith)

-- ---- what a table that loads has passed

module _ (table : List ℕ) (ok : loads table ≡ true) where
  abbrev of_bytes : Bool
  of_bytes = eqb (length table) map_size && every (fits table) registers

  first : of_bytes ≡ true
  unfolding loads
  first = and_left of_bytes (limits_apart (settings_from table)) ok

  pub whole_loaded : length table ≡ map_size
  whole_loaded = eqb-true (length table) map_size (and_left (eqb (length table) map_size) (every (fits table) registers) first)

  -- what it has for a register of the map
  within : (a : ℕ) → in_map a ≡ true → settings_from table a ≤ most (register a)
  unfolding fits in_map register registers
  within a m =
      subst (λ b. settings_from table b ≤ most (register a)) (map_slots a m)
      (leb-true (settings_from table (register a).address) (most (register a))
      (at_index (fits table) registers (reads a) (and_right (eqb (length table) map_size) (every (fits table) registers) first) (slot a)
      (λ past. absurd (omega (arith, ltb-true (slot a) map_size m)))))

  -- and for any address
  largest_loaded : (a : ℕ) → settings_from table a ≤ largest a
  unfolding largest in_map settings_from
  largest_loaded a =
      by_test (in_map a) (λ m. omega (arith, within a m, most_largest (register a)))
      (λ m. rw (get_or-eq_default table 0 {n = slot a} (omega (arith, whole_loaded, ltb-false (slot a) map_size m))) (omega arith))

  -- the settings of the unit that it makes
  pub sound_loaded : SoundSettings (λ a. stored a (settings_from table a))
  unfolding loads limits_apart stored
  sound_loaded =
      record {
        largest_le = λ a. omega (arith, stored_le a (settings_from table a), largest_loaded a);
        apart = leb-true _ _ (and_right of_bytes (limits_apart (settings_from table)) ok);
      }

-- ---- the standard fresh unit

standard_stored : (a : ℕ) → stored a (settings_from fresh_table a) ≡ settings_from fresh_table a
unfolding stored settings_from fresh_table registers slot
standard_stored a =
    by_test (ltb a 0x24)
    (λ e. eqb-true _ _ (at_below (λ k. eqb (stored k (settings_from fresh_table k)) (settings_from fresh_table k)) 0x24 refl a (ltb-true a 0x24 e)))
    (λ e. rw (lt-leb a 0x23 (omega (arith, ltb-false a 0x24 e))) refl)

pub standard : Standard
unfolding fresh fresh_from loads fits most limits_apart settings_from fresh_table registers slot
standard = record { is_fresh = record { table = fresh_table; loaded = refl; made = λ i. fresh_with (λ a. standard_stored a i) }; by_column = refl }

-- ---- any fresh unit

-- what holds of it whatever its settings are
pub each_fresh : (P : State → Type 0) → ((set : Settings) → P (fresh_with set)) → (start : State) → Fresh start → P start
unfolding fresh_from
each_fresh P all start f = subst P f.made (all (λ a. stored a (settings_from f.table a)))

-- the command is 0
command_loaded : (table : List ℕ) (a : ℕ) → loads table ≡ true → eqb a 0x26 ≡ true → 0 ≡ stored a (settings_from table a)
unfolding most register registers slot in_map
command_loaded table a ok e =
    subst (λ b. 0 ≡ stored b (settings_from table b)) (sym (eqb-true a 0x26 e))
    (omega (arith, stored_le 0x26 (settings_from table 0x26), within table ok 0x26 refl))

pub reads_back : ReadsBack
unfolding read content fresh_from fresh_with fresh_history
reads_back table a ok m w = rw (m, w) (if_case (λ n. n ≡ stored a (settings_from table a)) (eqb a 0x26) (command_loaded table a ok) (λ e. refl))
