-- Every register reads as a byte in a lawful state: a lemma for each kind of register.
use Prim.Native.Nat.{ℕ, zero, suc, ◌/◌, ◌^◌, ◌≤◌, ◌<◌}
use mathlib.Core.Bool.{Bool, ◌||◌}
use native.Mathlib.Omega.{arith}
use lib.Dec.{eqb}
use Rattle.rules.specs.Monitors.{qualified}
use Rattle.rules.specs.Pll.{Mode, mode_number, free_run, holdover, pre_locked, locked, loss_of_lock, pre_locked2, is}
use Rattle.rules.specs.Settings.{Settings}
use Rattle.rules.specs.Inputs.{Inputs, input}
use Rattle.rules.specs.Selection.{available}
use Rattle.rules.specs.History.{History, ready, held}
use Rattle.rules.specs.State.{State, selected, mode, Ready}
use Rattle.rules.specs.Registers.{in_map, read_only}
use Rattle.rules.specs.Reading.{mask_up_to, count_up_to, qualified_mask, available_mask, available_count, hours, state_byte, status_byte, value_byte}
use Rattle.rules.specs.Reading.{shown, content, Answer, read}
use Rattle.rules.specs.Run.{run}
use Rattle.rules.specs.Laws.{Lawful, Bytes}
use Rattle.rules.proofs.Tests.{if_case, if_le, if_sum}
use Rattle.rules.proofs.Tables.{largest_byte}
use Rattle.rules.proofs.Invariants.{invariants}

-- a mask of k inputs has k bits
mask_lt : (test : ℕ → Bool) (k : ℕ) → mask_up_to test k < 2 ^ k
unfolding mask_up_to
mask_lt test zero = omega arith
mask_lt test (suc k) = omega (arith, mask_lt test k, if_sum (test (suc k)) (2 ^ k) 0)

-- of k inputs at most k pass a test
count_le : (test : ℕ → Bool) (k : ℕ) → count_up_to test k ≤ k
unfolding count_up_to
count_le test zero = omega arith
count_le test (suc k) = omega (arith, count_le test k, if_sum (test (suc k)) 1 0)

-- the numbers of the states are 0 to 5
mode_le : (m : Mode) → mode_number m ≤ 5
unfolding mode_number
mode_le free_run = omega arith
mode_le holdover = omega arith
mode_le pre_locked = omega arith
mode_le locked = omega arith
mode_le loss_of_lock = omega arith
mode_le pre_locked2 = omega arith

-- 0x27, the hours in Holdover, is a byte
hours_byte : (m : Mode) (holding : ℕ) → hours m holding ≤ 255
unfolding hours
hours_byte m holding = if_le (is holdover m) (omega arith) (omega arith)

-- 0x46, the qualified mask, is a byte
qualified_byte : (inputs : Inputs) → qualified_mask inputs ≤ 255
unfolding qualified_mask
qualified_byte inputs = omega (arith, mask_lt (λ i. qualified (input inputs i)) 8)

-- 0x47, the available mask, is a byte
available_byte : (set : Settings) (inputs : Inputs) → available_mask set inputs ≤ 255
unfolding available_mask
available_byte set inputs = omega (arith, mask_lt (available set inputs) 8)

-- 0x48, the state and what is selected: the upper digit is the state's number
pub state_digit : (m : Mode) (selected : ℕ) → state_byte m selected / 16 ≤ 5
unfolding state_byte
state_digit m selected = omega (arith, mode_le m)

-- 0x49, alarms and Ready, has four bits
pub status_bits : (m : Mode) (isReady is_held : Bool) → status_byte m isReady is_held < 16
unfolding status_byte
status_bits m isReady is_held =
    omega (arith, if_sum (is holdover m || is free_run m) 1 0, if_sum (is locked m) 0 2, if_sum isReady 4 0, if_sum is_held 8 0)

-- 0x4a to 0x4d: each byte of the value is one
value_byte_small : (h : History) (k : ℕ) → value_byte h k ≤ 255
unfolding value_byte
value_byte_small h k = if_le (ready h) (omega arith) (omega arith)

-- 0x4e, how many references are available, is a byte
count_byte : (set : Settings) (inputs : Inputs) → available_count set inputs ≤ 255
unfolding available_count
count_byte set inputs = omega (arith, count_le (available set inputs) 8)

-- each register that is read only shows a byte
shown_byte : (s : State) (a : ℕ) → shown s a ≤ 255
unfolding shown
shown_byte s a =
    if_le (eqb a 0x27) (hours_byte (mode s) s.holding)
    (if_le (eqb a 0x46) (qualified_byte s.inputs)
    (if_le (eqb a 0x47) (available_byte s.settings s.inputs)
    (if_le (eqb a 0x48) (omega (arith, state_digit (mode s) (selected s)))
    (if_le (eqb a 0x49) (omega (arith, status_bits (mode s) (Ready s) (held s.history.backup)))
    (if_le (eqb a 0x4a) (value_byte_small s.history 0)
    (if_le (eqb a 0x4b) (value_byte_small s.history 1)
    (if_le (eqb a 0x4c) (value_byte_small s.history 2)
    (if_le (eqb a 0x4d) (value_byte_small s.history 3)
    (count_byte s.settings s.inputs)))))))))

-- each register of the map holds a byte
content_byte : (s : State) → Lawful s → (a : ℕ) → content s a ≤ 255
unfolding content
content_byte s w a =
    if_le (read_only a) (shown_byte s a)
    (if_le (eqb a 0x26) (omega (arith, w.history.command_le)) (omega (arith, w.settings.largest_le a, largest_byte a)))

-- each register of a lawful state reads as a byte, and so does an address outside the map
pub read_byte : (s : State) → Lawful s → (a : ℕ) → (read s a).byte < 256
unfolding read
read_byte s w a = if_case (λ (x : Answer). x.byte < 256) (in_map a) (λ e. omega (arith, content_byte s w a)) (λ e. omega arith)

pub bytes : Bytes
bytes start f es a = read_byte (run start es) (invariants start f es) a
