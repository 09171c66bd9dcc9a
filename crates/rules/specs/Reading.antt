-- Document 01, "Registers": what a read shows, at every address.
use Rattle.std.specs.Prelude.{ℕ, zero, suc, ◌+◌, ◌-◌, ◌*◌, ◌^◌, ◌/◌, ◌%◌, min, Bool, ◌||◌, eqb, ℤ, pos, negsuc, if◌then◌else◌}
use Rattle.rules.specs.Monitors.{qualified}
use Rattle.rules.specs.Inputs.{Inputs, input}
use Rattle.rules.specs.Pll.{Mode, mode_number, free_run, holdover, locked, is}
use Rattle.rules.specs.Settings.{Settings}
use Rattle.rules.specs.Selection.{available}
use Rattle.rules.specs.History.{History, ready, held, value}
use Rattle.rules.specs.State.{State, selected, mode, Ready}
use Rattle.rules.specs.Tick.{hour_ticks}
use Rattle.rules.specs.Registers.{in_map, read_only}

-- the mask of the inputs 1 to k that pass a test: "in every mask bit i−1 is input i"
unfoldable pub mask_up_to : (ℕ → Bool) → ℕ → ℕ
mask_up_to test zero = 0
mask_up_to test (suc k) = (if test (suc k) then 2 ^ k else 0) + mask_up_to test k

-- how many of the inputs 1 to k pass a test
unfoldable pub count_up_to : (ℕ → Bool) → ℕ → ℕ
count_up_to test zero = 0
count_up_to test (suc k) = (if test (suc k) then 1 else 0) + count_up_to test k

-- 0x46, 0x47: "Masks 0x46 and 0x47 follow soak and mask at the moment of reading."
unfoldable pub qualified_mask : Inputs → ℕ
qualified_mask inputs = mask_up_to (λ i. qualified (input inputs i)) 8

unfoldable pub available_mask : Settings → Inputs → ℕ
available_mask set inputs = mask_up_to (available set inputs) 8

-- 0x4e: "how many references are available"
unfoldable pub available_count : Settings → Inputs → ℕ
available_count set inputs = count_up_to (available set inputs) 8

-- 0x27: "whole hours (28,125 ticks) in Holdover after the entering event, at most 255, else 0"
unfoldable pub hours : Mode → ℕ → ℕ
hours mode holding = if is holdover mode then min 255 (holding / hour_ticks) else 0

-- 0x48: "16 times state .. + selected"; selected has four bits, and from fresh is at most 9
unfoldable pub state_byte : Mode → ℕ → ℕ
state_byte mode selected = 16 * mode_number mode + selected % 16

-- 0x49: "bit 0 alarm (Holdover or Free Run), bit 1 not Locked, bit 2 Ready, bit 3 backup held"
unfoldable pub status_byte : Mode → Bool → Bool → ℕ
status_byte mode isReady is_held =
    (if is holdover mode || is free_run mode then 1 else 0) + (if is locked mode then 0 else 2) + (if isReady then 4 else 0) + (if is_held then 8 else 0)

-- two's complement in 32 bits
unfoldable pub twos : ℤ → ℕ
twos (pos n) = n % 2 ^ 32
twos (negsuc n) = 2 ^ 32 - 1 - n % 2 ^ 32

-- 0x4a to 0x4d: "value, low byte first, two's complement; 0 unless Ready"
unfoldable pub value_byte : History → ℕ → ℕ
value_byte h k = if ready h then twos (value h) / 256 ^ k % 256 else 0

-- a register that is read only
unfoldable pub shown : State → ℕ → ℕ
shown s a =
    if eqb a 0x27 then hours (mode s) s.holding
    else (if eqb a 0x46 then qualified_mask s.inputs
    else (if eqb a 0x47 then available_mask s.settings s.inputs
    else (if eqb a 0x48 then state_byte (mode s) (selected s)
    else (if eqb a 0x49 then status_byte (mode s) (Ready s) (held s.history.backup)
    else (if eqb a 0x4a then value_byte s.history 0
    else (if eqb a 0x4b then value_byte s.history 1
    else (if eqb a 0x4c then value_byte s.history 2
    else (if eqb a 0x4d then value_byte s.history 3
    else available_count s.settings s.inputs))))))))

-- a register of the map; 0x26 "reads the last accepted" command
unfoldable pub content : State → ℕ → ℕ
content s a = if read_only a then shown s a else (if eqb a 0x26 then s.history.command else s.settings a)

-- "address not in the map (a read gives 1 and byte 0)"
pub record Answer : Type 0 where
  pub refusal : ℕ
  pub byte : ℕ

unfoldable pub read : State → ℕ → Answer
read s a = if in_map a then record { refusal = 0; byte = content s a } else record { refusal = 1; byte = 0 }
