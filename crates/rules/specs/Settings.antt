-- What the rules read in the registers that may be written (document 01, "Registers"). A setting is the value at its address.
use Rattle.std.specs.Prelude.{ℕ, ◌+◌, ◌*◌, ◌/◌, ◌%◌, Bool, ◌&&◌, ◌||◌, ltb, eqb, if◌then◌else◌}
use Rattle.rules.specs.Words.{bit, bit_of, is_input}

abbrev pub Settings : Type 0
Settings = ℕ → ℕ

-- 0x25: "history policy"
abbrev pub policy : Settings → ℕ
policy set = set 0x25

-- 0x40: "control (0 manual, 1 automatic)"
abbrev pub automatic : Settings → Bool
automatic set = eqb (set 0x40) 1

-- 0x41: "Op_Mode (9 Holdover)"
abbrev pub op_mode : Settings → ℕ
op_mode set = set 0x41

-- 0x44, 0x45: "reject, qualification limit, 0.5 ppm"
abbrev pub reject : Settings → ℕ
reject set = set 0x44

abbrev pub qualification : Settings → ℕ
qualification set = set 0x45

-- Candidate c is a reference 1 to 8, or 9 for Free Run. Its register is 0x1b + c: 0x1c to 0x23, and 0x24.
-- "bits 2-0 priority"
unfoldable pub priority : Settings → ℕ → ℕ
priority set c = set (0x1b + c) % 8

-- "bit 3 revertive"
unfoldable pub revertive : Settings → ℕ → Bool
revertive set c = bit (set (0x1b + c)) 3

-- 0x42, mask: "a set bit = usable"; 0x24: "Free Run: bit 4 enabled"
unfoldable pub usable : Settings → ℕ → Bool
usable set c = if eqb c 9 then bit (set 0x24) 4 else (is_input c && bit_of (set 0x42) c)

-- "candidates are the available references by priority (0 best), then number; Free Run, if enabled, stands after all references of equal priority".
-- Free Run's number 9 is the largest, so one order serves both.
unfoldable pub ahead : Settings → ℕ → ℕ → Bool
ahead set a b = ltb (priority set a) (priority set b) || (eqb (priority set a) (priority set b) && ltb a b)

-- 0x43: "delay in minutes"
abbrev pub delay : Settings → ℕ
delay set = set 0x43

-- in ticks: "n being the least with 4n ≥ 1,875 times the delay in minutes" (`Delays` in Laws)
unfoldable pub delay_ticks : ℕ → ℕ
delay_ticks minutes = (1875 * minutes + 3) / 4

abbrev pub reversion : Settings → ℕ
reversion set = delay_ticks (delay set)
