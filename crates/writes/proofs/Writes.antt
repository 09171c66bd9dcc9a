-- What a write is turned down with, and what it leaves of the settings.
use Rattle.std.proofs.Common.{◌≡◌, ◌≤◌, ◌<◌, ℕ, Bool, true, List, length, get_or, set, if◌then◌else◌, arith}
use Rattle.std.proofs.lemmas.Grind.{common_steps}
use lib.Dec.{eqb}
use borrow.Author.Tests.{lt-ltb, le-ltb}
use Rattle.rules.specs.Settings.{Settings}
use Rattle.rules.specs.Registers.{slot, in_map, stored, written, settings_from}
use Rattle.rules.specs.Refusals.{write_refusal}
use Rattle.registers.proofs.Slots.{one_address}

-- the address of a write that is not turned down is in the map
pub accepted_in_map : (set : Settings) (ready held : Bool) (a v : ℕ) → write_refusal set ready held a v ≡ 0 → in_map a ≡ true
unfolding write_refusal
accepted_in_map set ready held a v e = grind (arith, common_steps)

-- a byte is stored at a slot of the map, which belongs to one address alone
pub write_in : (regs : List ℕ) (a v k x : ℕ) → length regs ≡ 32 → k ≡ slot a → x ≡ stored a v → k < 27
    → settings_from (set regs k x) ≡ (if in_map a then written a v (settings_from regs) else settings_from regs)
unfolding settings_from written in_map
write_in regs a v k x l e s h = rw (lt-ltb (slot a) 27 (omega arith)) (λ i b. at b i)
  where
    at : (b : ℕ) → get_or (set regs k x) (slot b) 0 ≡ (if eqb b a then stored a v else get_or regs (slot b) 0)
    at b = grind (arith, common_steps, one_address)

-- nothing is stored
pub write_out : (regs : List ℕ) (a v : ℕ) → 27 ≤ slot a
    → settings_from regs ≡ (if in_map a then written a v (settings_from regs) else settings_from regs)
unfolding in_map
write_out regs a v h = rw (le-ltb (slot a) 27 h)
