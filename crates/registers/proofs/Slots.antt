-- The slot of an address in the map belongs to that address alone. An address that is not in the map has the slot behind the last register.
use Rattle.std.proofs.Common.{◌≡◌, ℕ, ◌+◌, ◌≤◌, ◌<◌, List, get_or, if◌then◌else◌, ap, sym, ◌∙◌, arith}
use Rattle.std.proofs.lemmas.Grind.{common_steps}
use lib.Dec.{ltb}
use Rattle.rules.specs.Registers.{slot, settings_from}

-- the address at a slot
abbrev pub address_at : ℕ → ℕ
address_at k = if ltb k 12 then k + 0x1c else k + 0x34

-- the address at the slot of an address in the map is that address
pub address_slot : (a : ℕ) → slot a < 27 → address_at (slot a) ≡ a
unfolding slot
address_slot a h = grind (arith, common_steps)

-- a slot of the map belongs to one address alone
pub one_address : (a b : ℕ) → slot a < 27 → slot b ≡ slot a → b ≡ a
one_address a b h e = sym (address_slot b (omega arith)) ∙ ap address_at e ∙ address_slot a h

-- no slot is past the one behind the last register
pub slot_le : (a : ℕ) → slot a ≤ 27
unfolding slot
slot_le a = grind (arith, common_steps)

-- registers with the same bytes in these slots have the same settings
pub same_settings : (r s : List ℕ) → ((k : ℕ) → k ≤ 27 → get_or r k 0 ≡ get_or s k 0) → settings_from r ≡ settings_from s
unfolding settings_from
same_settings r s h = λ i a. h (slot a) (slot_le a) i

-- an address past 255 has no slot in the map
pub slot_past : (a : ℕ) → 255 < a → slot a ≡ 27
unfolding slot
slot_past a h = grind (arith, common_steps)
