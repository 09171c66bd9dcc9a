-- What is stored of a table's bytes, as settings by address.
use Rattle.std.specs.Prelude.{if◌then◌else◌}
use Prim.Native.Nat.{ℕ, ◌%◌, ◌+◌, ◌<◌}
use mathlib.Core.Path.{◌≡◌, refl, ap, ◌∙◌}
use mathlib.Core.List.{List}
use native.Mathlib.Omega.{arith}
use lib.Dec.{ltb}
use lib.ListN.{length, get_or, get_or-eq_default}
use borrow.Author.Tests.{ltb-true, ltb-false, lt-ltb, le-leb, lt-leb}
use Rattle.rules.specs.Registers.{slot, stored, settings_from}
use Rattle.rules.proofs.Tests.{by_test}
use Rattle.rules.proofs.Loading.{stored_le}
use Rattle.registers.proofs.Slots.{address_at, address_slot, slot_le}

-- byte k of the registers, from byte k of a table
abbrev pub kept_at : ℕ → ℕ → ℕ
kept_at k v = if ltb k 8 then v % 16 else v

-- slots 0 to 7 are those of 0x1c to 0x23
kept_here : (k v : ℕ) → kept_at k v ≡ stored (address_at k) v
unfolding stored
kept_here k v =
    by_test (ltb k 8)
    (λ e. rw (e, lt-ltb k 12 (omega (arith, ltb-true k 8 e)), le-leb (k + 0x1c) 0x23 (omega (arith, ltb-true k 8 e))) refl)
    (λ e. by_test (ltb k 12)
    (λ t. rw (e, t, lt-leb (k + 0x1c) 0x23 (omega (arith, ltb-false k 8 e))) refl)
    (λ t. rw (e, t, lt-leb (k + 0x34) 0x23 (omega arith)) refl))

module _ (table regs : List ℕ) (l : length table ≡ 27) (each : (k : ℕ) → k < 27 → get_or regs k 0 ≡ kept_at k (get_or table k 0)) (behind : get_or regs 27 0 ≡ 0) where
  -- at an address of the map
  inside : (a : ℕ) → slot a < 27 → settings_from regs a ≡ stored a (settings_from table a)
  unfolding settings_from
  inside a h =
      each (slot a) h
      ∙ kept_here (slot a) (get_or table (slot a) 0)
      ∙ ap (λ (b : ℕ). stored b (get_or table (slot a) 0)) (address_slot a h)

  -- outside it both are 0
  outside : (a : ℕ) → slot a ≡ 27 → settings_from regs a ≡ stored a (settings_from table a)
  unfolding settings_from
  outside a h = rw (h, get_or-eq_default table 0 {n = 27} (omega arith)) (omega (arith, behind, stored_le a 0))

  here : (a : ℕ) → settings_from regs a ≡ stored a (settings_from table a)
  here a = by_test (ltb (slot a) 27) (λ e. inside a (ltb-true (slot a) 27 e)) (λ e. outside a (omega (arith, slot_le a, ltb-false (slot a) 27 e)))

  pub kept_all : settings_from regs ≡ (λ a. stored a (settings_from table a))
  kept_all = λ i a. here a i
