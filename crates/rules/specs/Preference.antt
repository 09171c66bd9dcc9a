-- Document 01, "Demand 3": the terms of the settings, and the reference that is preferred by them.
use Rattle.std.specs.Prelude.{ℕ, ◌≤◌, ◌<◌, ◌≡◌, ◌⊎◌, true}
use Rattle.rules.specs.Words.{bit, bit_of}
use Rattle.rules.specs.Settings.{Settings, priority, revertive}

-- "Automatic control: 0x40 is 1. Unmasked: the input's bit in 0x42 is set. Revertive: bit 3 is set."
abbrev pub Automatic : Settings → Type 0
Automatic set = set 0x40 ≡ 1

abbrev pub Unmasked : Settings → ℕ → Type 0
Unmasked set i = bit_of (set 0x42) i ≡ true

abbrev pub Revertive : Settings → ℕ → Type 0
Revertive set c = revertive set c ≡ true

abbrev pub FreeRunEnabled : Settings → Type 0
FreeRunEnabled set = bit (set 0x24) 4 ≡ true

-- "In the priority order r is ahead of an input with a larger priority number, or with the same one and a larger input number, and of Free Run with the same
-- priority number or a larger one." Free Run's register is that of candidate 9.
abbrev pub AheadOfInput : Settings → ℕ → ℕ → Type 0
AheadOfInput set r i = (priority set r < priority set i) ⊎ ((priority set r ≡ priority set i) × (r < i))

abbrev pub AheadOfFreeRun : Settings → ℕ → Type 0
AheadOfFreeRun set r = priority set r ≤ priority set 9

-- r is unmasked, and ahead of every other unmasked input and of Free Run if enabled, all of those revertive
pub record Preferred (r : ℕ) (set : Settings) : Type 0 where
  pub unmasked : Unmasked set r
  pub inputs : (i : ℕ) → 1 ≤ i → i ≤ 8 → (i ≡ r → ⊥) → Unmasked set i → AheadOfInput set r i × Revertive set i
  pub free_run : FreeRunEnabled set → AheadOfFreeRun set r × Revertive set 9
