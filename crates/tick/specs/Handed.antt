-- What is made once and handed to the ticks of a unit.
use Rattle.std.specs.Prelude.{ℕ, ◌≡◌, List}
use Rattle.rules.specs.Registers.{settings_from}
use Rattle.buckets.specs.Bridge.{numbers_of}
use Rattle.buckets.specs.declared.Buckets.{Buckets}
use Rattle.buckets.specs.declared.Numbers.{Numbers}
use Rattle.selection.specs.Bridge.{Follows}
use Rattle.selection.specs.declared.Handed as code

-- the numbers of each input's set follow from the sets, the keys and the floor of the delay from the registers
pub record Suits (n : Numbers) (h : code.Handed) (b : Buckets) (regs : List ℕ) : Type 0 where
  pub lanes : n ≡ numbers_of b
  pub follows : Follows (settings_from regs) h.keys h.floor
