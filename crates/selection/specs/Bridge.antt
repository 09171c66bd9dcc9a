-- From the stored choice to the rules' choice, and what a choice is handed that follows from the registers.
use Rattle.std.specs.Prelude.{ℕ, ◌≤◌, ◌≡◌, List}
use Rattle.rules.specs.Settings.{Settings, reversion}
use Rattle.rules.specs.Selection as rules
use Rattle.candidates.specs.Keys.{keys_from}
use Rattle.selection.specs.declared.Choice.{Choice}

abbrev pub choice_of : Choice → rules.Choice
choice_of c = record { selected = c.selected; wait = c.wait; awaited = c.awaited }

-- the candidates' keys are those of the settings, and what is handed on is a floor of the settings' delay: a number of ticks that is not above it
pub record Follows (set : Settings) (keys : List ℕ) (handed : ℕ) : Type 0 where
  pub keyed : keys ≡ keys_from set
  pub delayed : handed ≤ reversion set
