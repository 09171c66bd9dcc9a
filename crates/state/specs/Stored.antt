-- THE STORED STATE, named once: the rules' state that it is, and what is said of it.
use Rattle.std.specs.Prelude.{◌≡◌, List, ℕ, ℤ}
use Rattle.rules.specs.History.{fresh_history}
use Rattle.rules.specs.Selection.{settled}
use Rattle.rules.specs.State.{State}
use Rattle.rules.specs.Registers.{settings_from, fresh}
use Rattle.buckets.specs.Bridge.{buckets_of}
use Rattle.buckets.specs.declared.Buckets.{Buckets}
use Rattle.inputs.specs.Bridge as rows
use Rattle.inputs.specs.Bridge.{inputs_of}
use Rattle.inputs.specs.declared.Monitors.{Monitors}
use Rattle.pll.specs.Bridge.{loop_of}
use Rattle.week.specs.Bridge.{week_of}
use Rattle.selection.specs.Bridge.{choice_of}
use Rattle.history.specs.Bridge.{history_of}
use Rattle.history.specs.declared.History.{History}
use Rattle.history.specs.declared.Tally.{Tally}
use Rattle.state.specs.declared.Core.{Core}
use Rattle.state.specs.declared.Unit as code

-- a unit as it is stored
abbrev pub Stored : Type 0
Stored = code.Unit

-- THE BRIDGE: the rules' state that it is
abbrev pub meaning : Stored → State
meaning s =
    record {
      inputs = inputs_of s.monitors;
      buckets = buckets_of s.buckets;
      settings = settings_from s.regs;
      loop = loop_of s.core.pll;
      choice = choice_of s.core.choice;
      history = history_of s.core.tally s.history.sums s.history.building s.history.backup;
      holding = s.core.holding;
      week = week_of s.core.place s.windows;
    }

-- the same, of a core alone: with any sums, it is that of a fresh unit
abbrev pub core_is_fresh : Core → Type 0
core_is_fresh k =
    ((sums building backup : List ℤ) → history_of k.tally sums building backup ≡ fresh_history)
    × (choice_of k.choice ≡ settled 0) × (loop_of k.pll ≡ fresh.loop) × (k.holding ≡ 0) × (k.place ≡ 0)

-- what is said of a unit that is made as the standard fresh one
abbrev pub Made : Stored → Type 0
Made u = meaning u ≡ fresh

-- a unit of these parts: what is lent of one, and what is not
abbrev pub unit_of : Core → Monitors → Buckets → History → List ℕ → List ℕ → Stored
unit_of core monitors buckets history windows regs =
    record { core = core; monitors = monitors; buckets = buckets; history = history; windows = windows; regs = regs }

-- a core with another tally
abbrev pub with_tally : Tally → Core → Core
with_tally t k = record { tally = t; choice = k.choice; holding = k.holding; place = k.place; pll = k.pll }
