-- The unit's state, as the rules see it.
use Rattle.std.specs.Prelude.{ℕ, Bool}
use Rattle.rules.specs.Pll.{Mode, Loop}
use Rattle.rules.specs.Settings.{Settings}
use Rattle.rules.specs.Week.{Week, busy}
use Rattle.rules.specs.Inputs.{Inputs}
use Rattle.rules.specs.Selection.{Choice}
use Rattle.rules.specs.Buckets.{Buckets}
use Rattle.rules.specs.History.{History, ready}

pub record State : Type 0 where
  pub inputs : Inputs
  -- #104: the four sets, and the set of each input
  pub buckets : Buckets
  pub settings : Settings
  pub loop : Loop
  pub choice : Choice
  pub history : History
  -- the ticks in Holdover after the entering event; 0 in any other state
  pub holding : ℕ
  -- #107: the place in the week, and the windows
  pub week : Week

abbrev pub selected : State → ℕ
selected s = s.choice.selected

abbrev pub mode : State → Mode
mode s = s.loop.mode

-- the place lies in a window
abbrev pub Blocked : State → Bool
Blocked s = busy s.week.windows s.week.place

abbrev pub Ready : State → Bool
Ready s = ready s.history

-- ---- the state with another part

abbrev pub with_inputs : Inputs → State → State
with_inputs inputs s =
    record { inputs = inputs; buckets = s.buckets; settings = s.settings; loop = s.loop; choice = s.choice; history = s.history; holding = s.holding; week = s.week }

abbrev pub with_buckets : Buckets → State → State
with_buckets buckets s =
    record { inputs = s.inputs; buckets = buckets; settings = s.settings; loop = s.loop; choice = s.choice; history = s.history; holding = s.holding; week = s.week }

abbrev pub with_settings : Settings → State → State
with_settings settings s =
    record { inputs = s.inputs; buckets = s.buckets; settings = settings; loop = s.loop; choice = s.choice; history = s.history; holding = s.holding; week = s.week }

abbrev pub with_loop : Loop → State → State
with_loop loop s =
    record { inputs = s.inputs; buckets = s.buckets; settings = s.settings; loop = loop; choice = s.choice; history = s.history; holding = s.holding; week = s.week }

abbrev pub with_choice : Choice → State → State
with_choice choice s =
    record { inputs = s.inputs; buckets = s.buckets; settings = s.settings; loop = s.loop; choice = choice; history = s.history; holding = s.holding; week = s.week }

abbrev pub with_history : History → State → State
with_history history s =
    record { inputs = s.inputs; buckets = s.buckets; settings = s.settings; loop = s.loop; choice = s.choice; history = history; holding = s.holding; week = s.week }

abbrev pub with_holding : ℕ → State → State
with_holding holding s =
    record { inputs = s.inputs; buckets = s.buckets; settings = s.settings; loop = s.loop; choice = s.choice; history = s.history; holding = holding; week = s.week }

abbrev pub with_week : Week → State → State
with_week week s =
    record { inputs = s.inputs; buckets = s.buckets; settings = s.settings; loop = s.loop; choice = s.choice; history = s.history; holding = s.holding; week = week }
