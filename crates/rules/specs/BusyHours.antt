-- Request #107 of document 02: what the busy hours change in the selection, and what they never change, as statements. `BusyHours` has them all.
use Rattle.std.specs.Prelude.{ℕ, zero, suc, ◌≤◌, ◌<◌, ◌≡◌, ◌⊎◌, Bool, true, false, List}
use Rattle.rules.specs.Settings.{Settings, automatic, revertive, reversion}
use Rattle.rules.specs.Week.{Window, busy, advanced, longest, windows_fit}
use Rattle.rules.specs.Inputs.{Inputs}
use Rattle.rules.specs.Selection.{Choice, candidate, best, settled, wait_limit, wait_after, reverted, chosen}

-- ---- a window blocks the switch of a reversion, and nothing else

-- windows "block the switch of a reversion": in one, a selected candidate stays selected
abbrev pub NoReversion : Type 0
NoReversion =
    (set : Settings) (inputs : Inputs) (c : Choice) → automatic set ≡ true → candidate set inputs c.selected ≡ true
    → (chosen true set inputs c).selected ≡ c.selected

-- "A switch off a lost reference is never blocked": where the selected one is no candidate any more, the best is taken, or 0, in a window or not
abbrev pub LostReference : Type 0
LostReference =
    (blocked : Bool) (set : Settings) (inputs : Inputs) (c : Choice) → automatic set ≡ true → candidate set inputs c.selected ≡ false
    → chosen blocked set inputs c ≡ settled (best set inputs)

-- a reversion that would switch to the best, and does not, with its wait for the best over
pub record Kept (set : Settings) (inputs : Inputs) (c : Choice) : Type 0 where
  pub control : automatic set ≡ true
  pub stands : candidate set inputs c.selected ≡ true
  pub reverts : revertive set c.selected ≡ true
  pub free : chosen false set inputs c ≡ settled (best set inputs)
  pub over : reversion set < (chosen true set inputs c).wait
  pub for : (chosen true set inputs c).awaited ≡ best set inputs

-- a tick in a window chooses as it would outside, or is such a reversion
abbrev pub OnlyReversions : Type 0
OnlyReversions = (set : Settings) (inputs : Inputs) (c : Choice) → (chosen true set inputs c ≡ chosen false set inputs c) ⊎ Kept set inputs c

-- ---- the wait, n being the reversion delay in ticks and b the best

pub record WaitInWindow : Type 0 where
  -- "rises only if it is below n + 1": as outside while it is, and then it rests
  pub rises : (n b : ℕ) (c : Choice) → c.wait ≤ n → wait_after true n b c ≡ wait_after false n b c
  pub rests : (n b : ℕ) (c : Choice) → n < c.wait → c.wait ≤ wait_limit → c.awaited ≡ b → wait_after true n b c ≡ c.wait
  -- a wait that is over switches in the first tick outside
  pub ends : (n b : ℕ) (c : Choice) → n < c.wait → c.wait < wait_limit → c.awaited ≡ b → reverted false n b c ≡ settled b

-- ---- a run of blocked ticks

-- the place k ticks later
unfoldable pub place_after : ℕ → ℕ → ℕ
place_after zero place = place
place_after (suc k) place = place_after k (advanced place)

-- k ticks in a row that are blocked, from any place on, are no more than the longest window has, over the week's end too
abbrev pub BlockedRun : Type 0
BlockedRun =
    (windows : List Window) (place k : ℕ) → windows_fit windows ≡ true → ((j : ℕ) → j < k → busy windows (place_after j place) ≡ true) → k ≤ longest windows

-- ---- together

pub record BusyHours : Type 0 where
  pub no_reversion : NoReversion
  pub lost_reference : LostReference
  pub only_reversions : OnlyReversions
  pub wait_in_window : WaitInWindow
  pub blocked_run : BlockedRun
