-- Request #107 of document 02, "No reversion during busy hours": the week, the place in it, the windows, and the one check of the calls that set them.
use Rattle.std.specs.Prelude.{ℕ, zero, suc, ◌+◌, ◌-◌, ◌*◌, max, Bool, true, false, not, ◌&&◌, ◌||◌, List, [], ◌∷◌, leb, ltb, eqb, length, get_or, if◌then◌else◌}

-- "A week is 4,725,000 ticks"
abbrev pub week_ticks : ℕ
week_ticks = 4_725_000

-- "each from its first tick up to but not including its end"
pub record Window : Type 0 where
  pub start : ℕ
  pub end : ℕ

pub record Week : Type 0 where
  -- the place in the week of the tick that comes next
  pub place : ℕ
  pub windows : List Window

-- "fresh 0, with no windows"
unfoldable pub fresh_week : Week
fresh_week = record { place = 0; windows = [] }

-- a place lies in a window
unfoldable pub in_window : ℕ → Window → Bool
in_window place w = leb w.start place && ltb place w.end

-- busy hours: it lies in one of them
unfoldable pub busy : List Window → ℕ → Bool
busy [] place = false
busy (w ∷ ws) place = in_window place w || busy ws place

-- "each tick advances it .., returning to 0 at the end"; a place past the end, which no call stores, returns too
unfoldable pub advanced : ℕ → ℕ
advanced place = if ltb (place + 1) week_ticks then place + 1 else 0

-- "The longest window", in ticks; 0 if there is none
unfoldable pub longest : List Window → ℕ
longest [] = 0
longest (w ∷ ws) = max (w.end - w.start) (longest ws)

-- ---- the check

-- not "start not before end", nor "end past the week"
unfoldable pub is_window : Window → Bool
is_window w = ltb w.start w.end && leb w.end week_ticks

-- "ascending with a free tick between": each starts after the end of the one before it. The first starts at `from` or later.
unfoldable pub ascending : ℕ → List Window → Bool
ascending from [] = true
ascending from (w ∷ ws) = leb from w.start && (is_window w && ascending (w.end + 1) ws)

-- "first at 0"
unfoldable pub starts_week : List Window → Bool
starts_week [] = false
starts_week (w ∷ ws) = eqb w.start 0

-- the end of the last of them, or `end` if there is none; "last ending the week"
unfoldable pub last_end : ℕ → List Window → ℕ
last_end end [] = end
last_end end (w ∷ ws) = last_end w.end ws

unfoldable pub ends_week : List Window → Bool
ends_week ws = eqb (last_end 0 ws) week_ticks

-- not "over eight windows", nor one of the others
unfoldable pub windows_fit : List Window → Bool
windows_fit ws = leb (length ws) 8 && (ascending 0 ws && not (starts_week ws && ends_week ws))

-- ---- windows written as numbers, start and end in turn

-- window k of them, the first being window 0; a number that is not there counts as 0
abbrev pub window_at : ℕ → List ℕ → Window
window_at k numbers = record { start = get_or numbers (2 * k) 0; end = get_or numbers (2 * k + 1) 0 }

-- `count` of them, from window k on
unfoldable pub windows_from : ℕ → ℕ → List ℕ → List Window
windows_from zero k numbers = []
windows_from (suc count) k numbers = window_at k numbers ∷ windows_from count (k + 1) numbers

-- a call's windows: start and end of each of the first `count`
abbrev pub first_windows : ℕ → List ℕ → List Window
first_windows count numbers = windows_from count 0 numbers
