-- From the stored place and windows to the rules' week.
use Rattle.std.specs.Prelude.{ℕ, ◌*◌, List, [], ◌∷◌, map, ltb, get_or, if◌then◌else◌}
use Rattle.std.specs.List.{range_with_len}
use Rattle.rules.specs.Week as rules
use Rattle.rules.specs.Week.{Window, windows_from}

-- those whose start is before their end: a stored pair of which that is not so is no window
unfoldable pub standing : List Window → List Window
standing [] = []
standing (w ∷ ws) = if ltb w.start w.end then w ∷ standing ws else standing ws

-- the window of two numbers, its start and its end
abbrev pub window_of : List ℕ → Window
window_of pair = record { start = get_or pair 0 0; end = get_or pair 1 0 }

-- the windows that sixteen stored numbers are
abbrev pub windows_of : List ℕ → List Window
windows_of numbers = standing (windows_from 8 0 numbers)

abbrev pub week_of : ℕ → List ℕ → rules.Week
week_of place numbers = record { place = place; windows = windows_of numbers }

-- ---- what is stored of a call's windows

-- the number at place k, if it is one of the first n; else 0
abbrev pub kept_at : ℕ → List ℕ → ℕ → ℕ
kept_at n numbers k = if ltb k n then get_or numbers k 0 else 0

-- the first `count` windows' numbers, and 0 for each other of the sixteen
abbrev pub kept_numbers : ℕ → List ℕ → List ℕ
kept_numbers count numbers = map (kept_at (2 * count) numbers) (range_with_len 0 16)
