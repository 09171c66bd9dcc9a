-- What is stored of windows that pass the check are those windows.
use Rattle.std.proofs.Common.{◌≡◌, ℕ, zero, suc, ◌+◌, ◌*◌, ◌≤◌, ◌<◌, true, false, List, [], get_or, refl, arith}
use Rattle.std.proofs.lemmas.Grind.{common_steps}
use Rattle.std.proofs.lemmas.List.FromFn.{get_or-map-range_with_len}
use lib.Dec.{ltb}
use Rattle.rules.specs.Week.{is_window, ascending, windows_fit, window_at, windows_from, first_windows}
use Rattle.week.specs.Bridge.{standing, windows_of, kept_at, kept_numbers}
use Rattle.week.proofs.Windows.{length_from}

module _ (count : ℕ) (l : List ℕ) where
  abbrev r : List ℕ
  r = kept_numbers count l

  each : (j : ℕ) → j < 16 → get_or r j 0 ≡ kept_at (2 * count) l j
  each j h = get_or-map-range_with_len (kept_at (2 * count) l) 0 16 j j 0 h (omega arith)

  kept_here : (k : ℕ) → k < 8 → k < count → window_at k r ≡ window_at k l
  kept_here k h m =
      let start = each (2 * k) (omega arith) in
      let end = each (2 * k + 1) (omega arith) in
      grind (arith, common_steps)

  none_here : (k : ℕ) → k < 8 → count ≤ k → ltb (get_or r (2 * k) 0) (get_or r (2 * k + 1) 0) ≡ false
  none_here k h m =
      let start = each (2 * k) (omega arith) in
      let end = each (2 * k + 1) (omega arith) in
      grind (arith, common_steps)

  -- past the first `count`
  rest_empty : (m k : ℕ) → m + k ≤ 8 → count ≤ k → standing (windows_from m k r) ≡ []
  unfolding standing windows_from
  rest_empty zero k h c = refl
  rest_empty (suc m) k h c = rw (none_here k (omega arith) c) (rest_empty m (k + 1) (omega arith) (omega arith))

  -- m of eight from window k on, n of them among the first `count`
  windows_kept : (m n k from : ℕ) → m + k ≡ 8 → n + k ≡ count → n ≤ m → ascending from (windows_from n k l) ≡ true
      → standing (windows_from m k r) ≡ windows_from n k l
  unfolding standing windows_from ascending is_window
  windows_kept m zero k from h c le ok = rest_empty m k (omega arith) (omega arith)
  windows_kept zero (suc n) k from h c le ok = absurd (omega (arith, le))
  windows_kept (suc m) (suc n) k from h c le ok =
      let here = kept_here k (omega arith) (omega arith) in
      let rest = windows_kept m n (k + 1) (get_or l (2 * k + 1) 0 + 1) (omega arith) (omega arith) (omega arith) (grind (arith, common_steps)) in
      grind (arith, common_steps)

  pub stored_windows : windows_fit (first_windows count l) ≡ true → windows_of (kept_numbers count l) ≡ first_windows count l
  unfolding windows_fit
  stored_windows ok =
      let long = length_from count 0 l in
      windows_kept 8 count 0 0 refl (omega arith) (grind (arith, common_steps)) (grind (arith, common_steps))
