-- A run of blocked ticks (#107): it ends with its window, over the week's end too, so it is no longer than the longest of them.
use Rattle.std.specs.Prelude.{if◌then◌else◌}
use Prim.Native.Nat.{ℕ, zero, suc, ◌+◌, ◌-◌, ◌≤◌, ◌<◌}
use mathlib.Core.Path.{◌≡◌, refl}
use mathlib.Core.Bool.{true, false, not, ◌&&◌, false≢true}
use mathlib.Core.List.{List, [], ◌∷◌}
use native.Mathlib.Omega.{arith}
use native.Mathlib.Nat.{not-suc-le-zero}
use lib.Dec.{leb, ltb}
use lib.ListN.{length}
use borrow.Author.Tests.{leb-true, leb-false, ltb-true, ltb-false, eq-eqb, le-leb, lt-leb, le-ltb, lt-ltb}
use Rattle.rules.specs.Week.{week_ticks, Window, in_window, busy, advanced, longest, is_window, ascending, starts_week, last_end, ends_week, windows_fit}
use Rattle.rules.specs.BusyHours.{place_after, BlockedRun}
use Rattle.rules.proofs.Tests.{if_case, by_test, clash, and_false, and_left, and_right}

-- how many ticks are blocked from this place on, up to the end of the window that it lies in
unfoldable pub blocked_for : List Window → ℕ → ℕ
blocked_for [] p = 0
blocked_for (w ∷ ws) p = if in_window p w then w.end - p else blocked_for ws p

-- ---- a place and a window

inside : (w : Window) (p : ℕ) → in_window p w ≡ true → (w.start ≤ p) × (p < w.end)
unfolding in_window
inside w p e = (leb-true w.start p (and_left (leb w.start p) (ltb p w.end) e), ltb-true p w.end (and_right (leb w.start p) (ltb p w.end) e))

ahead_of : (w : Window) (p : ℕ) → p < w.start → in_window p w ≡ false
unfolding in_window
ahead_of w p h = rw (lt-leb w.start p h) refl

past : (w : Window) (p : ℕ) → w.end ≤ p → in_window p w ≡ false
unfolding in_window
past w p h = rw (le-ltb p w.end h) (and_false (leb w.start p))

amid : (w : Window) (p : ℕ) → w.start ≤ p → p < w.end → in_window p w ≡ true
unfolding in_window
amid w p lo hi = rw (le-leb w.start p lo, lt-ltb p w.end hi) refl

pub busy_some : (ws : List Window) (p : ℕ) → busy ws p ≡ true → 1 ≤ blocked_for ws p
unfolding busy blocked_for
busy_some [] p e = absurd (false≢true e)
busy_some (w ∷ ws) p e =
    if_case (λ n. 1 ≤ n) (in_window p w) (λ t. omega (arith, (inside w p t).1)) (λ t. busy_some ws p (rw t at e))

pub blocked_longest : (ws : List Window) (p : ℕ) → blocked_for ws p ≤ longest ws
unfolding blocked_for longest
blocked_longest [] p = omega arith
blocked_longest (w ∷ ws) p =
    if_case (λ n. n ≤ longest (w ∷ ws)) (in_window p w) (λ t. omega (arith, (inside w p t).0)) (λ t. omega (arith, blocked_longest ws p))

-- ---- windows that ascend

-- the parts of the check
module _ (from : ℕ) (w : Window) (ws : List Window) (ok : ascending from (w ∷ ws) ≡ true) where
  starts : from ≤ w.start
  unfolding ascending
  starts = leb-true from w.start (and_left (leb from w.start) _ ok)

  one : is_window w ≡ true
  unfolding ascending
  one = and_left (is_window w) _ (and_right (leb from w.start) _ ok)

  ordered : w.start < w.end
  unfolding is_window
  ordered = ltb-true w.start w.end (and_left (ltb w.start w.end) _ one)

  ends : w.end ≤ week_ticks
  unfolding is_window
  ends = leb-true w.end week_ticks (and_right (ltb w.start w.end) _ one)

  rest : ascending (w.end + 1) ws ≡ true
  unfolding ascending
  rest = and_right (is_window w) _ (and_right (leb from w.start) _ ok)

-- nothing is blocked before the first start
free_below : (from : ℕ) (ws : List Window) (p : ℕ) → ascending from ws ≡ true → p < from → blocked_for ws p ≡ 0
unfolding blocked_for
free_below from [] p ok h = refl
free_below from (w ∷ ws) p ok h =
    rw (ahead_of w p (omega (arith, starts from w ws ok)))
    (free_below (w.end + 1) ws p (rest from w ws ok) (omega (arith, starts from w ws ok, ordered from w ws ok)))

-- at the next place fewer ticks are left, and none where the window ends
next_place : (from : ℕ) (ws : List Window) (p : ℕ) → ascending from ws ≡ true → 1 ≤ blocked_for ws p → blocked_for ws (p + 1) < blocked_for ws p
unfolding blocked_for
next_place from [] p ok h = h
next_place from (w ∷ ws) p ok h = by_test (in_window p w) (λ t. within t) (λ t. rw (t, past w (p + 1) (later t)) (next_place (w.end + 1) ws p (rest from w ws ok) (rw t at h)))
  where
    -- in w itself
    within : in_window p w ≡ true → (if in_window (p + 1) w then w.end - (p + 1) else blocked_for ws (p + 1)) < (if in_window p w then w.end - p else blocked_for ws p)
    within t =
        rw t
        (if_case (λ n. n < w.end - p) (in_window (p + 1) w) (λ u. omega (arith, (inside w p t).1))
        (λ u. by_test (leb w.end (p + 1))
        (λ l. omega (arith, (inside w p t).1, free_below (w.end + 1) ws (p + 1) (rest from w ws ok) (omega (arith, (inside w p t).1))))
        (λ l. clash (amid w (p + 1) (omega (arith, (inside w p t).0)) (omega (arith, leb-false w.end (p + 1) l))) u)))

    -- in a later window, so past the end of w
    later : in_window p w ≡ false → w.end ≤ p + 1
    later t =
        by_test (leb w.end (p + 1)) (λ l. leb-true w.end (p + 1) l)
        (λ l. omega (arith, rw t at h, free_below (w.end + 1) ws p (rest from w ws ok) (omega (arith, leb-false w.end (p + 1) l))))

-- ---- the week's end

-- no window comes after it
none_past : (from : ℕ) (ws : List Window) (end : ℕ) → ascending from ws ≡ true → week_ticks < from → last_end end ws ≡ end
unfolding last_end
none_past from [] end ok h = refl
none_past from (w ∷ ws) end ok h = omega (arith, starts from w ws ok, ordered from w ws ok, ends from w ws ok)

-- blocked in the week's last tick: the last window ends the week
last_blocked : (from : ℕ) (ws : List Window) (p end : ℕ) → week_ticks ≤ p + 1 → ascending from ws ≡ true → 1 ≤ blocked_for ws p → last_end end ws ≡ week_ticks
unfolding blocked_for last_end
last_blocked from [] p end e ok h = omega arith
last_blocked from (w ∷ ws) p end e ok h =
    by_test (in_window p w)
    (λ t. omega (arith, none_past (w.end + 1) ws w.end (rest from w ws ok) (omega (arith, (inside w p t).1)), (inside w p t).1, ends from w ws ok))
    (λ t. last_blocked (w.end + 1) ws p w.end e (rest from w ws ok) (rw t at h))

-- blocked in its first: the first window starts it
first_blocked : (ws : List Window) → ascending 0 ws ≡ true → 1 ≤ blocked_for ws 0 → starts_week ws ≡ true
unfolding blocked_for starts_week
first_blocked [] ok h = absurd (not-suc-le-zero h)
first_blocked (w ∷ ws) ok h =
    by_test (in_window 0 w) (λ t. eq-eqb w.start 0 (omega (arith, (inside w 0 t).0)))
    (λ t. absurd (not-suc-le-zero (rw (t, free_below (w.end + 1) ws 0 (rest 0 w ws ok) (omega arith)) at h)))

-- ---- together

-- a blocked tick leaves fewer to come
module _ (ws : List Window) (ok : windows_fit ws ≡ true) where
  rising : ascending 0 ws ≡ true
  unfolding windows_fit
  rising = and_left (ascending 0 ws) _ (and_right (leb (length ws) 8) _ ok)

  apart : not (starts_week ws && ends_week ws) ≡ true
  unfolding windows_fit
  apart = and_right (ascending 0 ws) _ (and_right (leb (length ws) 8) _ ok)

  pub blocked_less : (p : ℕ) → busy ws p ≡ true → blocked_for ws (advanced p) < blocked_for ws p
  unfolding advanced ends_week
  blocked_less p b = if_case (λ n. blocked_for ws n < blocked_for ws p) (ltb (p + 1) week_ticks) (λ e. next_place 0 ws p rising some) wraps
    where
      some : 1 ≤ blocked_for ws p
      some = busy_some ws p b

      -- not both the last tick and the first are blocked
      wraps : ltb (p + 1) week_ticks ≡ false → blocked_for ws 0 < blocked_for ws p
      wraps e =
          by_test (leb 1 (blocked_for ws 0))
          (λ t. clash apart
          (rw (first_blocked ws rising (leb-true 1 (blocked_for ws 0) t), last_blocked 0 ws p 0 (ltb-false (p + 1) week_ticks e) rising some) refl))
          (λ t. omega (arith, some, leb-false 1 (blocked_for ws 0) t))

  -- so many in a row are blocked at most
  run_left : (k p : ℕ) → ((j : ℕ) → j < k → busy ws (place_after j p) ≡ true) → k ≤ blocked_for ws p
  unfolding place_after
  run_left zero p all = omega arith
  run_left (suc k) p all = omega (arith, blocked_less p (all 0 (omega arith)), run_left k (advanced p) (λ j h. all (suc j) (omega arith)))

-- NO LONGER THAN THE LONGEST WINDOW
pub blocked_run : BlockedRun
blocked_run ws p k ok all = omega (arith, run_left ws ok k p all, blocked_longest ws p)
