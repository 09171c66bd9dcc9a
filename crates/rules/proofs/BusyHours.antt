-- The laws of the busy hours (#107), proved.
use Prim.Native.Nat.{ℕ, ◌+◌, ◌-◌, ◌≤◌, ◌<◌, min}
use mathlib.Core.Path.{◌≡◌, refl, ap, sym, ◌∙◌}
use mathlib.Core.Logic.{◌⊎◌, inl, inr}
use mathlib.Core.Bool.{Bool, true, false, not, ◌||◌}
use native.Mathlib.Omega.{arith}
use lib.Dec.{leb, eqb}
use borrow.Author.Tests.{leb-true, leb-false, le-leb, lt-leb, eq-eqb, ne_eqb, not-false}
use Rattle.rules.specs.Settings.{Settings, automatic, revertive, reversion}
use Rattle.rules.specs.Inputs.{Inputs}
use Rattle.rules.specs.Selection.{Choice, candidate, best, settled, wait_limit, wait_after, switches, reverted, reselected, chosen}
use Rattle.rules.specs.BusyHours.{NoReversion, LostReference, Kept, OnlyReversions, BusyHours}
use Rattle.rules.proofs.Tests.{if_case, by_test}
use Rattle.rules.proofs.Chosen.{waiting}
use Rattle.rules.proofs.Windows.{blocked_run}

-- ---- the wait

-- a wait of n ticks or fewer rises in a window as outside; so does one that is not over with this tick
module _ (n b : ℕ) (c : Choice) where
  rises : c.wait ≤ n → wait_after true n b c ≡ wait_after false n b c
  unfolding wait_after
  rises h = rw (lt-leb (n + 1) c.wait (omega arith)) refl

  unfinished : switches n (wait_after false n b c) ≡ false → wait_after true n b c ≡ wait_after false n b c
  unfolding wait_after switches
  unfinished e =
      by_test (eqb c.wait 0 || not (eqb c.awaited b)) (λ t. rw t refl)
      (λ t. rw t
      (if_case (λ m. min wait_limit m ≡ min wait_limit (c.wait + 1)) (leb (n + 1) c.wait)
      (λ l. omega (arith, leb-true (n + 1) c.wait l, leb-false n (min wait_limit (c.wait + 1) - 1) (rw t at e))) (λ l. refl)))

  -- one that is over stays over
  finished : switches n (wait_after false n b c) ≡ true → n < wait_after true n b c
  unfolding wait_after switches
  finished e =
      by_test (eqb c.wait 0 || not (eqb c.awaited b)) (λ t. rw t (omega (arith, leb-true n 0 (rw t at e))))
      (λ t. rw t
      (if_case (λ m. n < min wait_limit m) (leb (n + 1) c.wait)
      (λ l. omega (arith, leb-true (n + 1) c.wait l, leb-true n (min wait_limit (c.wait + 1) - 1) (rw t at e)))
      (λ l. omega (arith, leb-true n (min wait_limit (c.wait + 1) - 1) (rw t at e)))))

  rests : n < c.wait → c.wait ≤ wait_limit → c.awaited ≡ b → wait_after true n b c ≡ c.wait
  unfolding wait_after
  rests h l e = rw (ne_eqb c.wait 0 (λ z. omega arith), e, eq-eqb b b refl, le-leb (n + 1) c.wait (omega arith)) (omega arith)

  ends : n < c.wait → c.wait < wait_limit → c.awaited ≡ b → reverted false n b c ≡ settled b
  unfolding reverted switches wait_after
  ends h l e = rw (ne_eqb c.wait 0 (λ z. omega arith), e, eq-eqb b b refl) (rw (le-leb n (min wait_limit (c.wait + 1) - 1) (omega arith)) refl)

-- ---- the choice

lost_reference : LostReference
unfolding chosen reselected
lost_reference blocked set inputs c a e = rw (a, e) refl

-- the reversion itself: it is not over, or it is and is kept
module _ (n b : ℕ) (c : Choice) where
  same_wait : switches n (wait_after false n b c) ≡ false → reverted true n b c ≡ reverted false n b c
  unfolding reverted
  same_wait e = rw (e, unfinished n b c e) refl

  pub switched : switches n (wait_after false n b c) ≡ true → reverted false n b c ≡ settled b
  unfolding reverted
  switched e = rw e refl

  pub kept : reverted true n b c ≡ waiting true n b c
  unfolding reverted
  kept = refl

  -- a wait that is not over goes on, in a window or not
  pub not_over : (blocked : Bool) → switches n (wait_after false n b c) ≡ false → reverted blocked n b c ≡ waiting false n b c
  unfolding reverted
  not_over true e = rw (unfinished n b c e) refl
  not_over false e = rw e refl

no_reversion : NoReversion
unfolding chosen reselected reverted settled
no_reversion set inputs c a e =
    rw (a, e)
    (if_case (λ (d : Choice). d.selected ≡ c.selected) (eqb c.selected (best set inputs)) (λ z. refl)
    (λ z. if_case (λ (d : Choice). d.selected ≡ c.selected) (not (revertive set c.selected)) (λ v. refl) (λ v. refl)))

-- a candidate that is not the best, and is revertive
module _ (set : Settings) (inputs : Inputs) (c : Choice) (a : automatic set ≡ true) (n : not (candidate set inputs c.selected) ≡ false)
    (e : eqb c.selected (best set inputs) ≡ false) (v : not (revertive set c.selected) ≡ false) where
  is : (blocked : Bool) → chosen blocked set inputs c ≡ reverted blocked (reversion set) (best set inputs) c
  unfolding chosen reselected
  is blocked = rw (a, n, e, v) refl

  -- in a window it stays selected
  waits_on : chosen true set inputs c ≡ waiting true (reversion set) (best set inputs) c
  waits_on = is true ∙ kept (reversion set) (best set inputs) c

  reversion_case : (chosen true set inputs c ≡ chosen false set inputs c) ⊎ Kept set inputs c
  reversion_case =
      by_test (switches (reversion set) (wait_after false (reversion set) (best set inputs) c))
      (λ t. inr (record {
        control = a;
        stands = not-false (candidate set inputs c.selected) n;
        reverts = not-false (revertive set c.selected) v;
        free = is false ∙ switched (reversion set) (best set inputs) c t;
        over = rw waits_on (finished (reversion set) (best set inputs) c t);
        for = ap (λ (d : Choice). d.awaited) waits_on;
      }))
      (λ t. inl (is true ∙ same_wait (reversion set) (best set inputs) c t ∙ sym (is false)))

only_reversions : OnlyReversions
unfolding chosen reselected
only_reversions set inputs c =
    by_test (automatic set)
    (λ a. by_test (not (candidate set inputs c.selected)) (λ n. inl (rw (a, n) refl))
    (λ n. by_test (eqb c.selected (best set inputs)) (λ e. inl (rw (a, n, e) refl))
    (λ e. by_test (not (revertive set c.selected)) (λ v. inl (rw (a, n, e, v) refl)) (λ v. reversion_case set inputs c a n e v))))
    (λ a. inl (rw a refl))

-- ---- together

pub busy_hours : BusyHours
busy_hours =
    record {
      no_reversion = no_reversion;
      lost_reference = lost_reference;
      only_reversions = only_reversions;
      wait_in_window = record { rises = rises; rests = rests; ends = ends };
      blocked_run = blocked_run;
    }
