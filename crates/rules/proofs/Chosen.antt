-- What the choice of a tick comes to.
use Prim.Native.Nat.{ℕ, ◌-◌, ◌+◌, ◌≤◌, ◌<◌, min}
use mathlib.Core.Path.{◌≡◌, refl, sym, ap, ◌∙◌}
use mathlib.Core.Logic.{◌⊎◌, inl, inr}
use mathlib.Core.Bool.{Bool, true, false, not, ◌&&◌, ◌||◌}
use native.Mathlib.Omega.{arith}
use lib.Dec.{leb, eqb}
use borrow.Author.Tests.{eqb-true, eqb-false, leb-true, leb-false, eq-eqb, ne_eqb, not-false, not-true}
use Rattle.rules.specs.Words.{is_input}
use Rattle.rules.specs.Monitors.{qualified}
use Rattle.rules.specs.Settings.{Settings, automatic, op_mode, usable, revertive, reversion}
use Rattle.rules.specs.Inputs.{Inputs, input}
use Rattle.rules.specs.Selection.{Choice, candidate, best, settled, wait_limit, wait_after, switches, reverted, reselected, manual, chosen}
use Rattle.rules.specs.Laws.{BestOf, Eligible, Judged, Selectable, Selected, NonRevertive, WaitRule}
use Rattle.rules.proofs.Tests.{if_case, by_test, clash, and_left, and_right, or_true, high}
use Rattle.rules.proofs.Best.{available_is, candidate_is, candidate_number, best_of}

-- ---- every choice

-- the wait goes on: another candidate than the best stays selected
abbrev pub waiting : Bool → ℕ → ℕ → Choice → Choice
waiting blocked n b c = record { selected = c.selected; wait = wait_after blocked n b c; awaited = b }

-- the wait is over, and no window blocks the switch
abbrev pub goes : Bool → ℕ → ℕ → Choice → Bool
goes blocked n b c = not blocked && switches n (wait_after blocked n b c)

module _ (blocked : Bool) (set : Settings) (inputs : Inputs) where
  -- the best, if there is one, is a candidate
  best_candidate_or_0 : (best set inputs ≡ 0) ⊎ (candidate set inputs (best set inputs) ≡ true)
  best_candidate_or_0 = go (best_of set inputs)
    where
      go : BestOf set inputs (best set inputs) → (best set inputs ≡ 0) ⊎ (candidate set inputs (best set inputs) ≡ true)
      go (inl n) = inl n.0
      go (inr w) = inr w.0

  -- what a choice settles on: under automatic control none or a candidate, in manual none or a qualified input
  abbrev Settles : ℕ → Type 0
  Settles x =
      ((automatic set ≡ true) × ((x ≡ 0) ⊎ (candidate set inputs x ≡ true)))
      ⊎ ((automatic set ≡ false) × ((x ≡ 0) ⊎ ((is_input x ≡ true) × (qualified (input inputs x) ≡ true))))

  -- A choice settles on such a number, or lets the selected candidate wait on.
  pub chosen_case : (c : Choice) (P : Choice → Type 0)
      → ((x : ℕ) → Settles x → P (settled x))
      → (automatic set ≡ true → candidate set inputs c.selected ≡ true → goes blocked (reversion set) (best set inputs) c ≡ false
      → P (waiting blocked (reversion set) (best set inputs) c))
      → P (chosen blocked set inputs c)
  unfolding chosen reselected reverted manual
  chosen_case c P settle wait =
      if_case P (automatic set)
      (λ a. if_case P (not (candidate set inputs c.selected)) (λ n. settle b (inl (a, best_candidate_or_0)))
      (λ n. if_case P (eqb c.selected b) (λ e. settle c.selected (inl (a, inr (is_candidate n))))
      (λ e. if_case P (not (revertive set c.selected)) (λ v. settle c.selected (inl (a, inr (is_candidate n))))
      (λ v. if_case P (goes blocked (reversion set) b c) (λ w. settle b (inl (a, best_candidate_or_0))) (λ w. wait a (is_candidate n) w)))))
      (λ a. settle _ (inr (
        a,
        if_case JudgedOr0 (is_input s && qualified (input inputs s))
            (λ t. inr (and_left (is_input s) (qualified (input inputs s)) t, and_right (is_input s) (qualified (input inputs s)) t)) (λ t. inl refl),
      )))
    where
      b : ℕ
      b = best set inputs

      s : ℕ
      s = op_mode set

      JudgedOr0 : ℕ → Type 0
      JudgedOr0 x = (x ≡ 0) ⊎ ((is_input x ≡ true) × (qualified (input inputs x) ≡ true))

      is_candidate : not (candidate set inputs c.selected) ≡ false → candidate set inputs c.selected ≡ true
      is_candidate n = not-false (candidate set inputs c.selected) n

  candidate_eligible : (x : ℕ) → candidate set inputs x ≡ true → Eligible set inputs x
  candidate_eligible x e = candidate_is set inputs x e (λ z u. inr (inl (z, sym (ap (usable set) z) ∙ u))) (λ a. inr (inr a))

  eligible_selectable : (x : ℕ) → Eligible set inputs x → Selectable inputs x
  eligible_selectable x (inl z) = inl (inl z)
  eligible_selectable x (inr (inl w)) = inl (inr w.0)
  eligible_selectable x (inr (inr a)) = inr ((available_is set inputs x a).0, (available_is set inputs x a).2)

  candidate_selectable : (x : ℕ) → candidate set inputs x ≡ true → Selectable inputs x
  candidate_selectable x e = eligible_selectable x (candidate_eligible x e)

  pub settles_selectable : (x : ℕ) → Settles x → Selectable inputs x
  settles_selectable x (inl w) = go w.1
    where
      go : (x ≡ 0) ⊎ (candidate set inputs x ≡ true) → Selectable inputs x
      go (inl z) = inl (inl z)
      go (inr e) = candidate_selectable x e
  settles_selectable x (inr w) = go w.1
    where
      go : (x ≡ 0) ⊎ ((is_input x ≡ true) × (qualified (input inputs x) ≡ true)) → Selectable inputs x
      go (inl z) = inl (inl z)
      go (inr q) = inr q

  settles_eligible : (x : ℕ) → automatic set ≡ true → Settles x → Eligible set inputs x
  settles_eligible x a (inr w) = clash a w.0
  settles_eligible x a (inl w) = go w.1
    where
      go : (x ≡ 0) ⊎ (candidate set inputs x ≡ true) → Eligible set inputs x
      go (inl z) = inl z
      go (inr e) = candidate_eligible x e

  -- Op_Mode 0 in manual selects none
  pub manual_none : (c : Choice) → (not (automatic set) && eqb (op_mode set) 0) ≡ true → (chosen blocked set inputs c).selected ≡ 0
  unfolding chosen manual settled
  manual_none c e =
      rw (not-true (automatic set) (and_left (not (automatic set)) (eqb (op_mode set) 0) e), eqb-true (op_mode set) 0 (and_right (not (automatic set)) (eqb (op_mode set) 0) e)) refl

pub chosen_selectable : Selected
unfolding settled
chosen_selectable blocked set inputs c =
    chosen_case blocked set inputs c (λ d. Selectable inputs d.selected) (settles_selectable blocked set inputs)
    (λ a e w. candidate_selectable blocked set inputs c.selected e)

pub judged : Judged
unfolding settled
judged blocked set inputs c a =
    chosen_case blocked set inputs c (λ d. Eligible set inputs d.selected) (λ x s. settles_eligible blocked set inputs x a s)
    (λ b e w. candidate_eligible blocked set inputs c.selected e)

pub non_revertive : NonRevertive
unfolding chosen reselected
non_revertive blocked set inputs c a e v =
    rw (a, e, v) (if_case (λ d. d ≡ settled c.selected) (eqb c.selected (best set inputs)) (λ z. refl) (λ z. refl))

-- a number that may be selected is at most 9
pub selectable_le : (inputs : Inputs) (c : ℕ) → Selectable inputs c → c ≤ 9
selectable_le inputs c (inl (inl z)) = omega arith
selectable_le inputs c (inl (inr z)) = omega arith
selectable_le inputs c (inr q) = omega (arith, high 1 8 c q.0)

-- ---- the choice where r is best and every other candidate is revertive

-- r is not selected yet: another candidate is, and the wait for r goes on
pub record Waits (blocked : Bool) (n r : ℕ) (c d : Choice) : Type 0 where
  pub counts : d.wait ≡ wait_after blocked n r c
  pub for : d.awaited ≡ r
  pub within : blocked ≡ false → wait_after blocked n r c ≤ n
  pub other : c.selected ≡ r → ⊥
  pub some : c.selected ≡ 0 → ⊥

-- a tick outside a window that does not switch: the wait is not over
unover : (blocked : Bool) (n r : ℕ) (c : Choice) → goes blocked n r c ≡ false → blocked ≡ false → wait_after blocked n r c ≤ n
unfolding switches
unover true n r c e f = clash refl f
unover false n r c e f = omega (arith, leb-false n (wait_after false n r c - 1) e)

reverted_cases : (blocked : Bool) (n r : ℕ) (c : Choice) → (c.selected ≡ r → ⊥) → (c.selected ≡ 0 → ⊥)
    → ((reverted blocked n r c).selected ≡ r) ⊎ Waits blocked n r c (reverted blocked n r c)
unfolding reverted settled
reverted_cases blocked n r c ne nz =
    if_case (λ (d : Choice). (d.selected ≡ r) ⊎ Waits blocked n r c d) (goes blocked n r c) (λ e. inl refl)
    (λ e. inr (record { counts = refl; for = refl; within = unover blocked n r c e; other = ne; some = nz }))

pub reselected_cases : (blocked : Bool) (set : Settings) (inputs : Inputs) (r : ℕ) (c : Choice)
    → ((x : ℕ) → candidate set inputs x ≡ true → (x ≡ r → ⊥) → revertive set x ≡ true)
    → ((reselected blocked set inputs r c).selected ≡ r) ⊎ Waits blocked (reversion set) r c (reselected blocked set inputs r c)
unfolding reselected settled
reselected_cases blocked set inputs r c all =
    if_case Fine (not (candidate set inputs c.selected)) (λ n. inl refl)
    (λ n. if_case Fine (eqb c.selected r) (λ e. inl (eqb-true c.selected r e))
    (λ e. if_case Fine (not (revertive set c.selected))
    (λ v. clash (all c.selected (is_candidate n) (eqb-false c.selected r e)) (not-true (revertive set c.selected) v))
    (λ v. reverted_cases blocked (reversion set) r c (eqb-false c.selected r e) (some (candidate_number set inputs c.selected (is_candidate n)).0))))
  where
    Fine : Choice → Type 0
    Fine d = (d.selected ≡ r) ⊎ Waits blocked (reversion set) r c d

    is_candidate : not (candidate set inputs c.selected) ≡ false → candidate set inputs c.selected ≡ true
    is_candidate n = not-false (candidate set inputs c.selected) n

    some : 1 ≤ c.selected → c.selected ≡ 0 → ⊥
    some l z = omega arith

-- ---- the wait

-- in a window it rises only if it is below n + 1
pub rested : (blocked : Bool) (n w : ℕ) → (blocked && leb (n + 1) w) ≡ true → n < w
rested blocked n w e = omega (arith, leb-true (n + 1) w (and_right blocked (leb (n + 1) w) e))

pub wait_one : (blocked : Bool) (n r : ℕ) (c : Choice) → 1 ≤ wait_after blocked n r c
unfolding wait_after
wait_one blocked n r c =
    if_case (λ m. 1 ≤ m) (eqb c.wait 0 || not (eqb c.awaited r)) (λ e. omega arith)
    (λ e. if_case (λ m. 1 ≤ min wait_limit m) (blocked && leb (n + 1) c.wait) (λ t. omega (arith, rested blocked n c.wait t)) (λ t. omega arith))

-- it rises, to n + 1 at least
pub wait_more : (blocked : Bool) (n r : ℕ) (c : Choice) → c.wait < wait_limit → c.awaited ≡ r → min c.wait n + 1 ≤ wait_after blocked n r c
unfolding wait_after
wait_more blocked n r c l e =
    by_test (eqb c.wait 0) (λ z. rw z (omega (arith, eqb-true c.wait 0 z)))
    (λ z. rw (z, e, eq-eqb r r refl)
    (if_case (λ m. min c.wait n + 1 ≤ min wait_limit m) (blocked && leb (n + 1) c.wait) (λ t. omega (arith, rested blocked n c.wait t)) (λ t. omega arith)))

-- and where the tick does not switch, to n + 1 at most, unless it was above
pub wait_bound : (blocked : Bool) (n r : ℕ) (c : Choice) → n + 1 < wait_limit → c.wait < wait_limit → goes blocked n r c ≡ false → wait_after blocked n r c < wait_limit
unfolding wait_after
wait_bound false n r c d l e = omega (arith, unover false n r c e refl)
wait_bound true n r c d l e =
    if_case (λ m. m < wait_limit) (eqb c.wait 0 || not (eqb c.awaited r)) (λ z. omega arith)
    (λ z. if_case (λ m. min wait_limit m < wait_limit) (leb (n + 1) c.wait) (λ t. omega arith) (λ t. omega (arith, leb-false (n + 1) c.wait t)))

pub wait_rule : WaitRule
unfolding wait_after reverted switches settled
wait_rule = record { anew = λ blocked n b c ne. rw (ne_eqb c.awaited b ne) (rw (or_true (eqb c.wait 0)) refl); full = full }
  where
    full : (blocked : Bool) (n b : ℕ) (c : Choice) → (c.selected ≡ b → ⊥) → (reverted blocked n b c).selected ≡ b
        → (n < wait_after blocked n b c) × (blocked ≡ false)
    full blocked n b c ne =
        if_case (λ (d : Choice). d.selected ≡ b → (n < wait_after blocked n b c) × (blocked ≡ false)) (goes blocked n b c)
        (λ e z. (omega (arith, leb-true n (wait_after blocked n b c - 1) (and_right (not blocked) _ e), wait_one blocked n b c), not-true blocked (and_left (not blocked) _ e)))
        (λ e z. absurd (ne z))
