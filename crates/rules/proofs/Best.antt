-- The priority order, the best candidate, and what the automatic choice makes of it.
use Prim.Native.Nat.{ℕ, zero, suc, ◌≤◌, ◌<◌}
use mathlib.Core.Path.{◌≡◌, refl, sym, ap, ◌∙◌}
use mathlib.Core.Logic.{◌⊎◌, inl, inr}
use mathlib.Core.Bool.{Bool, true, false, ◌&&◌, ◌||◌}
use native.Mathlib.Omega.{arith}
use lib.Dec.{leb, ltb, eqb}
use borrow.Author.Tests.{eqb-true, eqb-false, leb-true, leb-false, ltb-true, ltb-false, eq-eqb, lt-ltb}
use Rattle.rules.specs.Words.{is_input}
use Rattle.rules.specs.Monitors.{qualified}
use Rattle.rules.specs.Settings.{Settings, priority, usable, ahead}
use Rattle.rules.specs.Inputs.{Inputs, input}
use Rattle.rules.specs.Selection.{available, candidate, best_up_to, best}
use Rattle.rules.specs.Laws.{BestOf, BestCandidate}
use Rattle.rules.proofs.Tests.{if_case, by_test, clash, or_true, and_left, and_right, or_cases, low, high}

-- ---- the order

module _ (set : Settings) where
  -- a is ahead of b: the smaller priority number, or the same one and the smaller number
  abbrev Ahead : ℕ → ℕ → Type 0
  Ahead a b = (priority set a < priority set b) ⊎ ((priority set a ≡ priority set b) × (a < b))

  pub ahead_is : (a b : ℕ) → Ahead a b → ahead set a b ≡ true
  unfolding ahead
  ahead_is a b (inl l) = rw (lt-ltb (priority set a) (priority set b) l) refl
  ahead_is a b (inr e) =
      rw (eq-eqb (priority set a) (priority set b) e.0, lt-ltb a b e.1) (or_true (ltb (priority set a) (priority set b)))

  ahead_means : (a b : ℕ) → ahead set a b ≡ true → Ahead a b
  unfolding ahead
  ahead_means a b h = go (or_cases (ltb p q) (eqb p q && ltb a b) h)
    where
      p : ℕ
      p = priority set a

      q : ℕ
      q = priority set b

      go : (ltb p q ≡ true) ⊎ ((eqb p q && ltb a b) ≡ true) → Ahead a b
      go (inl e) = inl (ltb-true p q e)
      go (inr e) = inr (eqb-true p q (and_left (eqb p q) (ltb a b) e), ltb-true a b (and_right (eqb p q) (ltb a b) e))

  -- it is an order, and any two candidates stand in it
  ahead_trans : (a b c : ℕ) → ahead set a b ≡ true → ahead set b c ≡ true → ahead set a c ≡ true
  ahead_trans a b c x y = ahead_is a c (go (ahead_means a b x) (ahead_means b c y))
    where
      go : Ahead a b → Ahead b c → Ahead a c
      go (inl u) (inl v) = inl (omega arith)
      go (inl u) (inr v) = inl (omega (arith, v.0))
      go (inr u) (inl v) = inl (omega (arith, u.0))
      go (inr u) (inr v) = inr (omega (arith, u.0, v.0), omega (arith, u.1, v.1))

  pub ahead_asym : (a b : ℕ) → ahead set a b ≡ true → ahead set b a ≡ true → ⊥
  ahead_asym a b x y = go (ahead_means a a (ahead_trans a b a x y))
    where
      go : Ahead a a → ⊥
      go (inl u) = omega arith
      go (inr u) = omega (arith, u.1)

  ahead_total : (a b : ℕ) → (a ≡ b → ⊥) → ahead set a b ≡ false → ahead set b a ≡ true
  ahead_total a b ne h =
      by_test (ltb (priority set b) (priority set a))
      (λ e. ahead_is b a (inl (ltb-true (priority set b) (priority set a) e)))
      (λ e. by_test (eqb (priority set a) (priority set b))
      (λ t. by_test (ltb b a)
      (λ u. ahead_is b a (inr (sym (eqb-true (priority set a) (priority set b) t), ltb-true b a u)))
      (λ u. clash (ahead_is a b (inr (eqb-true (priority set a) (priority set b) t, omega (arith, ltb-false b a u, ne)))) h))
      (λ t. clash (ahead_is a b (inl (omega (arith, ltb-false (priority set b) (priority set a) e, eqb-false (priority set a) (priority set b) t)))) h))

-- ---- candidates

module _ (set : Settings) (inputs : Inputs) where
  pub available_is : (c : ℕ) → available set inputs c ≡ true → (is_input c ≡ true) × (usable set c ≡ true) × (qualified (input inputs c) ≡ true)
  unfolding available
  available_is c e =
      (and_left (is_input c) (usable set c) both, and_right (is_input c) (usable set c) both, and_right (is_input c && usable set c) (qualified (input inputs c)) e)
    where
      both : (is_input c && usable set c) ≡ true
      both = and_left (is_input c && usable set c) (qualified (input inputs c)) e

  -- a candidate is Free Run, enabled, or an available reference
  pub candidate_is : {P : Type 0} (c : ℕ) → candidate set inputs c ≡ true → (c ≡ 9 → usable set c ≡ true → P) → (available set inputs c ≡ true → P) → P
  unfolding candidate
  candidate_is c e f g = by_test (eqb c 9) (λ t. f (eqb-true c 9 t) (rw t at e)) (λ t. g (rw t at e))

  pub candidate_usable : (c : ℕ) → candidate set inputs c ≡ true → usable set c ≡ true
  candidate_usable c e = candidate_is c e (λ z u. u) (λ a. (available_is c a).1)

  pub candidate_number : (c : ℕ) → candidate set inputs c ≡ true → (1 ≤ c) × (c ≤ 9)
  candidate_number c e =
      candidate_is c e (λ z u. (omega arith, omega arith)) (λ a. (low 1 8 c (available_is c a).0, omega (arith, high 1 8 c (available_is c a).0)))

  -- ---- the best

  -- the same among 1 to k
  abbrev BestBelow : ℕ → ℕ → Type 0
  BestBelow k b =
      ((b ≡ 0) × ((c : ℕ) → c ≤ k → candidate set inputs c ≡ false))
      ⊎ ((candidate set inputs b ≡ true) × ((c : ℕ) → c ≤ k → candidate set inputs c ≡ true → (c ≡ b) ⊎ (ahead set b c ≡ true)))

  none_at_0 : candidate set inputs 0 ≡ false
  none_at_0 = by_test (candidate set inputs 0) (λ e. absurd (no (candidate_number 0 e).0)) (λ e. e)
    where
      no : 1 ≤ 0 → ⊥
      no h = omega arith

  -- c is at most k, or k + 1 itself
  split : {P : Type 0} (k c : ℕ) → c ≤ suc k → (c ≤ k → P) → (c ≡ suc k → P) → P
  split k c h f g = by_test (leb c k) (λ e. f (leb-true c k e)) (λ e. g (omega (arith, leb-false c k e)))

  module _ (k b : ℕ) (below : BestBelow k b) where
    takes : candidate set inputs (suc k) ≡ true → (eqb b 0 || ahead set (suc k) b) ≡ true → BestBelow (suc k) (suc k)
    takes cand t = inr (cand, λ c h e. split k c h (λ l. inr (first below (or_cases (eqb b 0) (ahead set (suc k) b) t) c l e)) (λ z. inl z))
      where
        first : BestBelow k b → (eqb b 0 ≡ true) ⊎ (ahead set (suc k) b ≡ true) → (c : ℕ) → c ≤ k → candidate set inputs c ≡ true → ahead set (suc k) c ≡ true
        first (inl n) u c l e = clash e (n.1 c l)
        first (inr w) (inl z) c l e = clash w.0 (ap (candidate set inputs) (eqb-true b 0 z) ∙ none_at_0)
        first (inr w) (inr z) c l e = next (w.1 c l e)
          where
            next : (c ≡ b) ⊎ (ahead set b c ≡ true) → ahead set (suc k) c ≡ true
            next (inl q) = ap (ahead set (suc k)) q ∙ z
            next (inr q) = ahead_trans set (suc k) b c z q

    stays : (candidate set inputs (suc k) ≡ false) ⊎ ((eqb b 0 || ahead set (suc k) b) ≡ false) → BestBelow (suc k) b
    stays (inl n) = keep below
      where
        keep : BestBelow k b → BestBelow (suc k) b
        keep (inl m) = inl (m.0, λ c h. split k c h (m.1 c) (λ z. ap (candidate set inputs) z ∙ n))
        keep (inr w) = inr (w.0, λ c h e. split k c h (λ l. w.1 c l e) (λ z. clash (sym (ap (candidate set inputs) z) ∙ e) n))
    stays (inr n) = keep below
      where
        not_0 : (b ≡ 0) → ⊥
        not_0 z = clash {b = eqb b 0 || ahead set (suc k) b} (rw (eq-eqb b 0 z) refl) n

        behind : ahead set (suc k) b ≡ false
        behind = by_test (ahead set (suc k) b) (λ e. clash {b = eqb b 0 || ahead set (suc k) b} (rw e (or_true (eqb b 0))) n) (λ e. e)

        keep : BestBelow k b → BestBelow (suc k) b
        keep (inl m) = absurd (not_0 m.0)
        keep (inr w) = inr (w.0, λ c h e. split k c h (λ l. w.1 c l e) last)
          where
            last : {c : ℕ} → c ≡ suc k → (c ≡ b) ⊎ (ahead set b c ≡ true)
            last z =
                by_test (eqb (suc k) b) (λ q. inl (z ∙ eqb-true (suc k) b q))
                (λ q. inr (ap (ahead set b) z ∙ ahead_total set (suc k) b (eqb-false (suc k) b q) behind))

  best_below : (k : ℕ) → BestBelow k (best_up_to set inputs k)
  unfolding best_up_to
  best_below zero = inl (refl, λ c h. ap (candidate set inputs) (omega arith) ∙ none_at_0)
  best_below (suc k) =
      if_case (BestBelow (suc k)) (candidate set inputs (suc k) && t)
      (λ e. takes k b (best_below k) (and_left (candidate set inputs (suc k)) t e) (and_right (candidate set inputs (suc k)) t e))
      (λ e. stays k b (best_below k) (and_cases (candidate set inputs (suc k)) t e))
    where
      b : ℕ
      b = best_up_to set inputs k

      t : Bool
      t = eqb b 0 || ahead set (suc k) b

      and_cases : (x y : Bool) → (x && y) ≡ false → (x ≡ false) ⊎ (y ≡ false)
      and_cases true y e = inr e
      and_cases false y e = inl refl

  -- there is no candidate past 9
  best_among : (k b : ℕ) → 9 ≤ k → BestBelow k b → BestOf set inputs b
  best_among k b h (inl n) = inl (n.0, λ c. by_test (candidate set inputs c) (λ e. clash e (n.1 c (omega (arith, (candidate_number c e).1)))) (λ e. e))
  best_among k b h (inr w) = inr (w.0, λ c e. w.1 c (omega (arith, (candidate_number c e).1)) e)

  pub best_of : BestOf set inputs (best set inputs)
  unfolding best
  best_of = best_among _ _ (omega arith) (best_below _)

  -- a candidate that is ahead of every other is the best
  pub best_is : (r : ℕ) → candidate set inputs r ≡ true → ((c : ℕ) → candidate set inputs c ≡ true → (c ≡ r → ⊥) → ahead set r c ≡ true) → best set inputs ≡ r
  best_is r cand first = go best_of
    where
      b : ℕ
      b = best set inputs

      go : BestOf set inputs b → b ≡ r
      go (inl n) = clash cand (n.1 r)
      go (inr w) = by_test (eqb b r) (eqb-true b r) (λ e. same (w.1 r cand) (first b w.0 (eqb-false b r e)))
        where
          same : (r ≡ b) ⊎ (ahead set b r ≡ true) → ahead set r b ≡ true → b ≡ r
          same (inl q) f = sym q
          same (inr q) f = absurd (ahead_asym set b r q f)

pub best_candidate : BestCandidate
best_candidate = best_of
