-- For the promise of service: how far the unit has come after k accepted ticks from the moment, and that each fair event keeps or advances that.
use Rattle.std.specs.Prelude.{if◌then◌else◌}
use Prim.Native.Nat.{ℕ, suc, ◌+◌, ◌-◌, ◌*◌, ◌≤◌, ◌<◌, min}
use mathlib.Core.Path.{◌≡◌, refl, sym, ap, ◌∙◌, subst}
use mathlib.Core.Logic.{◌⊎◌, inl, inr}
use mathlib.Core.Bool.{Bool, true, false, ◌&&◌}
use mathlib.Core.List.{List, [], ◌∷◌}
use native.Mathlib.Omega.{arith}
use lib.Dec.{leb, ltb, eqb}
use lib.IntN.{ℤ, nat_abs, ◌+ℤ◌}
use lib.ListN.{length}
use borrow.Author.Tests.{eqb-true, eqb-false, leb-true, leb-false, ltb-true, ltb-false, eq-eqb, ne_eqb}
use Rattle.rules.specs.Words.{bit_of, is_input, is_tracked, is_counted}
use Rattle.rules.specs.Events.{Event, Tick, tick, measurement, hit, write, set_bucket, assign_bucket, set_week, set_windows, half_ppm, is_tick}
use Rattle.rules.specs.Monitors.{Bucket, Input, monitored, measured, unsoaked, lock_alarmed, qualified}
use Rattle.rules.specs.Pll.{locked, is, mode_number, Loop, lock_ticks, looped, alarm_due}
use Rattle.rules.specs.Settings.{Settings, policy, automatic, reject, qualification, priority, usable, revertive, ahead, reversion, op_mode}
use Rattle.rules.specs.Week.{advanced, longest}
use Rattle.rules.specs.Inputs.{Inputs, input, altered}
use Rattle.rules.specs.Selection.{Choice, available, candidate, settled, wait_limit, reselected, chosen, mode_after, steered}
use Rattle.rules.specs.Buckets.{bucket_of}
use Rattle.rules.specs.History.{History, block_samples, ready_blocks, refilled, saturated, filling, completed, sampled, with_last, noted, recorded}
use Rattle.rules.specs.State.{State, selected, Blocked, Ready}
use Rattle.rules.specs.Tick.{watched, watched_after, loop_after, inputs_after, week_after, steps1to4, step5, ticked}
use Rattle.rules.specs.Refusals.{refusal, accepted}
use Rattle.rules.specs.Run.{after_measurement, after_hit, effect, next, run}
use Rattle.rules.specs.Laws.{SoundBuckets, SoundInputs, Lawful}
use Rattle.rules.specs.Preference.{AheadOfInput, AheadOfFreeRun, Revertive, Preferred}
use Rattle.rules.specs.Service.{Fair, AllFair, qualify_ticks, accepted_ticks}
use Rattle.rules.proofs.Tests.{if_case, by_test, clash, and_false, and_left, and_right, low, high, zero_if}
use Rattle.rules.proofs.EightInputs.{input_each, input_altered_other, input_altered_same}
use Rattle.rules.proofs.OneInput.{Calm, calm_tick, calm_qualified, calm_measured}
use Rattle.rules.proofs.SoundBuckets.{bucket_works}
use Rattle.rules.proofs.Best.{ahead_is, candidate_usable, best_is}
use Rattle.rules.proofs.Chosen.{Waits, reselected_cases, wait_one, wait_more}
use Rattle.rules.proofs.Windows.{blocked_for, blocked_longest, blocked_less}
use Rattle.rules.proofs.Blocks.{joined, joined_length, completed_fills, completed_replaces, completed_ready}
use Rattle.rules.proofs.Invariants.{lawful_next}
use Rattle.rules.proofs.SoundLoop.{choice_after}

-- ---- the settings: r leads, and whatever else is usable is revertive

pub record Leading (r : ℕ) (set : Settings) : Type 0 where
  pub unmasked : usable set r ≡ true
  pub leads : (c : ℕ) → usable set c ≡ true → (c ≡ r → ⊥) → ahead set r c ≡ true
  pub reverts : (c : ℕ) → usable set c ≡ true → (c ≡ r → ⊥) → revertive set c ≡ true

module _ (r : ℕ) (set : Settings) (ref : is_input r ≡ true) (p : Preferred r set) where
  usable_input : (i : ℕ) → (i ≡ 9 → ⊥) → usable set i ≡ (is_input i && bit_of (set 0x42) i)
  unfolding usable
  usable_input i ne = rw (ne_eqb i 9 ne) refl

  -- a usable candidate is Free Run, enabled, or an unmasked input
  other : (c : ℕ) → usable set c ≡ true → (c ≡ r → ⊥) → (ahead set r c ≡ true) × (revertive set c ≡ true)
  unfolding usable
  other c u ne = by_test (eqb c 9) (λ e. free (eqb-true c 9 e)) (λ e. one (eqb-false c 9 e))
    where
      free : c ≡ 9 → (ahead set r c ≡ true) × (revertive set c ≡ true)
      free e = (rw e (ahead_is set r 9 order), rw e q.1)
        where
          q : AheadOfFreeRun set r × Revertive set 9
          q = p.free_run (sym (ap (usable set) e) ∙ u)

          order : AheadOfInput set r 9
          order =
              by_test (ltb (priority set r) (priority set 9)) (λ t. inl (ltb-true (priority set r) (priority set 9) t))
              (λ t. inr (omega (arith, q.0, ltb-false (priority set r) (priority set 9) t), omega (arith, high 1 8 r ref)))

      one : (c ≡ 9 → ⊥) → (ahead set r c ≡ true) × (revertive set c ≡ true)
      one e = (ahead_is set r c q.0, q.1)
        where
          both : (is_input c && bit_of (set 0x42) c) ≡ true
          both = sym (usable_input c e) ∙ u

          rc : is_input c ≡ true
          rc = and_left (is_input c) (bit_of (set 0x42) c) both

          q : AheadOfInput set r c × Revertive set c
          q = p.inputs c (low 1 8 c rc) (high 1 8 c rc) ne (and_right (is_input c) (bit_of (set 0x42) c) both)

  pub leading : Leading r set
  leading =
      record {
        unmasked = rw (usable_input r (λ e. omega (arith, high 1 8 r ref)), ref) p.unmasked;
        leads = λ c u ne. (other c u ne).0;
        reverts = λ c u ne. (other c u ne).1;
      }

-- ---- the history while r is selected

-- j ticks since the selection have brought all but the lock run's first 15 of them as samples to the history that fills, or Ready
abbrev pub Filled : ℕ → History → Type 0
Filled j h = (j ≤ lock_ticks - 1 + (block_samples * length (filling h) + h.open_count)) ⊎ (ready_blocks ≤ length h.kept)

filled_completed : (j : ℕ) (sum : ℤ) (h : History) → h.open_count < block_samples → Filled j h → Filled (suc j) (completed sum h)
filled_completed j sum h few (inr l) = inr (completed_ready sum h l)
filled_completed j sum h few (inl l) =
    by_test (leb ready_blocks (length (joined sum h)))
    (λ e. let full : ready_blocks ≤ length (joined sum h) = leb-true ready_blocks (length (joined sum h)) e in inr (rw (completed_replaces sum h full) full))
    (λ e. inl (omega (arith, joined_length sum h, ap length (completed_fills sum h), leb-false ready_blocks (length (joined sum h)) e)))

filled_sampled : (j : ℕ) (x : ℤ) (h : History) → h.open_count < block_samples → Filled j h → Filled (suc j) (sampled x h)
unfolding sampled filling
filled_sampled j x h few f =
    if_case (Filled (suc j)) (leb block_samples (h.open_count + 1)) (λ e. filled_completed j (saturated (h.open_sum +ℤ x)) h few f) (λ e. part f)
  where
    part : Filled j h → Filled (suc j) (refilled h.kept h.builds h.building (saturated (h.open_sum +ℤ x)) (h.open_count + 1) h)
    part (inl l) = inl (omega arith)
    part (inr l) = inr l

-- the reference selected last is selected still: nothing starts to build
noted_same : (pol r : ℕ) (h : History) → is_counted r ≡ true → h.last ≡ r → noted pol r h ≡ with_last r h
unfolding noted
noted_same pol r h ref e = rw (ref, e, eq-eqb r r refl, and_false (eqb pol 0)) refl

filled_recorded : (j pol r : ℕ) (x : ℤ) (h : History) → is_counted r ≡ true → h.last ≡ r → h.open_count < block_samples → Filled j h
    → Filled (suc j) (recorded pol r true x h)
unfolding recorded with_last filling
filled_recorded j pol r x h ref e few f = rw (noted_same pol r h ref e) (filled_sampled j x (with_last r h) few f)

-- ---- the loop while r is selected

-- j ticks since the selection, all of them reporting lock: towards Locked, then towards Ready
abbrev pub Serving : ℕ → Loop → History → Type 0
Serving j p h = ((j ≤ p.lock_run) × (j ≤ lock_ticks - 1)) ⊎ ((p.lock_run ≡ lock_ticks) × Filled j h)

serving_less : (i j : ℕ) (p : Loop) (h : History) → i ≤ j → Serving j p h → Serving i p h
serving_less i j p h l (inl q) = inl (omega (arith, q.0), omega (arith, q.1))
serving_less i j p h l (inr q) = inr (q.0, less q.1)
  where
    less : Filled j h → Filled i h
    less (inl m) = inl (omega arith)
    less (inr m) = inr m

-- the loop after steps 3 and 4 of a tick that reports lock, where r was and stays selected
module _ (set : Settings) (rd : Bool) (r : ℕ) (p : Loop) (ref : is_tracked r ≡ true) where
  loop_same : (before after : ℕ) (lock : Bool) → before ≡ r → after ≡ r → lock ≡ true
      → steered (automatic set) (op_mode set) rd before after (if is_tracked before then looped lock p else p) ≡ steered (automatic set) (op_mode set) rd r r (looped true p)
  loop_same before after lock b a l = rw (b, a, l, ref) refl

  loop_run : (steered (automatic set) (op_mode set) rd r r (looped true p)).lock_run ≡ min lock_ticks (p.lock_run + 1)
  unfolding steered looped
  loop_run = rw (eq-eqb r r refl) refl

  loop_mode : automatic set ≡ true → lock_ticks - 1 ≤ p.lock_run → (steered (automatic set) (op_mode set) rd r r (looped true p)).mode ≡ locked
  unfolding steered looped mode_after
  loop_mode auto l =
      rw (auto, ne_eqb r 9 (λ z. omega (arith, high 1 8 r ref)), ne_eqb r 0 (λ z. omega (arith, low 1 8 r ref)), eq-eqb r r refl, eq-eqb (min lock_ticks (p.lock_run + 1)) lock_ticks (omega arith)) refl

  serving_tick : (j pol : ℕ) (x : ℤ) (h : History) → automatic set ≡ true → h.last ≡ r → h.open_count < block_samples → Serving j p h
      → (q : Loop) → q ≡ steered (automatic set) (op_mode set) rd r r (looped true p) → Serving (suc j) q (recorded pol r (is locked q.mode) x h)
  unfolding mode_number
  serving_tick j pol x h auto last few s q e = go s
    where
      run_is : q.lock_run ≡ min lock_ticks (p.lock_run + 1)
      run_is = ap (λ (z : Loop). z.lock_run) e ∙ loop_run

      fill : lock_ticks - 1 ≤ p.lock_run → Filled j h → Serving (suc j) q (recorded pol r (is locked q.mode) x h)
      fill l f = inr (omega (arith, run_is), rw (ap (λ (z : Loop). z.mode) e ∙ loop_mode auto l) (filled_recorded j pol r x h ref last few f))

      go : Serving j p h → Serving (suc j) q (recorded pol r (is locked q.mode) x h)
      go (inr w) = fill (omega (arith, w.0)) w.1
      go (inl w) =
          by_test (leb (lock_ticks - 1) p.lock_run) (λ t. fill (leb-true (lock_ticks - 1) p.lock_run t) (inl (omega (arith, w.1))))
          (λ t. inl (omega (arith, run_is, w.0, leb-false (lock_ticks - 1) p.lock_run t), omega (arith, w.0, leb-false (lock_ticks - 1) p.lock_run t)))

-- ---- how far the unit is, k accepted ticks after the moment; q is the tick by which r is qualified, n the reversion delay, and m the longest window

-- there is time to wait still, or a window blocks the switch: so many ticks are left of it, and they are over by tick q + n + m
abbrev pub InTime : ℕ → ℕ → ℕ → ℕ → ℕ → Type 0
InTime q n m left k = (k < q + n) ⊎ (left + suc k ≤ q + n + m)

pub data Phase (q n m left r k : ℕ) (c : Choice) (p : Loop) (h : History) : Type 0 where
  -- r need not be qualified yet
  early : k < q → Phase q n m left r k c p h
  -- r is available; nothing is selected (a Hit), or another is and has waited for r since tick q, for n + 1 ticks at least if it could
  waits : q ≤ k → InTime q n m left k → (c.selected ≡ 0) ⊎ ((min k (q + n) < c.wait + q) × (c.awaited ≡ r)) → Phase q n m left r k c p h
  -- r is selected
  serves : q ≤ k → c.selected ≡ r → Serving (k - (q + n + m)) p h → Phase q n m left r k c p h

-- the ticks that are left of the window that the next tick lies in
abbrev pub left_of : State → ℕ
left_of s = blocked_for s.week.windows s.week.place

abbrev pub phase_of : ℕ → ℕ → ℕ → State → Type 0
phase_of n r k s = Phase (qualify_ticks (bucket_of s.buckets r)) n (longest s.week.windows) (left_of s) r k s.choice s.loop s.history

-- b is r's bucket at the moment, and m the longest window
pub record Going (b : Bucket) (m n r k : ℕ) (s : State) : Type 0 where
  pub auto : automatic s.settings ≡ true
  pub prefer : Leading r s.settings
  pub wait_is : reversion s.settings ≡ n
  pub lawful : Lawful s
  pub bucket_is : bucket_of s.buckets r ≡ b
  pub longest_is : longest s.week.windows ≡ m
  pub calm : Calm (bucket_of s.buckets r) k (input s.inputs r)
  pub phase : phase_of n r k s

-- r's availability makes it the best, and the choice is made at r
module _ (set : Settings) (inputs : Inputs) (r : ℕ) (ref : is_input r ≡ true) (auto : automatic set ≡ true) (prefer : Leading r set) (qual : qualified (input inputs r) ≡ true) where
  r_candidate : candidate set inputs r ≡ true
  unfolding candidate available
  r_candidate = rw (ne_eqb r 9 (λ z. omega (arith, high 1 8 r ref)), ref, prefer.unmasked, qual) refl

  chosen_is : (blocked : Bool) (c : Choice) → chosen blocked set inputs c ≡ reselected blocked set inputs r c
  unfolding chosen
  chosen_is blocked c = rw (auto, best_is set inputs r r_candidate (λ x e ne. prefer.leads x (candidate_usable set inputs x e) ne)) refl

  pub chosen_cases : (blocked : Bool) (c : Choice) → ((chosen blocked set inputs c).selected ≡ r) ⊎ Waits blocked (reversion set) r c (chosen blocked set inputs c)
  chosen_cases blocked c = rw (chosen_is blocked c) (reselected_cases blocked set inputs r c (λ x e ne. prefer.reverts x (candidate_usable set inputs x e) ne))

-- ---- a tick

-- r's record after steps 1 to 3: a tick that reports lock sets no alarm on the selected reference
no_alarm : (lock : Bool) (s : State) → is_tracked (selected s) ≡ true → lock ≡ true → alarm_due (loop_after lock s) ≡ false
unfolding loop_after looped alarm_due
no_alarm lock s t e = rw (t, e) refl

calm_inputs : (k mask r : ℕ) (lock : Bool) (s : State) → is_input r ≡ true → SoundBuckets s.buckets → SoundInputs s.buckets s.inputs → Calm (bucket_of s.buckets r) k (input s.inputs r)
    → bit_of mask r ≡ false → (selected s ≡ r → lock ≡ true) → Calm (bucket_of s.buckets r) (suc k) (input (inputs_after mask lock s) r)
unfolding inputs_after watched_after watched
calm_inputs k mask r lock s ref sets w c reg locks =
    if_case (λ (l : Inputs). Calm (bucket_of s.buckets r) (suc k) (input l r)) (is_tracked (selected s) && alarm_due (loop_after lock s)) alarm (λ t. now)
  where
    now : Calm (bucket_of s.buckets r) (suc k) (input (watched_after mask s) r)
    now =
        rw (input_each (λ i. monitored (bucket_of s.buckets i) (bit_of mask i)) r s.inputs (low 1 8 r ref) (omega (arith, w.eight, high 1 8 r ref)), reg)
        (calm_tick (bucket_of s.buckets r) (bucket_works s.buckets sets r ref) k (input s.inputs r) (w.each r ref) c)

    alarm : (is_tracked (selected s) && alarm_due (loop_after lock s)) ≡ true → Calm (bucket_of s.buckets r) (suc k) (input (altered lock_alarmed (selected s) (watched_after mask s)) r)
    alarm t =
        rw (input_altered_other lock_alarmed (selected s) r (watched_after mask s) (low 1 8 (selected s) tracked) (low 1 8 r ref)
        (λ e. clash (and_right (is_tracked (selected s)) (alarm_due (loop_after lock s)) t) (no_alarm lock s tracked (locks e)))) now
      where
        tracked : is_tracked (selected s) ≡ true
        tracked = and_left (is_tracked (selected s)) (alarm_due (loop_after lock s)) t

-- the phase after a tick, by the choice that it makes; `left` ticks are left of the window before it, and `left'` after it
module _ (q n m left left' r k : ℕ) (blocked : Bool) (c d : Choice) (p : Loop) (h : History)
    (short : c.wait < wait_limit) (few : left ≤ m) (fewer : blocked ≡ true → left' < left) where
  -- r is not selected yet: there is time still, or the tick was blocked
  in_time : Waits blocked n r c d → q ≤ suc k → InTime q n m left k → min (suc k) (q + n) < d.wait + q → InTime q n m left' (suc k)
  in_time w lo u waited =
      by_test blocked (λ e. by_test (leb (q + n) (suc k)) (λ z. inr (late e (leb-true (q + n) (suc k) z) u)) (λ z. inl (leb-false (q + n) (suc k) z)))
      (λ e. inl (omega (arith, waited, w.counts, w.within e)))
    where
      late : blocked ≡ true → q + n ≤ suc k → InTime q n m left k → left' + suc (suc k) ≤ q + n + m
      late e z (inl y) = omega (arith, fewer e)
      late e z (inr y) = omega (arith, fewer e)

  phase_first : suc k ≡ q → (d.selected ≡ r) ⊎ Waits blocked n r c d → Phase q n m left' r (suc k) d p h
  phase_first e (inl t) = serves (omega arith) t (inl (omega arith, omega arith))
  phase_first e (inr w) = waits (omega arith) (in_time w (omega arith) (inl (omega arith)) one) (inr (one, w.for))
    where
      one : min (suc k) (q + n) < d.wait + q
      one = omega (arith, w.counts, wait_one blocked n r c)

  phase_waits : q ≤ k → InTime q n m left k → (c.selected ≡ 0) ⊎ ((min k (q + n) < c.wait + q) × (c.awaited ≡ r)) → (d.selected ≡ r) ⊎ Waits blocked n r c d
      → Phase q n m left' r (suc k) d p h
  phase_waits lo hi u (inl t) = serves (omega arith) t (inl (now hi))
    where
      now : InTime q n m left k → (suc k - (q + n + m) ≤ p.lock_run) × (suc k - (q + n + m) ≤ lock_ticks - 1)
      now (inl y) = (omega arith, omega arith)
      now (inr y) = (omega arith, omega arith)
  phase_waits lo hi (inl z) (inr w) = absurd (w.some z)
  phase_waits lo hi (inr z) (inr w) = waits (omega arith) (in_time w (omega arith) hi more) (inr (more, w.for))
    where
      more : min (suc k) (q + n) < d.wait + q
      more = omega (arith, z.0, w.counts, wait_more blocked n r c short z.1)

going_tick : (b : Bucket) (m n r k : ℕ) (t : Tick) (s : State) → is_input r ≡ true → Going b m n r k s → Lawful (ticked t s)
    → bit_of t.mask r ≡ false → (selected s ≡ r → t.lock ≡ true) → Going b m n r (suc k) (ticked t s)
unfolding ticked step5 steps1to4 week_after loop_after
going_tick b m n r k t s ref g after reg locks =
    record {
      auto = g.auto;
      prefer = g.prefer;
      wait_is = g.wait_is;
      lawful = after;
      bucket_is = g.bucket_is;
      longest_is = g.longest_is;
      calm = calm_after;
      phase = go g.phase;
    }
  where
    Q : ℕ
    Q = qualify_ticks (bucket_of s.buckets r)

    M : ℕ
    M = longest s.week.windows

    left' : ℕ
    left' = blocked_for s.week.windows (advanced s.week.place)

    few : left_of s ≤ M
    few = blocked_longest s.week.windows s.week.place

    fewer : Blocked s ≡ true → left' < left_of s
    fewer = blocked_less s.week.windows g.lawful.week.fit s.week.place

    I : Inputs
    I = inputs_after t.mask t.lock s

    D : Choice
    D = choice_after t.mask t.lock s

    L : Loop
    L = (ticked t s).loop

    H : History
    H = (ticked t s).history

    calm_after : Calm (bucket_of s.buckets r) (suc k) (input I r)
    calm_after = calm_inputs k t.mask r t.lock s ref g.lawful.buckets g.lawful.inputs g.calm reg locks

    choice_made : Q ≤ suc k → (D.selected ≡ r) ⊎ Waits (Blocked s) n r s.choice D
    choice_made h =
        subst (λ z. (D.selected ≡ r) ⊎ Waits (Blocked s) z r s.choice D) g.wait_is
        (chosen_cases s.settings I r ref g.auto g.prefer (calm_qualified (bucket_of s.buckets r) (bucket_works s.buckets g.lawful.buckets r ref) (suc k) (input I r) (after.inputs.each r ref) calm_after h) (Blocked s) s.choice)

    -- r was selected, and stays so
    serve : Q ≤ k → selected s ≡ r → Serving (k - (Q + n + M)) s.loop s.history → (D.selected ≡ r) ⊎ Waits (Blocked s) n r s.choice D
        → Phase Q n M left' r (suc k) D L H
    serve lo e sv (inr w) = absurd (w.other e)
    serve lo e sv (inl stays) =
        serves (omega arith) stays
        (serving_less (suc k - (Q + n + M)) (suc (k - (Q + n + M))) L H (omega arith)
        (subst (λ z. Serving (suc (k - (Q + n + M))) L (recorded (policy s.settings) z (is locked L.mode) t.sample s.history)) (sym stays)
        (serving_tick s.settings (Ready s) r s.loop ref (k - (Q + n + M)) (policy s.settings) t.sample s.history g.auto
        (g.lawful.last (ap is_tracked e ∙ ref) ∙ e) g.lawful.history.open_lt sv L here)))
      where
        here : L ≡ steered (automatic s.settings) (op_mode s.settings) (Ready s) r r (looped true s.loop)
        here = loop_same s.settings (Ready s) r s.loop ref (selected s) D.selected t.lock e stays (locks e)

    go : phase_of n r k s → Phase Q n M left' r (suc k) D L H
    go (early h) =
        by_test (leb Q (suc k))
        (λ e. phase_first Q n M (left_of s) left' r k (Blocked s) s.choice D L H g.lawful.loop.wait_lt few fewer (omega (arith, leb-true Q (suc k) e))
        (choice_made (leb-true Q (suc k) e)))
        (λ e. early (leb-false Q (suc k) e))
    go (waits lo hi u) =
        phase_waits Q n M (left_of s) left' r k (Blocked s) s.choice D L H g.lawful.loop.wait_lt few fewer lo hi u (choice_made (omega arith))
    go (serves lo e sv) = serve lo e sv (choice_made (omega arith))

-- ---- the other events

going_measurement : (b : Bucket) (m n r k i : ℕ) (x : ℤ) (s : State) → is_input r ≡ true → is_input i ≡ true → Going b m n r k s → Lawful (after_measurement i x s)
    → (i ≡ r → nat_abs x ≤ half_ppm * qualification s.settings) → Going b m n r k (after_measurement i x s)
unfolding after_measurement
going_measurement b m n r k i x s ref ri g after small =
    record { auto = g.auto; prefer = g.prefer; wait_is = g.wait_is; lawful = after; bucket_is = g.bucket_is; longest_is = g.longest_is; calm = by_test (eqb i r) same other_input; phase = g.phase }
  where
    f : Input → Input
    f = measured (half_ppm * reject s.settings) (half_ppm * qualification s.settings) x

    same : eqb i r ≡ true → Calm (bucket_of s.buckets r) k (input (altered f i s.inputs) r)
    same e =
        rw (eqb-true i r e, input_altered_same f r s.inputs (low 1 8 r ref) (omega (arith, g.lawful.inputs.eight, high 1 8 r ref)))
        (calm_measured (bucket_of s.buckets r) (bucket_works s.buckets g.lawful.buckets r ref) k (half_ppm * reject s.settings) (half_ppm * qualification s.settings) x
        (input s.inputs r) (omega (arith, g.lawful.settings.apart)) (small (eqb-true i r e)) g.calm)

    other_input : eqb i r ≡ false → Calm (bucket_of s.buckets r) k (input (altered f i s.inputs) r)
    other_input e = rw (input_altered_other f i r s.inputs (low 1 8 i ri) (low 1 8 r ref) (eqb-false i r e)) g.calm

going_hit : (b : Bucket) (m n r k : ℕ) (s : State) → is_input r ≡ true → is_tracked (selected s) ≡ true → Going b m n r k s → Lawful (after_hit s)
    → (selected s ≡ r → ⊥) → Going b m n r k (after_hit s)
unfolding after_hit settled
going_hit b m n r k s ref rs g after ne =
    record {
      auto = g.auto;
      prefer = g.prefer;
      wait_is = g.wait_is;
      lawful = after;
      bucket_is = g.bucket_is;
      longest_is = g.longest_is;
      calm = rw (input_altered_other unsoaked (selected s) r s.inputs (low 1 8 (selected s) rs) (low 1 8 r ref) ne) g.calm;
      phase = go g.phase;
    }
  where
    go : phase_of n r k s → phase_of n r k (after_hit s)
    go (early h) = early h
    go (waits lo hi u) = waits lo hi (inl refl)
    go (serves lo e sv) = absurd (ne e)

-- ---- a fair event, and a list of them

module _ (b : Bucket) (m n r : ℕ) (ref : is_input r ≡ true) where
  still : (k : ℕ) (s : State) → Going b m n r k s → Going b m n r (0 + k) s
  still k s g = subst (λ (j : ℕ). Going b m n r j s) (omega arith) g

  -- an event that is no tick, accepted or not
  other_event : (k : ℕ) (y : Bool) (s t : State) → (y ≡ true → Lawful t → Going b m n r k t) → Going b m n r k s
      → Lawful (if y then t else s) → Going b m n r (0 + k) (if y then t else s)
  other_event k true s t f g after = still k t (f refl after)
  other_event k false s t f g after = still k s g

  going_next : (k : ℕ) (s : State) (e : Event) → Fair r s e → Going b m n r k s → Lawful (next s e)
      → Going b m n r ((if is_tick e && accepted s e then 1 else 0) + k) (next s e)
  unfolding next effect refusal
  going_next k s (tick t) fair g = go (accepted s (tick t)) refl
    where
      go : (y : Bool) → accepted s (tick t) ≡ y → Lawful (if y then ticked t s else s)
          → Going b m n r ((if y then 1 else 0) + k) (if y then ticked t s else s)
      go true e after =
          subst (λ (j : ℕ). Going b m n r j (ticked t s)) (omega arith) (going_tick b m n r k t s ref g after (fair e).0 (fair e).1)
      go false e after = still k s g
  going_next k s (measurement i x) fair g =
      other_event k (accepted s (measurement i x)) s (after_measurement i x s)
      (λ e after. going_measurement b m n r k i x s ref (zero_if (is_input i) 5 e) g after fair) g
  going_next k s hit fair g =
      other_event k (accepted s hit) s (after_hit s) (λ e after. going_hit b m n r k s ref (zero_if (is_tracked (selected s)) 4 e) g after fair) g
  going_next k s (write a v) fair g = λ after. rw fair (still k s g)
  going_next k s (set_bucket j size set_level clear_level d) fair g = λ after. rw fair (still k s g)
  going_next k s (assign_bucket i j) fair g = λ after. rw fair (still k s g)
  going_next k s (set_week place) fair g = λ after. rw fair (still k s g)
  going_next k s (set_windows windows) fair g = λ after. rw fair (still k s g)

  pub going_run : (es : List Event) (k : ℕ) (s : State) → AllFair r s es → Going b m n r k s → Going b m n r (accepted_ticks s es + k) (run s es)
  unfolding run accepted_ticks
  going_run [] k s fair g = still k s g
  going_run (e ∷ es) k s fair g =
      subst (λ (j : ℕ). Going b m n r j (run (next s e) es)) (omega arith)
      (going_run es ((if is_tick e && accepted s e then 1 else 0) + k) (next s e) fair.1 (going_next k s e fair.0 g (lawful_next s e g.lawful)))
