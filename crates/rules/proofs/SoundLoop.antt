-- The choice and the loop stay sound over a tick.
use Prim.Native.Nat.{ℕ, ◌+◌, ◌≤◌, ◌<◌, min}
use mathlib.Core.Path.{◌≡◌, refl, sym, ap, ◌∙◌}
use mathlib.Core.Logic.{◌⊎◌, inl, inr}
use mathlib.Core.Bool.{Bool, true, false, not, ◌&&◌, ◌||◌, false≢true}
use native.Mathlib.Omega.{arith}
use lib.Dec.{eqb}
use borrow.Author.Tests.{eqb-true, eqb-false, eq-eqb, ne_eqb}
use Rattle.rules.specs.Words.{is_tracked}
use Rattle.rules.specs.Monitors.{qualified, lock_alarmed}
use Rattle.rules.specs.Pll.{Mode, free_run, locked, mode_number, is, unlocked, Loop, lock_ticks, unlock_ticks, looped, alarm_due}
use Rattle.rules.specs.Settings.{Settings, automatic, op_mode, delay_ticks, reversion}
use Rattle.rules.specs.Inputs.{Inputs, input}
use Rattle.rules.specs.Selection.{Choice, candidate, best, settled, wait_limit, wait_after, chosen, unselected_mode, mode_after, steered}
use Rattle.rules.specs.State.{State, selected, Blocked, Ready}
use Rattle.rules.specs.Tick.{watched_after, loop_after, inputs_after}
use Rattle.rules.specs.Registers.{slot, registers, register, largest}
use Rattle.rules.specs.Run.{next}
use Rattle.rules.specs.Laws.{SoundBuckets, Selectable, SoundInputs, SoundSettings, SoundLoop, Lawful}
use Rattle.rules.proofs.Tests.{if_case, by_test, clash, or_true, low, high, is_between}
use Rattle.rules.proofs.EightInputs.{input_altered_same}
use Rattle.rules.proofs.Best.{candidate_number}
use Rattle.rules.proofs.Chosen.{waiting, goes, chosen_case, settles_selectable, chosen_selectable, manual_none, selectable_le, wait_one, wait_bound}
use Rattle.rules.proofs.SoundInputs.{sound_watched}

-- ---- the choice

delay_bound : (m : ℕ) → m ≤ 255 → delay_ticks m + 1 < wait_limit
unfolding delay_ticks
delay_bound m h = omega arith

-- the delay is a byte
delay_byte : (set : Settings) → SoundSettings set → set 0x43 ≤ 255
unfolding largest register registers slot
delay_byte set w = w.largest_le 0x43

pub record SoundChoice (c : Choice) : Type 0 where
  pub selected_le : c.selected ≤ 9
  pub wait_lt : c.wait < wait_limit
  pub unselected : c.selected ≡ 0 → c.wait ≡ 0
  pub unwaited : c.wait ≡ 0 → c.awaited ≡ 0

sound_settled : (x : ℕ) → x ≤ 9 → SoundChoice (settled x)
unfolding settled
sound_settled x h = record { selected_le = h; wait_lt = omega arith; unselected = λ e. refl; unwaited = λ e. refl }

pub sound_chosen : (blocked : Bool) (set : Settings) (inputs : Inputs) (c : Choice) → SoundSettings set → c.selected ≤ 9 → c.wait < wait_limit
    → SoundChoice (chosen blocked set inputs c)
sound_chosen blocked set inputs c w h l =
    chosen_case blocked set inputs c SoundChoice (λ x s. sound_settled x (selectable_le inputs x (settles_selectable blocked set inputs x s))) (λ a e n. wait e n)
  where
    b : ℕ
    b = best set inputs

    some : 1 ≤ c.selected → c.selected ≡ 0 → ⊥
    some l z = omega arith

    rising : wait_after blocked (reversion set) b c ≡ 0 → ⊥
    rising z = omega (arith, wait_one blocked (reversion set) b c)

    wait : candidate set inputs c.selected ≡ true → goes blocked (reversion set) b c ≡ false → SoundChoice (waiting blocked (reversion set) b c)
    wait e n =
        record {
          selected_le = h;
          wait_lt = wait_bound blocked (reversion set) b c (delay_bound (set 0x43) (delay_byte set w)) l n;
          unselected = λ z. absurd (some (candidate_number set inputs c.selected e).0 z);
          unwaited = λ z. absurd (rising z);
        }

-- ---- the loop

looped_lock : (lock : Bool) (p : Loop) → (looped lock p).lock_run ≤ lock_ticks
unfolding looped
looped_lock lock p = if_case (λ (q : Loop). q.lock_run ≤ lock_ticks) lock (λ e. omega arith) (λ e. omega arith)

looped_unlock : (lock : Bool) (p : Loop) → (looped lock p).unlock_run ≤ unlock_ticks
unfolding looped
looped_unlock lock p = if_case (λ (q : Loop). q.unlock_run ≤ unlock_ticks) lock (λ e. omega arith) (λ e. omega arith)

-- the PLL leaves a tracking state in one
looped_tracking : (lock : Bool) (p : Loop) → 2 ≤ mode_number p.mode → 2 ≤ mode_number (looped lock p).mode
unfolding looped unlocked mode_number
looped_tracking lock p h =
    if_case (λ (q : Loop). 2 ≤ mode_number q.mode) lock
    (λ e. if_case (λ (m : Mode). 2 ≤ mode_number m) (eqb (min lock_ticks (p.lock_run + 1)) lock_ticks) (λ t. omega arith) (λ t. h))
    (λ e. if_case (λ (m : Mode). 2 ≤ mode_number m) (is locked p.mode) (λ t. omega arith) (λ t. h))

-- an unlock run of 782 takes the selected reference out of the choice
alarm_unqualified : (mask : ℕ) (lock : Bool) (s : State) → SoundBuckets s.buckets → SoundInputs s.buckets s.inputs → is_tracked (selected s) ≡ true → alarm_due (loop_after lock s) ≡ true
    → qualified (input (inputs_after mask lock s) (selected s)) ≡ false
unfolding inputs_after watched_after qualified lock_alarmed
alarm_unqualified mask lock s sets w r a =
    rw (
      r,
      a,
      input_altered_same lock_alarmed (selected s) (watched_after mask s) (low 1 8 (selected s) r)
          (omega (arith, (sound_watched s.buckets sets mask s.inputs w).eight, high 1 8 (selected s) r)),
    ) refl

not_selectable : (inputs : Inputs) (r : ℕ) → is_tracked r ≡ true → qualified (input inputs r) ≡ false → Selectable inputs r → ⊥
not_selectable inputs r t q (inl (inl z)) = omega (arith, low 1 8 r t)
not_selectable inputs r t q (inl (inr z)) = omega (arith, high 1 8 r t)
not_selectable inputs r t q (inr w) = clash w.1 q

-- the state after a choice: a newly selected or kept reference has a tracking state, and nothing else has
mode_tracking : (control : Bool) (op : ℕ) (rd : Bool) (before next : ℕ) (m : Mode) → is_tracked next ≡ true → (not control && eqb op 0) ≡ false
    → (before ≡ next → 2 ≤ mode_number m) → 2 ≤ mode_number (mode_after control op rd before next m)
unfolding mode_after mode_number
mode_tracking control op rd before next m t off kept =
    rw (off, ne_eqb next 9 (λ z. omega (arith, high 1 8 next t)), ne_eqb next 0 (λ z. omega (arith, low 1 8 next t)))
    (if_case (λ (x : Mode). 2 ≤ mode_number x) (eqb next before) (λ e. kept (sym (eqb-true next before e)))
    (λ e. if_case (λ (x : Mode). 2 ≤ mode_number x) (is free_run m) (λ u. omega arith) (λ u. omega arith)))

mode_resting : (control : Bool) (op : ℕ) (rd : Bool) (before next : ℕ) (m : Mode) → (next ≡ 0) ⊎ (next ≡ 9) → mode_number (mode_after control op rd before next m) ≤ 1
unfolding mode_after unselected_mode mode_number
mode_resting control op rd before next m (inl z) =
    if_case (λ (x : Mode). mode_number x ≤ 1) ((not control && eqb op 0) || eqb next 9) (λ e. omega arith)
    (λ e. rw (eq-eqb next 0 z) (if_case (λ (x : Mode). mode_number x ≤ 1) rd (λ r. omega arith) (λ r. omega arith)))
mode_resting control op rd before next m (inr z) = rw (eq-eqb next 9 z, or_true (not control && eqb op 0)) (omega arith)

-- a selected number that is no reference is 0 or 9
untracked : (c : ℕ) → c ≤ 9 → is_tracked c ≡ false → (c ≡ 0) ⊎ (c ≡ 9)
untracked c h t =
    by_test (eqb c 0) (λ e. inl (eqb-true c 0 e))
    (λ e. by_test (eqb c 9) (λ u. inr (eqb-true c 9 u))
    (λ u. clash (is_between 1 8 c (omega (arith, eqb-false c 0 e)) (omega (arith, eqb-false c 9 u))) t))

-- the choice of a tick
abbrev pub choice_after : ℕ → Bool → State → Choice
choice_after mask lock s = chosen (Blocked s) s.settings (inputs_after mask lock s) s.choice

module _ (mask : ℕ) (lock : Bool) (s : State) (w : Lawful s) where
  selectable : Selectable (inputs_after mask lock s) (choice_after mask lock s).selected
  selectable = chosen_selectable (Blocked s) s.settings (inputs_after mask lock s) s.choice

  run_lock : (loop_after lock s).lock_run ≤ lock_ticks
  unfolding loop_after
  run_lock = if_case (λ (q : Loop). q.lock_run ≤ lock_ticks) (is_tracked (selected s)) (λ e. looped_lock lock s.loop) (λ e. w.loop.lock_le)

  -- the unlock run is below 782, unless its alarm takes the selection elsewhere
  run_unlock : (choice_after mask lock s).selected ≡ selected s → (loop_after lock s).unlock_run < unlock_ticks
  unfolding loop_after alarm_due
  run_unlock same = by_test (is_tracked (selected s)) tracked (λ e. rw e w.loop.unlock_lt)
    where
      tracked : is_tracked (selected s) ≡ true → (loop_after lock s).unlock_run < unlock_ticks
      tracked e =
          by_test (alarm_due (loop_after lock s))
          (λ a. absurd (not_selectable (inputs_after mask lock s) (selected s) e (alarm_unqualified mask lock s w.buckets w.inputs e a) (rw same at selectable)))
          (λ a. rw e (omega (arith, looped_unlock lock s.loop, eqb-false (looped lock s.loop).unlock_run unlock_ticks (rw e at a))))

  tracking_before : is_tracked (selected s) ≡ true → 2 ≤ mode_number (loop_after lock s).mode
  unfolding loop_after
  tracking_before e = rw e (looped_tracking lock s.loop (w.loop.tracking e))

  pub sound_loop : SoundLoop (steered (automatic s.settings) (op_mode s.settings) (Ready s) (selected s) (choice_after mask lock s).selected (loop_after lock s)) (choice_after mask lock s)
  unfolding steered
  sound_loop =
      record {
        lock_le = if_case (λ n. n ≤ lock_ticks) (eqb N (selected s)) (λ e. run_lock) (λ e. omega arith);
        unlock_lt = if_case (λ n. n < unlock_ticks) (eqb N (selected s)) (λ e. run_unlock (eqb-true N (selected s) e)) (λ e. omega arith);
        selected_le = sound.selected_le;
        wait_lt = sound.wait_lt;
        unselected = sound.unselected;
        unwaited = sound.unwaited;
        tracking = λ t. mode_tracking (automatic s.settings) (op_mode s.settings) (Ready s) (selected s) N (loop_after lock s).mode t (on t) (λ e. tracking_before (ap is_tracked e ∙ t));
        resting = λ t. mode_resting (automatic s.settings) (op_mode s.settings) (Ready s) (selected s) N (loop_after lock s).mode (untracked N sound.selected_le t);
      }
    where
      N : ℕ
      N = (choice_after mask lock s).selected

      sound : SoundChoice (choice_after mask lock s)
      sound = sound_chosen (Blocked s) s.settings (inputs_after mask lock s) s.choice w.settings w.loop.selected_le w.loop.wait_lt

      on : is_tracked N ≡ true → (not (automatic s.settings) && eqb (op_mode s.settings) 0) ≡ false
      on t =
          by_test (not (automatic s.settings) && eqb (op_mode s.settings) 0)
          (λ e. absurd (zero_no (low 1 8 N t) (manual_none (Blocked s) s.settings (inputs_after mask lock s) s.choice e))) (λ e. e)
        where
          zero_no : 1 ≤ N → N ≡ 0 → ⊥
          zero_no l z = omega arith

-- nothing selected, and both runs at 0
pub sound_unselected : (m : Mode) → mode_number m ≤ 1 → SoundLoop (record { mode = m; lock_run = 0; unlock_run = 0 }) (settled 0)
unfolding settled
sound_unselected m h =
    record {
      lock_le = omega arith;
      unlock_lt = omega arith;
      selected_le = omega arith;
      wait_lt = omega arith;
      unselected = λ e. refl;
      unwaited = λ e. refl;
      tracking = λ e. absurd (false≢true e);
      resting = λ e. h;
    }
