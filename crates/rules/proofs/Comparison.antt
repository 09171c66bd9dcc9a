-- Request #102 compared with the rules before it. Two units get one list: the first has the old history, the second the new one. They agree in all but the
-- history, the ticks in Holdover, and the state, where Ready makes the difference.
use Rattle.std.specs.Prelude.{if◌then◌else◌}
use Prim.Native.Nat.{ℕ}
use mathlib.Core.Path.{◌≡◌, refl, sym, ap}
use mathlib.Core.Logic.{◌⊎◌, inr}
use mathlib.Core.Bool.{Bool, true, false, ◌&&◌, true≢false, false≢true}
use mathlib.Core.List.{List, [], ◌∷◌}
use native.Mathlib.Omega.{arith}
use lib.Dec.{eqb}
use lib.IntN.{ℤ}
use Rattle.rules.specs.Words.{is_tracked}
use Rattle.rules.specs.Events.{Event, Tick, tick, measurement, hit, write, set_bucket, assign_bucket, set_week, set_windows}
use Rattle.rules.specs.Pll.{alarm_due}
use Rattle.rules.specs.Settings.{Settings, policy}
use Rattle.rules.specs.Week.{Week}
use Rattle.rules.specs.Inputs.{Inputs}
use Rattle.rules.specs.Selection.{Choice, chosen, unselected_loop}
use Rattle.rules.specs.Buckets.{bucket_from, Buckets, set_at, with_set, with_assigned, put_at_size, having}
use Rattle.rules.specs.History.{History, held, filling, fresh_history}
use Rattle.rules.specs.State.{State, selected, Blocked, Ready, with_inputs, with_buckets, with_settings, with_history, with_week}
use Rattle.rules.specs.Tick.{watched_after, loop_after, inputs_after, week_after, steps1to4, step5, ticked}
use Rattle.rules.specs.Registers.{written, fresh_with}
use Rattle.rules.specs.Refusals.{command_refused, refusal, accepted}
use Rattle.rules.specs.Run.{after_measurement, after_hit, after_write, after_set, after_assign, effect, next, run}
use Rattle.rules.specs.Laws.{SoundHistory, Lawful}
use Rattle.rules.specs.OldHistory.{old_effect, old_next, old_run}
use Rattle.rules.specs.Comparison.{NeverLessReady}
use Rattle.rules.proofs.Tests.{by_test, clash, and_left, and_right}
use Rattle.rules.proofs.Loading.{each_fresh}
use Rattle.rules.proofs.Invariants.{write_allowed, lawful_next, lawful_fresh, invariants}
use Rattle.rules.proofs.Alike.{same, LoopAlike, alike_locked, alike_looped, alike_none, alike_at}
use Rattle.rules.proofs.Commands.{Allowed, same_allowed, less_refused, one_or_two, allowed}
use Rattle.rules.proofs.Behind.{Behind, behind_ready, behind_emptied, behind_at, behind_both, behind_alone}

record Twin (o n : State) : Type 0 where
  pub inputs_is : o.inputs ≡ n.inputs
  pub buckets_is : o.buckets ≡ n.buckets
  pub settings_is : o.settings ≡ n.settings
  pub choice_is : o.choice ≡ n.choice
  pub week_is : o.week ≡ n.week
  pub loops : LoopAlike o.loop n.loop
  pub behind : Behind o.history n.history

module _ (o n : State) (t : Twin o n) (w : SoundHistory n.history) where
  twin_ready : Ready o ≡ true → Ready n ≡ true
  twin_ready e = behind_ready o.history n.history t.behind w e

  -- a tick
  module _ (e : Tick) where
    driven_alike : LoopAlike (loop_after e.lock o) (loop_after e.lock n)
    unfolding loop_after
    driven_alike = rw t.choice_is (alike_looped (is_tracked (selected n)) e.lock o.loop n.loop t.loops)

    inputs_same : inputs_after e.mask e.lock o ≡ inputs_after e.mask e.lock n
    unfolding inputs_after watched_after alarm_due
    inputs_same = rw (driven_alike.unlock_is, t.choice_is, t.buckets_is, t.inputs_is) refl

    choice_same : chosen (Blocked o) o.settings (inputs_after e.mask e.lock o) o.choice ≡ chosen (Blocked n) n.settings (inputs_after e.mask e.lock n) n.choice
    choice_same = rw (inputs_same, t.settings_is, t.choice_is, t.week_is) refl

    loops_alike : LoopAlike (steps1to4 e o).loop (steps1to4 e n).loop
    unfolding steps1to4
    loops_alike =
        alike_at o.settings n.settings (Ready o) (Ready n) (selected o) (selected n) _ _ _ _ t.settings_is (ap (λ (c : Choice). c.selected) t.choice_is)
        (ap (λ (c : Choice). c.selected) choice_same) twin_ready driven_alike

    twin_tick : Twin (old_effect o (tick e)) (ticked e n)
    unfolding old_effect ticked step5 steps1to4
    twin_tick =
        record {
          inputs_is = inputs_same;
          buckets_is = t.buckets_is;
          settings_is = t.settings_is;
          choice_is = choice_same;
          week_is = ap week_after t.week_is;
          loops = loops_alike;
          behind =
              behind_at _ _ _ _ _ _ e.sample o.history n.history (ap policy t.settings_is) (ap (λ (c : Choice). c.selected) choice_same)
              (alike_locked (steps1to4 e o).loop.mode (steps1to4 e n).loop.mode loops_alike.modes) t.behind;
        }

  -- a measurement
  twin_measured : (i : ℕ) (x : ℤ) → Twin (after_measurement i x o) (after_measurement i x n)
  unfolding after_measurement
  twin_measured i x =
      record {
        inputs_is = rw (t.settings_is, t.inputs_is) refl;
        buckets_is = t.buckets_is;
        settings_is = t.settings_is;
        choice_is = t.choice_is;
        week_is = t.week_is;
        loops = t.loops;
        behind = t.behind;
      }

  -- a Hit
  twin_hit : Twin (after_hit o) (after_hit n)
  unfolding after_hit unselected_loop
  twin_hit =
      record {
        inputs_is = rw (t.choice_is, t.inputs_is) refl;
        buckets_is = t.buckets_is;
        settings_is = t.settings_is;
        choice_is = refl;
        week_is = t.week_is;
        loops = record { modes = alike_none (Ready o) (Ready n) twin_ready; lock_is = refl; unlock_is = refl };
        behind = behind_emptied o.history n.history t.behind;
      }

  -- a call
  twin_called : (f : Buckets → Buckets) (g : Buckets → Inputs → Inputs)
      → Twin (with_buckets (f o.buckets) (with_inputs (g o.buckets o.inputs) o)) (with_buckets (f n.buckets) (with_inputs (g n.buckets n.inputs) n))
  twin_called f g =
      record {
        inputs_is = rw (t.buckets_is, t.inputs_is) refl;
        buckets_is = ap f t.buckets_is;
        settings_is = t.settings_is;
        choice_is = t.choice_is;
        week_is = t.week_is;
        loops = t.loops;
        behind = t.behind;
      }

  -- a call of the week's
  twin_week : (f : Week → Week) → Twin (with_week (f o.week) o) (with_week (f n.week) n)
  twin_week f =
      record {
        inputs_is = t.inputs_is;
        buckets_is = t.buckets_is;
        settings_is = t.settings_is;
        choice_is = t.choice_is;
        week_is = ap f t.week_is;
        loops = t.loops;
        behind = t.behind;
      }

  -- a command, or a setting
  twin_commanded : (h g : History) → Behind h g → Twin (with_history h o) (with_history g n)
  twin_commanded h g b =
      record {
        inputs_is = t.inputs_is;
        buckets_is = t.buckets_is;
        settings_is = t.settings_is;
        choice_is = t.choice_is;
        week_is = t.week_is;
        loops = t.loops;
        behind = b;
      }

  twin_set : (f : Settings → Settings) → Twin (with_settings (f o.settings) o) (with_settings (f n.settings) n)
  twin_set f =
      record {
        inputs_is = t.inputs_is;
        buckets_is = t.buckets_is;
        settings_is = ap f t.settings_is;
        choice_is = t.choice_is;
        week_is = t.week_is;
        loops = t.loops;
        behind = t.behind;
      }

  -- a write that both accept, and a command that the new rules alone accept
  module _ (a v : ℕ) (ok : eqb a 0x26 ≡ true → Allowed v n.history) where
    twin_written : Twin (old_effect o (write a v)) (after_write a v n)
    unfolding old_effect effect after_write
    twin_written =
        by_test (eqb a 0x26) (λ e. rw e (twin_commanded _ _ (behind_both v o.history n.history t.behind (ok e)))) (λ e. rw e (twin_set (written a v)))

    twin_alone : eqb a 0x26 ≡ true → (v ≡ 1) ⊎ (v ≡ 2) → Twin o (after_write a v n)
    unfolding after_write
    twin_alone e which = rw e (twin_commanded o.history _ (behind_alone v o.history n.history t.behind (ok e) which))

-- ---- an event, and a list

module _ (o n : State) (t : Twin o n) (w : SoundHistory n.history) where
  twin_write : (a v : ℕ) → Twin (old_next o (write a v)) (next n (write a v))
  unfolding old_next next effect refusal
  twin_write a v = go (accepted o (write a v)) refl (accepted n (write a v)) refl
    where
      -- number 8, of the first unit
      eight : Bool
      eight = eqb a 0x26 && command_refused (Ready o) (held o.history.backup) v

      alone : accepted n (write a v) ≡ true → eight ≡ true → Twin o (after_write a v n)
      alone f z =
          twin_alone o n t w a v (allowed n a v w f) (and_left (eqb a 0x26) (command_refused (Ready o) (held o.history.backup) v) z)
          (one_or_two (Ready o) (held o.history.backup) v (and_right (eqb a 0x26) (command_refused (Ready o) (held o.history.backup) v) z))

      go : (x : Bool) → accepted o (write a v) ≡ x → (y : Bool) → accepted n (write a v) ≡ y
          → Twin (if x then old_effect o (write a v) else o) (if y then after_write a v n else n)
      go true e true f = twin_written o n t w a v (allowed n a v w f)
      go false e false f = t
      go true e false f =
          let ok = write_allowed o a v e in
          clash
          (same_allowed o n a v t.settings_is ok
          (less_refused (eqb a 0x26) (Ready o) (held o.history.backup) (Ready n) (held n.history.backup) v (twin_ready o n t w) t.behind.backup_too ok.command))
          f
      go false e true f = by_test eight (alone f) (λ z. clash (same_allowed n o a v (sym t.settings_is) (write_allowed n a v f) z) e)

  -- an event that both accept or turn down
  both : (a b : Bool) → a ≡ b → {x y : State} → Twin x y → Twin (if a then x else o) (if b then y else n)
  both true true e z = z
  both true false e z = absurd (true≢false e)
  both false true e z = absurd (false≢true e)
  both false false e z = t

  twin_next : (e : Event) → Twin (old_next o e) (next n e)
  unfolding old_next old_effect next effect refusal after_set after_assign bucket_from
  twin_next (tick e) = both (accepted n (tick e)) (accepted n (tick e)) refl (twin_tick o n t w e)
  twin_next (measurement i x) = both (accepted n (measurement i x)) (accepted n (measurement i x)) refl (twin_measured o n t w i x)
  twin_next hit = both (accepted o hit) (accepted n hit) (ap (λ (c : Choice). eqb (if is_tracked c.selected then 0 else 5) 0) t.choice_is) (twin_hit o n t w)
  twin_next (write a v) = twin_write a v
  twin_next (set_bucket m size set_level clear_level d) =
      both (accepted n (set_bucket m size set_level clear_level d)) (accepted n (set_bucket m size set_level clear_level d)) refl
      (twin_called o n t w (with_set m (bucket_from size set_level clear_level d)) (λ bs. put_at_size (having bs m) size))
  twin_next (assign_bucket i m) =
      both (accepted n (assign_bucket i m)) (accepted n (assign_bucket i m)) refl
      (twin_called o n t w (with_assigned i m) (λ bs. put_at_size (eqb i) (set_at bs m).size))
  twin_next (set_week place) =
      both (accepted n (set_week place)) (accepted n (set_week place)) refl (twin_week o n t w (λ week. record { place = place; windows = week.windows }))
  twin_next (set_windows windows) =
      both (accepted n (set_windows windows)) (accepted n (set_windows windows)) refl (twin_week o n t w (λ week. record { place = week.place; windows = windows }))

twin_run : (es : List Event) (o n : State) → Twin o n → Lawful n → Twin (old_run o es) (run n es)
unfolding run old_run
twin_run [] o n t w = t
twin_run (e ∷ es) o n t w = twin_run es (old_next o e) (next n e) (twin_next o n t w.history e) (lawful_next n e w)

twin_fresh : (set : Settings) → Twin (fresh_with set) (fresh_with set)
unfolding fresh_with fresh_history filling
twin_fresh set =
    record {
      inputs_is = refl;
      buckets_is = refl;
      settings_is = refl;
      choice_is = refl;
      week_is = refl;
      loops = record { modes = same; lock_is = refl; unlock_is = refl };
      behind = record { last_is = refl; backup_too = λ e. e; ahead = inr (omega arith, refl) };
    }

-- READY STANDS AFTER EACH EVENT AFTER WHICH IT STOOD UNDER THE OLD RULES
pub never_less_ready : NeverLessReady
never_less_ready start f es e =
    twin_ready (old_run start es) (run start es) (twin_run es start start (each_fresh (λ (s : State). Twin s s) twin_fresh start f) (lawful_fresh start f))
    (invariants start f es).history e
