-- What holds in every state that events lead to from a fresh unit.
use Prim.Native.Nat.{ℕ, ◌+◌, ◌-◌, ◌≤◌, ◌<◌}
use mathlib.Core.Path.{◌≡◌, refl, sym, subst, ◌∙◌}
use mathlib.Core.Logic.{inl}
use mathlib.Core.Bool.{true, false, not, ◌&&◌, ◌||◌, false≢true}
use mathlib.Core.List.{List, [], ◌∷◌}
use native.Mathlib.Omega.{arith}
use lib.Dec.{leb, ltb, eqb}
use lib.IntN.{ℤ, nat_abs}
use lib.ListN.{get_or-replicate}
use borrow.Author.Tests.{eqb-true, eqb-false, leb-true, ltb-true, ltb-false, le-ltb, eq-eqb, ne_eqb, not-false}
use Rattle.rules.specs.Words.{is_input, is_tracked}
use Rattle.rules.specs.Events.{Event, Tick, tick, measurement, hit, write, set_bucket, assign_bucket, set_week, set_windows, sample_limit}
use Rattle.rules.specs.Monitors.{unsoaked, fresh_input}
use Rattle.rules.specs.Pll.{Mode, free_run, holdover, mode_number, is}
use Rattle.rules.specs.Settings.{Settings, reject, qualification}
use Rattle.rules.specs.Week.{week_ticks, Week, fresh_week, advanced, ascending, starts_week, windows_fit}
use Rattle.rules.specs.Inputs.{Inputs}
use Rattle.rules.specs.Selection.{settled, unselected_mode, unselected_loop}
use Rattle.rules.specs.Buckets.{bucket_from, Buckets, start_bucket, bucket_of}
use Rattle.rules.specs.History.{fresh_history, held, commanded}
use Rattle.rules.specs.State.{State, selected, Ready, with_inputs, with_buckets, with_settings, with_history, with_week}
use Rattle.rules.specs.Tick.{holding_limit, holding_after, week_after, steps1to4, step5, ticked}
use Rattle.rules.specs.Registers.{slot, in_map, registers, register, read_only, largest, stored, written, fresh_with}
use Rattle.rules.specs.Refusals.{limits_apart, limits_refused, command_refused, write_refusal, week_refusal, windows_refusal, refusal, accepted}
use Rattle.rules.specs.Run.{after_measurement, after_hit, after_write, after_set, after_assign, effect, next, run}
use Rattle.rules.specs.Loading.{fresh_from, Fresh}
use Rattle.rules.specs.Laws.{SoundBuckets, SoundInputs, SoundSettings, SoundWeek, Lawful, Invariants, Saturation}
use Rattle.rules.proofs.Tests.{if_case, by_test, clash, and_false, or-false, low, high, unrefused, zero_if}
use Rattle.rules.proofs.Loading.{stored_le, sound_loaded}
use Rattle.rules.proofs.OneInput.{works, sound_measured, sound_unsoaked, sound_fresh}
use Rattle.rules.proofs.SoundBuckets.{SetAllowed, set_allowed, assign_allowed, sound_set, sound_assigned, sound_start, start_bucket_assigned, sound_fresh_buckets, bucket_works}
use Rattle.rules.proofs.SoundInputs.{sound_altered, sound_inputs, sound_after_set, sound_after_assign}
use Rattle.rules.proofs.SoundLoop.{sound_loop, sound_unselected}
use Rattle.rules.proofs.SoundHistory.{no_blocks, none_building, sound_emptied, sum_kept, sound_recorded, sound_commanded, last_recorded, last_commanded}

-- ---- settings

-- what an accepted write has passed
pub record WriteAllowed (s : State) (a v : ℕ) : Type 0 where
  pub known : not (in_map a) ≡ false
  pub writable : read_only a ≡ false
  pub small : v ≤ largest a
  pub limits : limits_refused s.settings a v ≡ false
  pub command : (eqb a 0x26 && command_refused (Ready s) (held s.history.backup) v) ≡ false

pub write_allowed : (s : State) (a v : ℕ) → accepted s (write a v) ≡ true → WriteAllowed s a v
unfolding refusal write_refusal
write_allowed s a v e =
    let first = unrefused (not (in_map a)) 0 _ (eqb-true (write_refusal s.settings (Ready s) (held s.history.backup) a v) 0 e) in
    let second = unrefused (read_only a) 1 _ first.1 in
    let third = unrefused _ 2 _ second.1 in
    let fourth = unrefused _ 3 _ third.1 in
    record {
      known = first.0;
      writable = second.0;
      small = ltb-false (largest a) v third.0;
      limits = fourth.0;
      command = (unrefused _ 7 0 fourth.1).0;
    }

-- and what has passed all that is accepted
pub write_accepted : (s : State) (a v : ℕ) → WriteAllowed s a v → accepted s (write a v) ≡ true
unfolding refusal write_refusal
write_accepted s a v ok = rw (ok.known, ok.writable, le-ltb (largest a) v ok.small, ok.limits, ok.command) refl

same_written : (a v : ℕ) (set : Settings) → written a v set a ≡ stored a v
unfolding written
same_written a v set = rw (eq-eqb a a refl) refl

-- a write leaves every other setting as it was
other_kept : (a v : ℕ) (set : Settings) (b : ℕ) → eqb b a ≡ false → written a v set b ≡ set b
unfolding written
other_kept a v set b e = rw e refl

swap_eqb : (a b : ℕ) → eqb a b ≡ false → eqb b a ≡ false
swap_eqb a b e = ne_eqb b a (λ z. eqb-false a b e (sym z))

sound_written : (s : State) (a v : ℕ) → WriteAllowed s a v → SoundSettings s.settings → SoundSettings (written a v s.settings)
unfolding limits_refused limits_apart
sound_written s a v ok w = record { largest_le = bounded; apart = by_test (eqb a 0x44 || eqb a 0x45) checked kept }
  where
    set : Settings
    set = written a v s.settings

    bounded : (b : ℕ) → set b ≤ largest b
    bounded b =
        by_test (eqb b a)
        (λ e. subst (λ n. set n ≤ largest n) (sym (eqb-true b a e)) (omega (arith, same_written a v s.settings, stored_le a v, ok.small)))
        (λ e. rw (other_kept a v s.settings b e) (w.largest_le b))

    checked : (eqb a 0x44 || eqb a 0x45) ≡ true → qualification set + 6 ≤ reject set
    checked e = leb-true (qualification set + 6) (reject set) (not-false _ (rw e at ok.limits))

    kept : (eqb a 0x44 || eqb a 0x45) ≡ false → qualification set + 6 ≤ reject set
    kept e =
        let neither = or-false (eqb a 0x44) (eqb a 0x45) e in
        rw (other_kept a v s.settings 0x44 (swap_eqb a 0x44 neither.0), other_kept a v s.settings 0x45 (swap_eqb a 0x45 neither.1))
        w.apart

-- ---- the events

holding_bound : (before after : Mode) (n : ℕ) → holding_after before after n ≤ holding_limit
unfolding holding_after
holding_bound before after n = if_case (λ m. m ≤ holding_limit) (is holdover before && is holdover after) (λ e. omega arith) (λ e. omega arith)

holding_zero : (before after : Mode) (n : ℕ) → (mode_number after ≡ mode_number holdover → ⊥) → holding_after before after n ≡ 0
unfolding holding_after
holding_zero before after n ne = rw (ne_eqb (mode_number after) (mode_number holdover) ne, and_false (is holdover before)) refl

place_bound : (p : ℕ) → advanced p < week_ticks
unfolding advanced
place_bound p = if_case (λ n. n < week_ticks) (ltb (p + 1) week_ticks) (λ e. ltb-true (p + 1) week_ticks e) (λ e. omega arith)

sound_advanced : (w : Week) → SoundWeek w → SoundWeek (week_after w)
unfolding week_after
sound_advanced w sound = record { place_lt = place_bound w.place; fit = sound.fit }

pub lawful_tick : (t : Tick) (s : State) → nat_abs t.sample ≤ sample_limit → Lawful s → Lawful (ticked t s)
unfolding ticked step5 steps1to4
lawful_tick t s small w =
    record {
      buckets = w.buckets;
      inputs = sound_inputs t.mask t.lock s w.buckets w.inputs;
      settings = w.settings;
      loop = sound_loop t.mask t.lock s w;
      history = sound_recorded _ _ _ t.sample s.history small w.history;
      last = λ e. last_recorded _ _ _ t.sample s.history e;
      holding_le = holding_bound _ _ s.holding;
      holding_none = holding_zero _ _ s.holding;
      week = sound_advanced s.week w.week;
    }

lawful_measurement : (i : ℕ) (x : ℤ) (s : State) → is_input i ≡ true → Lawful s → Lawful (after_measurement i x s)
unfolding after_measurement
lawful_measurement i x s r w =
    record {
      buckets = w.buckets;
      inputs = sound_altered s.buckets w.buckets _ i s.inputs (λ j input. sound_measured (bucket_of s.buckets j) (bucket_works s.buckets w.buckets j input) _ _ x) r w.inputs;
      settings = w.settings;
      loop = w.loop;
      history = w.history;
      last = w.last;
      holding_le = w.holding_le;
      holding_none = w.holding_none;
      week = w.week;
    }

lawful_hit : (s : State) → is_tracked (selected s) ≡ true → Lawful s → Lawful (after_hit s)
unfolding after_hit settled unselected_mode unselected_loop mode_number
lawful_hit s r w =
    record {
      buckets = w.buckets;
      inputs = sound_altered s.buckets w.buckets unsoaked (selected s) s.inputs (λ j input. sound_unsoaked (bucket_of s.buckets j) (bucket_works s.buckets w.buckets j input)) r w.inputs;
      settings = w.settings;
      loop = sound_unselected (unselected_mode (Ready s)) (if_case (λ (m : Mode). mode_number m ≤ 1) (Ready s) (λ t. omega arith) (λ t. omega arith));
      history = sound_emptied s.history w.history;
      last = λ e. absurd (false≢true e);
      holding_le = omega arith;
      holding_none = λ e. refl;
      week = w.week;
    }

lawful_write : (a v : ℕ) (s : State) → WriteAllowed s a v → Lawful s → Lawful (after_write a v s)
unfolding after_write command_refused largest register registers slot
lawful_write a v s ok w = if_case Lawful (eqb a 0x26) command setting
  where
    small : eqb a 0x26 ≡ true → v ≤ 3
    small e = subst (λ n. v ≤ largest n) (eqb-true a 0x26 e) ok.small

    allowed : eqb a 0x26 ≡ true → v ≡ 1 → Ready s ≡ true
    allowed e z = by_test (Ready s) (λ r. r) (λ r. clash {b = eqb a 0x26 && command_refused (Ready s) (held s.history.backup) v} (rw (e, z, r) refl) ok.command)

    command : eqb a 0x26 ≡ true → Lawful (with_history (commanded v s.history) s)
    command e =
        record {
          buckets = w.buckets;
          inputs = w.inputs;
          settings = w.settings;
          loop = w.loop;
          history = sound_commanded v s.history (small e) (λ z. allowed e z) w.history;
          last = λ t. last_commanded v s.history ∙ w.last t;
          holding_le = w.holding_le;
          holding_none = w.holding_none;
          week = w.week;
        }

    setting : eqb a 0x26 ≡ false → Lawful (with_settings (written a v s.settings) s)
    setting e =
        record {
          buckets = w.buckets;
          inputs = w.inputs;
          settings = sound_written s a v ok w.settings;
          loop = w.loop;
          history = w.history;
          last = w.last;
          holding_le = w.holding_le;
          holding_none = w.holding_none;
          week = w.week;
        }

-- a call whose sets and inputs are sound
lawful_call : (bs : Buckets) (inputs : Inputs) (s : State) → SoundBuckets bs → SoundInputs bs inputs → Lawful s → Lawful (with_buckets bs (with_inputs inputs s))
lawful_call bs inputs s sets sound w =
    record {
      buckets = sets;
      inputs = sound;
      settings = w.settings;
      loop = w.loop;
      history = w.history;
      last = w.last;
      holding_le = w.holding_le;
      holding_none = w.holding_none;
      week = w.week;
    }

lawful_set : (n size set_level clear_level d : ℕ) (s : State) → SetAllowed n size set_level clear_level d → Lawful s
    → Lawful (after_set n (bucket_from size set_level clear_level d) s)
unfolding after_set
lawful_set n size set_level clear_level d s ok w =
    lawful_call _ _ s (sound_set n _ s.buckets ok.known w.buckets ok.sound)
    (sound_after_set s.buckets s.inputs w.inputs n _ ok.known w.buckets ok.sound) w

lawful_assign : (i n : ℕ) (s : State) → (is_input i ≡ true) × (n ≤ 3) → Lawful s → Lawful (after_assign i n s)
unfolding after_assign
lawful_assign i n s ok w =
    lawful_call _ _ s (sound_assigned i n s.buckets ok.0 w.buckets ok.1)
    (sound_after_assign s.buckets s.inputs w.inputs i n ok.0 ok.1 w.buckets) w

-- a week that is sound
lawful_week : (week : Week) (s : State) → SoundWeek week → Lawful s → Lawful (with_week week s)
lawful_week week s sound w =
    record {
      buckets = w.buckets;
      inputs = w.inputs;
      settings = w.settings;
      loop = w.loop;
      history = w.history;
      last = w.last;
      holding_le = w.holding_le;
      holding_none = w.holding_none;
      week = sound;
    }

pub lawful_next : (s : State) (e : Event) → Lawful s → Lawful (next s e)
unfolding next effect refusal week_refusal windows_refusal
lawful_next s (tick t) w =
    if_case Lawful (accepted s (tick t))
    (λ e. lawful_tick t s (leb-true (nat_abs t.sample) sample_limit (zero_if (leb (nat_abs t.sample) sample_limit) 6 e)) w) (λ e. w)
lawful_next s (measurement i x) w = if_case Lawful (accepted s (measurement i x)) (λ t. lawful_measurement i x s (zero_if (is_input i) 5 t) w) (λ t. w)
lawful_next s hit w = if_case Lawful (accepted s hit) (λ t. lawful_hit s (zero_if (is_tracked (selected s)) 4 t) w) (λ t. w)
lawful_next s (write a v) w = if_case Lawful (accepted s (write a v)) (λ t. lawful_write a v s (write_allowed s a v t) w) (λ t. w)
lawful_next s (set_bucket n size set_level clear_level d) w =
    if_case Lawful (accepted s (set_bucket n size set_level clear_level d))
    (λ t. lawful_set n size set_level clear_level d s (set_allowed n size set_level clear_level d (eqb-true _ 0 t)) w) (λ t. w)
lawful_next s (assign_bucket i n) w =
    if_case Lawful (accepted s (assign_bucket i n)) (λ t. lawful_assign i n s (assign_allowed i n (eqb-true _ 0 t)) w) (λ t. w)
lawful_next s (set_week place) w =
    if_case Lawful (accepted s (set_week place))
    (λ t. lawful_week _ s (record { place_lt = ltb-true place week_ticks (zero_if (ltb place week_ticks) 15 t); fit = w.week.fit }) w) (λ t. w)
lawful_next s (set_windows windows) w =
    if_case Lawful (accepted s (set_windows windows))
    (λ t. lawful_week _ s (record { place_lt = w.week.place_lt; fit = zero_if (windows_fit windows) 15 t }) w) (λ t. w)

pub lawful_run : (es : List Event) (s : State) → Lawful s → Lawful (run s es)
unfolding run
lawful_run [] s w = w
lawful_run (e ∷ es) s w = lawful_run es (next s e) (lawful_next s e w)

-- ---- a fresh unit

-- with settings that are sound
lawful_with : (set : Settings) → SoundSettings set → Lawful (fresh_with set)
unfolding fresh_with fresh_history fresh_week ascending starts_week windows_fit settled mode_number
lawful_with set w =
    record {
      buckets = sound_fresh_buckets;
      inputs =
          record {
            eight = refl;
            each = λ i r. rw (start_bucket_assigned i, get_or-replicate 8 (i - 1) fresh_input fresh_input (omega (arith, low 1 8 i r, high 1 8 i r))) (sound_fresh start_bucket (works sound_start));
          };
      settings = w;
      loop = sound_unselected free_run (omega arith);
      history = record { kept = no_blocks; building = none_building false; open_lt = omega arith; open_within = omega arith; command_le = omega arith; backup = no_blocks; backup_full = inl refl };
      last = λ e. absurd (false≢true e);
      holding_le = omega arith;
      holding_none = λ e. refl;
      week = record { place_lt = omega arith; fit = refl };
    }

pub lawful_fresh : (start : State) → Fresh start → Lawful start
unfolding fresh_from
lawful_fresh start f = subst Lawful f.made (lawful_with _ (sound_loaded f.table f.loaded))

pub invariants : Invariants
invariants start f es = lawful_run es start (lawful_fresh start f)

-- ---- a bound of the rules' own never changes anything

pub saturation : Saturation
saturation start f es =
    record {
      unlock_run = omega (arith, w.loop.unlock_lt);
      wait = omega (arith, w.loop.wait_lt);
      open_sum = λ x small. sum_kept x (run start es).history small w.history;
      selected_bits = omega (arith, w.loop.selected_le);
    }
  where
    w : Lawful (run start es)
    w = invariants start f es
