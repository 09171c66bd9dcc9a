-- The rows' new numbers, lane by lane, are those of the rules.
use Prim.Native.Nat.{ℕ, zero, suc, ◌+◌, ◌-◌, ◌*◌, ◌/◌, ◌%◌, ◌^◌, ◌≤◌, ◌<◌, max}
use mathlib.Core.Path.{◌≡◌, refl, ◌∙◌}
use mathlib.Core.Logic.{◌⊎◌, inl, inr}
use native.Mathlib.Nat.{zero-mul, one-mul, mod-lt, one-le-pow}
use native.Mathlib.Omega.{arith}
use lib.Dec.{leb, eqb}
use lib.ListN.{get_or}
use lib.Pow.{pow_mono}
use borrow.Author.Tests.{leb-true, leb-false, lt-ltb, le-ltb, ne_eqb}
use Rattle.rules.specs.Words.{bit}
use Rattle.rules.specs.Monitors.{Input, level_after, decay_after, alarm_after, activity_after, good, soak_after, monitored}
use Rattle.rules.specs.Inputs.{each_from}
use Rattle.rules.specs.Buckets.{bucket_of}
use Rattle.rules.specs.Tick as Tick
use Rattle.rules.proofs.Tests.{by_test}
use Rattle.arith.proofs.Laws.{if_map_2}
use Rattle.buckets.specs.Bridge.{eight, ticks_of, bucket_at, buckets_of, numbers_of}
use Rattle.buckets.specs.declared.Buckets.{Buckets}
use Rattle.buckets.specs.declared.Numbers.{Numbers}
use Rattle.buckets.proofs.Sets.{set_at}
use Rattle.inputs.specs.Bridge.{is_set, input_at, inputs_of}
use Rattle.inputs.specs.declared.Monitors.{Monitors}
use Rattle.monitor.specs.Rows.{weight, decay_number, activity_number}

-- ---- an alarm that is a number

-- 0 or 1, times a number that is not 0
weighed : (x p : ℕ) → x < 2 → 0 < p → is_set (x * p) ≡ eqb x 1
weighed zero p h o = rw (zero-mul p)
weighed (suc zero) p h o = rw (one-mul p, ne_eqb p 0 (λ e. omega arith))
weighed (suc (suc x)) p h o = absurd (omega arith)

-- a weight is set where the mask's bit is
weight_bit : (mask k : ℕ) → is_set (weight mask k) ≡ bit mask k
unfolding bit
weight_bit mask k = weighed (mask / 2 ^ k % 2) (2 ^ (k + 8)) (mod-lt (mask / 2 ^ k) (omega arith)) (one-le-pow (k + 8) 2 (omega arith))

-- the alarm is read out of the two choices
activity_alarm_is : (high low level activity : ℕ) → is_set (activity_number high low level activity) ≡ alarm_after high low level (is_set activity)
unfolding activity_number alarm_after
activity_alarm_is high low level activity = if_map_2 is_set (leb high level) (leb level low) 1 0 activity refl refl

-- ---- the decay count

-- a weight is 0, or above every last count
weight_high : (x p : ℕ) → x < 2 → 256 ≤ p → (x * p ≡ 0) ⊎ (256 ≤ x * p)
weight_high zero p h o = inl (zero-mul p)
weight_high (suc zero) p h o = inr (rw (one-mul p) o)
weight_high (suc (suc x)) p h o = absurd (omega arith)

decay_by : (last w decay : ℕ) → (w ≡ 0) ⊎ (256 ≤ w) → decay_number last w decay ≡ decay_after (ticks_of last) (is_set w) decay
unfolding decay_number decay_after
decay_by last w decay (inl z) =
    rw z
    (by_test (leb (ticks_of last) (decay + 1))
    (λ e. rw (e, le-ltb (max 0 decay) (last % 256) (omega (arith, leb-true (ticks_of last) (decay + 1) e))))
    (λ e. rw (e, lt-ltb (max 0 decay) (last % 256) (omega (arith, leb-false (ticks_of last) (decay + 1) e)))))
decay_by last w decay (inr h) = rw (ne_eqb w 0 (λ e. omega arith), le-ltb (max w decay) (last % 256) (omega arith))

decay_rule : (last mask k decay : ℕ) → decay_number last (weight mask k) decay ≡ decay_after (ticks_of last) (is_set (weight mask k)) decay
decay_rule last mask k decay =
    decay_by last (weight mask k) decay (weight_high (mask / 2 ^ k % 2) (2 ^ (k + 8)) (mod-lt (mask / 2 ^ k) (omega arith)) (pow_mono {i = 8} {j = k + 8} (omega arith)))

-- ---- the new numbers in a lane

module _ (n : Numbers) (mask : ℕ) (m : Monitors) where
  abbrev level_at : ℕ → ℕ
  level_at k = level_after (get_or n.sizes k 0) (ticks_of (get_or n.lasts k 0)) (is_set (weight mask k)) (get_or m.level k 0) (get_or m.decay k 0)

  abbrev decay_at : ℕ → ℕ
  decay_at k = decay_number (get_or n.lasts k 0) (weight mask k) (get_or m.decay k 0)

  abbrev activity_at : ℕ → ℕ
  activity_at k = activity_number (get_or n.highs k 0) (get_or n.lows k 0) (level_at k) (get_or m.activity k 0)

  abbrev remainder_at : ℕ → ℕ
  remainder_at k = get_or m.remainder k 0 - 1

  abbrev soak_at : ℕ → ℕ
  soak_at k = soak_after (good (is_set (activity_at k)) (is_set (get_or m.frequency k 0)) (remainder_at k)) (get_or m.soak k 0)

  abbrev after : Monitors
  after =
      record {
        level = eight level_at;
        decay = eight decay_at;
        activity = eight activity_at;
        frequency = m.frequency;
        remainder = eight remainder_at;
        soak = eight soak_at;
      }

  -- the input of the new numbers in a lane is the rule's
  lane_after : (k : ℕ)
      → ◌≡◌ {A = Input}
      (record {
        activity = record { level = level_at k; decay = decay_at k; alarm = is_set (activity_at k) };
        frequency = is_set (get_or m.frequency k 0);
        remainder = remainder_at k;
        soak = soak_at k;
      })
      (monitored (bucket_at n.sizes n.highs n.lows n.lasts k) (bit mask k) (input_at m k))
  unfolding activity_after monitored
  lane_after k =
      let bad = weight_bit mask k in
      let size = get_or n.sizes k 0 in
      let high = get_or n.highs k 0 in
      let low = get_or n.lows k 0 in
      let last = get_or n.lasts k 0 in
      let ticks = ticks_of last in
      let level : level_at k ≡ level_after size ticks (bit mask k) (get_or m.level k 0) (get_or m.decay k 0) =
      λ i. level_after size ticks (bad i) (get_or m.level k 0) (get_or m.decay k 0) in
      let alarm = activity_alarm_is high low (level_at k) (get_or m.activity k 0) ∙ (λ i. alarm_after high low (level i) (is_set (get_or m.activity k 0))) in
      let decay = decay_rule last mask k (get_or m.decay k 0) ∙ (λ i. decay_after ticks (bad i) (get_or m.decay k 0)) in
      let frequency = is_set (get_or m.frequency k 0) in
      λ i. record {
        activity = record { level = level i; decay = decay i; alarm = alarm i };
        frequency = frequency;
        remainder = remainder_at k;
        soak = soak_after (good (alarm i) frequency (remainder_at k)) (get_or m.soak k 0);
      }

  pub rows_after : inputs_of after ≡ Tick.watched (λ i. bucket_at n.sizes n.highs n.lows n.lasts (i - 1)) mask (inputs_of m)
  unfolding inputs_of Tick.watched each_from
  rows_after i = eight (λ k. lane_after k i)

-- ---- the numbers of each input's set are its bucket

pub watched_by : (b : Buckets) (mask : ℕ) (m : Monitors)
    → let n = numbers_of b in
    Tick.watched (λ i. bucket_at n.sizes n.highs n.lows n.lasts (i - 1)) mask (inputs_of m) ≡ Tick.watched (bucket_of (buckets_of b)) mask (inputs_of m)
unfolding inputs_of numbers_of buckets_of Tick.watched each_from
watched_by b mask m i = eight (λ k. monitored (set_at b (get_or b.assigned k 0) i) (bit mask k) (input_at m k))
