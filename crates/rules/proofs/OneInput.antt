-- One input: what holds of it in every state, and what holds of one that has behaved for k ticks. Both for any bucket.
use Prim.Native.Nat.{ℕ, zero, suc, ◌+◌, ◌-◌, ◌*◌, ◌≤◌, ◌<◌, min}
use mathlib.Core.Path.{◌≡◌, refl, ap}
use mathlib.Core.Bool.{Bool, true, false}
use native.Mathlib.Omega.{arith}
use native.Mathlib.Nat.{one-le-pow, one-le-mul, mul-le-mul_left, lt_of_mul-lt-mul_left}
use lib.Dec.{leb}
use lib.IntN.{ℤ, nat_abs}
use borrow.Author.Tests.{leb-true, leb-false, eq-eqb, le-leb, lt-leb, le-ltb}
use Rattle.rules.specs.Monitors.{Bucket, level_after, decay_after, alarm_after, activity_after, Input, good, full_soak, soak_after, monitored, qualified, unsoaked, at_size, alarm_ticks, lock_alarmed, frequency_after, measured, fresh_input}
use Rattle.rules.specs.Laws.{SoundBucket, SoundInput}
use Rattle.rules.specs.Service.{settle_ticks, qualify_ticks}
use Rattle.rules.proofs.Tests.{if_case, by_test, clash}

-- the numbers of a bucket that works: the alarm clears below where it sets, within the size, and a decay takes a tick or more
pub record Working (b : Bucket) : Type 0 where
  pub clears : b.clear_level < b.set_level
  pub sets : b.set_level ≤ b.size
  pub decays : 1 ≤ b.decay_ticks

-- a set within its bounds works
pub works : {b : Bucket} → SoundBucket b → Working b
works s = record { clears = s.clears; sets = s.sets; decays = rw s.decays.1.1 (one-le-pow s.decays.0 2 (omega arith)) }

-- ---- in every state

module _ (b : Bucket) (w : Working b) where
  level_bound : (irregular : Bool) (l d : ℕ) → l ≤ b.size → level_after b.size b.decay_ticks irregular l d ≤ b.size
  unfolding level_after
  level_bound irregular l d h =
      if_case (λ x. x ≤ b.size) irregular (λ e. omega arith)
      (λ e. if_case (λ x. x ≤ b.size) (leb b.decay_ticks (d + 1)) (λ t. omega arith) (λ t. h))

  decay_bound : (irregular : Bool) (d : ℕ) → decay_after b.decay_ticks irregular d < b.decay_ticks
  unfolding decay_after
  decay_bound irregular d =
      if_case (λ x. x < b.decay_ticks) irregular (λ e. w.decays)
      (λ e. if_case (λ x. x < b.decay_ticks) (leb b.decay_ticks (d + 1)) (λ t. w.decays) (λ t. leb-false b.decay_ticks (d + 1) t))

  soak_bound : (g : Bool) (n : ℕ) → soak_after g n ≤ full_soak
  unfolding soak_after
  soak_bound g n = if_case (λ x. x ≤ full_soak) g (λ e. omega arith) (λ e. omega arith)

  pub sound_monitored : (irregular : Bool) (i : Input) → SoundInput b i → SoundInput b (monitored b irregular i)
  unfolding monitored activity_after
  sound_monitored irregular i s =
      record {
        level_le = level_bound irregular i.activity.level i.activity.decay s.level_le;
        decay_lt = decay_bound irregular i.activity.decay;
        remainder_le = omega (arith, s.remainder_le);
        soak_le = soak_bound _ i.soak;
      }

  pub sound_measured : (reject qualification : ℕ) (x : ℤ) (i : Input) → SoundInput b i → SoundInput b (measured reject qualification x i)
  unfolding measured
  sound_measured r q x i s =
      record { level_le = s.level_le; decay_lt = s.decay_lt; remainder_le = s.remainder_le; soak_le = s.soak_le }

  pub sound_alarmed : (i : Input) → SoundInput b i → SoundInput b (lock_alarmed i)
  unfolding lock_alarmed
  sound_alarmed i s = record { level_le = s.level_le; decay_lt = s.decay_lt; remainder_le = omega arith; soak_le = omega arith }

  pub sound_unsoaked : (i : Input) → SoundInput b i → SoundInput b (unsoaked i)
  unfolding unsoaked
  sound_unsoaked i s = record { level_le = s.level_le; decay_lt = s.decay_lt; remainder_le = s.remainder_le; soak_le = omega arith }

  -- put at its size: whatever it was, its remainder and soak are kept
  pub sound_at_size : (i : Input) → i.remainder ≤ alarm_ticks → i.soak ≤ full_soak → SoundInput b (at_size b.size i)
  unfolding at_size
  sound_at_size i r s = record { level_le = omega arith; decay_lt = w.decays; remainder_le = r; soak_le = s }

  pub sound_fresh : SoundInput b fresh_input
  unfolding fresh_input
  sound_fresh = record { level_le = omega arith; decay_lt = w.decays; remainder_le = omega arith; soak_le = omega arith }

-- ---- of an input that has behaved for k ticks

-- the ticks in which the bucket falls from its size to its clear level
abbrev drain_ticks : Bucket → ℕ
drain_ticks b = (b.size - b.clear_level) * b.decay_ticks

pub record Calm (b : Bucket) (k : ℕ) (i : Input) : Type 0 where
  pub clear : i.frequency ≡ false
  pub drained : b.decay_ticks * i.activity.level ≤ i.activity.decay + (b.decay_ticks * b.size - k)
  pub quiet : drain_ticks b ≤ k → i.activity.alarm ≡ false
  pub released : i.remainder ≤ alarm_ticks - k
  pub soaking : min k (qualify_ticks b) ≤ i.soak + (settle_ticks b - 1)

module _ (b : Bucket) (w : Working b) where
  drain_some : 1 ≤ drain_ticks b
  drain_some = one-le-mul (omega (arith, w)) w.decays

  -- at the moment nothing is asked but a clear frequency alarm
  pub calm_start : (i : Input) → SoundInput b i → i.frequency ≡ false → Calm b 0 i
  calm_start i s e =
      record {
        clear = e;
        drained = omega (arith, mul-le-mul_left b.decay_ticks s.level_le);
        quiet = λ h. absurd (none h);
        released = omega (arith, s.remainder_le);
        soaking = omega arith;
      }
    where
      none : drain_ticks b ≤ 0 → ⊥
      none h = omega (arith, drain_some)

  fallen : (D l : ℕ) → D * (suc l - 1) ≡ D * l
  fallen D l = ap (λ n. D * n) (omega arith)

  drained_tick : (k l d : ℕ) → d < b.decay_ticks → b.decay_ticks * l ≤ d + (b.decay_ticks * b.size - k)
      → b.decay_ticks * level_after b.size b.decay_ticks false l d ≤ decay_after b.decay_ticks false d + (b.decay_ticks * b.size - suc k)
  unfolding level_after decay_after
  drained_tick k l d h q = by_test (leb b.decay_ticks (d + 1)) (λ e. rw e (falls l q (leb-true b.decay_ticks (d + 1) e))) (λ e. rw e (omega arith))
    where
      falls : (n : ℕ) → b.decay_ticks * n ≤ d + (b.decay_ticks * b.size - k) → b.decay_ticks ≤ d + 1
          → b.decay_ticks * (n - 1) ≤ 0 + (b.decay_ticks * b.size - suc k)
      falls zero u v = omega arith
      falls (suc n) u v = rw (fallen b.decay_ticks n) (omega arith)

  -- a level from which the bucket has drained for k ticks is at most the clear level
  low_level : (k l d : ℕ) → d < b.decay_ticks → b.decay_ticks * l ≤ d + (b.decay_ticks * b.size - k) → drain_ticks b ≤ k → l ≤ b.clear_level
  low_level k l d h q e =
      le_of_lt_suc (lt_of_mul-lt-mul_left b.decay_ticks (omega (arith, parts)))
    where
      parts : b.decay_ticks * b.size ≡ b.decay_ticks * (b.clear_level + (b.size - b.clear_level))
      parts = ap (λ n. b.decay_ticks * n) (omega (arith, w))

      le_of_lt_suc : {m n : ℕ} → m < suc n → m ≤ n
      le_of_lt_suc x = omega arith

  alarm_clear : (l : ℕ) (a : Bool) → l ≤ b.clear_level → alarm_after b.set_level b.clear_level l a ≡ false
  unfolding alarm_after
  alarm_clear l a h = rw (lt-leb b.set_level l (omega (arith, w)), le-leb l b.clear_level h) refl

  good_is : (a f : Bool) (r : ℕ) → a ≡ false → f ≡ false → r ≡ 0 → good a f r ≡ true
  unfolding good
  good_is a f r x y z = rw (x, y, z) refl

  -- a good tick fills the soak by one; a is the tick from which on all are good
  soak_rises : (k a n : ℕ) → 1 ≤ a → n ≤ full_soak → min k (full_soak - 1 + a) ≤ n + (a - 1)
      → min (suc k) (full_soak - 1 + a) ≤ soak_after true n + (a - 1)
  unfolding soak_after
  soak_rises k a n l h c = omega arith

  -- one regular tick
  pub calm_tick : (k : ℕ) (i : Input) → SoundInput b i → Calm b k i → Calm b (suc k) (monitored b false i)
  unfolding monitored activity_after soak_after
  calm_tick k i s c =
      record {
        clear = c.clear;
        drained = drained;
        quiet = quiet;
        released = omega (arith, c.released);
        soaking =
            by_test is_good (λ e. rw e (soak_rises k (settle_ticks b) i.soak (omega arith) s.soak_le c.soaking))
            (λ e. by_test (leb (settle_ticks b) (suc k)) (λ t. clash (settled t) e) (λ t. rw e (omega (arith, leb-false (settle_ticks b) (suc k) t))));
      }
    where
      l : ℕ
      l = level_after b.size b.decay_ticks false i.activity.level i.activity.decay

      d : ℕ
      d = decay_after b.decay_ticks false i.activity.decay

      is_good : Bool
      is_good = good (alarm_after b.set_level b.clear_level l i.activity.alarm) i.frequency (i.remainder - 1)

      drained : b.decay_ticks * l ≤ d + (b.decay_ticks * b.size - suc k)
      drained = drained_tick k i.activity.level i.activity.decay s.decay_lt c.drained

      quiet : drain_ticks b ≤ suc k → alarm_after b.set_level b.clear_level l i.activity.alarm ≡ false
      quiet h = alarm_clear l i.activity.alarm (low_level (suc k) l d (decay_bound b w false i.activity.decay) drained h)

      settled : leb (settle_ticks b) (suc k) ≡ true → is_good ≡ true
      settled t =
          good_is (alarm_after b.set_level b.clear_level l i.activity.alarm) i.frequency (i.remainder - 1)
          (quiet (omega (arith, leb-true (settle_ticks b) (suc k) t))) c.clear
          (omega (arith, leb-true (settle_ticks b) (suc k) t, c.released))

  -- by then it is qualified
  pub calm_qualified : (k : ℕ) (i : Input) → SoundInput b i → Calm b k i → qualify_ticks b ≤ k → qualified i ≡ true
  unfolding qualified
  calm_qualified k i s c h = eq-eqb i.soak full_soak (omega (arith, s.soak_le, c.soaking))

  -- a measurement that is not above the qualification limit
  pub calm_measured : (k reject qualification : ℕ) (x : ℤ) (i : Input) → qualification ≤ reject → nat_abs x ≤ qualification
      → Calm b k i → Calm b k (measured reject qualification x i)
  unfolding measured frequency_after
  calm_measured k r q x i far h c =
      record {
        clear = rw (le-ltb r (nat_abs x) (omega arith), le-leb (nat_abs x) q h) refl;
        drained = c.drained;
        quiet = c.quiet;
        released = c.released;
        soaking = c.soaking;
      }
