-- The eight inputs stay sound, whatever comes.
use Rattle.std.specs.Prelude.{if◌then◌else◌}
use Prim.Native.Nat.{ℕ, ◌≤◌}
use mathlib.Core.Path.{◌≡◌, refl, sym, ◌∙◌}
use mathlib.Core.Bool.{Bool, true, false, ◌&&◌}
use native.Mathlib.Omega.{arith}
use lib.Dec.{eqb}
use borrow.Author.Tests.{eqb-true, eqb-false}
use Rattle.rules.specs.Words.{bit_of, is_input, is_tracked}
use Rattle.rules.specs.Monitors.{Bucket, Input, monitored, at_size, lock_alarmed}
use Rattle.rules.specs.Pll.{alarm_due}
use Rattle.rules.specs.Inputs.{Inputs, input, altered}
use Rattle.rules.specs.Buckets.{Buckets, set_at, set_of, bucket_of, with_set, with_assigned, put_at_size, having}
use Rattle.rules.specs.State.{State, selected}
use Rattle.rules.specs.Tick.{watched, watched_after, loop_after, inputs_after}
use Rattle.rules.specs.Laws.{SoundBucket, SoundBuckets, SoundInput, SoundInputs}
use Rattle.rules.proofs.Tests.{if_case, and_left, low, high}
use Rattle.rules.proofs.EightInputs.{length_each, length_altered, input_each, kept_by_altered}
use Rattle.rules.proofs.OneInput.{Working, works, sound_monitored, sound_alarmed, sound_at_size}
use Rattle.rules.proofs.SoundBuckets.{bucket_works, set_same, set_other, assigned_same, assigned_other}

module _ (bs : Buckets) (sets : SoundBuckets bs) where
  pub sound_watched : (mask : ℕ) (l : Inputs) → SoundInputs bs l → SoundInputs bs (watched (bucket_of bs) mask l)
  unfolding watched
  sound_watched mask l s =
      record {
        eight = length_each _ 1 l ∙ s.eight;
        each = λ i r. rw (input_each (λ j. monitored (bucket_of bs j) (bit_of mask j)) i l (low 1 8 i r) (omega (arith, s.eight, high 1 8 i r)))
            (sound_monitored (bucket_of bs i) (bucket_works bs sets i r) (bit_of mask i) (input l i) (s.each i r));
      }

  -- an alteration that keeps each input sound
  pub sound_altered : (f : Input → Input) (i : ℕ) (l : Inputs)
      → ((j : ℕ) → is_input j ≡ true → (x : Input) → SoundInput (bucket_of bs j) x → SoundInput (bucket_of bs j) (f x))
      → is_input i ≡ true → SoundInputs bs l → SoundInputs bs (altered f i l)
  sound_altered f i l keep ri s =
      record {
        eight = length_altered f i l ∙ s.eight;
        each = λ j r. kept_by_altered (SoundInput (bucket_of bs j)) f i j l (low 1 8 i ri) (low 1 8 j r) (omega (arith, s.eight, high 1 8 j r)) (keep j r) (s.each j r);
      }

-- a tick
pub sound_inputs : (mask : ℕ) (lock : Bool) (s : State) → SoundBuckets s.buckets → SoundInputs s.buckets s.inputs
    → SoundInputs s.buckets (inputs_after mask lock s)
unfolding inputs_after watched_after
sound_inputs mask lock s sets w =
    if_case (SoundInputs s.buckets) (is_tracked (selected s) && alarm_due (loop_after lock s))
    (λ t. sound_altered s.buckets sets lock_alarmed (selected s) (watched_after mask s) (λ j r. sound_alarmed (bucket_of s.buckets j) (bucket_works s.buckets sets j r))
    (and_left (is_tracked (selected s)) (alarm_due (loop_after lock s)) t) now)
    (λ t. now)
  where
    now : SoundInputs s.buckets (watched_after mask s)
    now = sound_watched s.buckets sets mask s.inputs w

-- ---- a call: those that it concerns are put at their size, and the others keep their bucket

module _ (bs : Buckets) (l : Inputs) (s : SoundInputs bs l) where
  put_sound : (new : Buckets) (concerned : ℕ → Bool) (size : ℕ)
      → ((i : ℕ) → is_input i ≡ true → concerned i ≡ true → Working (bucket_of new i) × ((bucket_of new i).size ≡ size))
      → ((i : ℕ) → is_input i ≡ true → concerned i ≡ false → bucket_of new i ≡ bucket_of bs i)
      → SoundInputs new (put_at_size concerned size l)
  unfolding put_at_size
  put_sound new concerned size mine other =
      record {
        eight = length_each _ 1 l ∙ s.eight;
        each = λ i r. rw (input_each (λ j x. if concerned j then at_size size x else x) i l (low 1 8 i r) (omega (arith, s.eight, high 1 8 i r)))
            (if_case (SoundInput (bucket_of new i)) (concerned i) (put i r) (λ e. rw (other i r e) (s.each i r)));
      }
    where
      put : (i : ℕ) → is_input i ≡ true → concerned i ≡ true → SoundInput (bucket_of new i) (at_size size (input l i))
      put i r e =
          let m = mine i r e in
          rw (← m.1) (sound_at_size (bucket_of new i) m.0 (input l i) (s.each i r).remainder_le (s.each i r).soak_le)

  pub sound_after_set : (n : ℕ) (b : Bucket) → n ≤ 3 → SoundBuckets bs → SoundBucket b
      → SoundInputs (with_set n b bs) (put_at_size (having bs n) b.size l)
  unfolding with_set
  sound_after_set n b h w sound =
      put_sound (with_set n b bs) (having bs n) b.size
      (λ i r e. let is : set_at (with_set n b bs) (set_of bs i) ≡ b = rw (eqb-true (set_of bs i) n e) (set_same n b bs h w) in (rw is (works sound), rw is refl))
      (λ i r e. set_other n b bs h w (set_of bs i) (eqb-false (set_of bs i) n e))

  pub sound_after_assign : (i n : ℕ) → is_input i ≡ true → n ≤ 3 → SoundBuckets bs
      → SoundInputs (with_assigned i n bs) (put_at_size (eqb i) (set_at bs n).size l)
  unfolding with_assigned
  sound_after_assign i n input h w =
      put_sound (with_assigned i n bs) (eqb i) (set_at bs n).size
      (λ j r e. let is : set_of (with_assigned i n bs) j ≡ n = rw (← eqb-true i j e) (assigned_same i n bs input w) in (rw is (works (w.each n h)), rw is refl))
      (λ j r e. rw (assigned_other i n bs input w j r (λ z. eqb-false i j e (sym z))) refl)
