-- The four sets stay within their bounds and each input keeps one of them, whatever is set or assigned (#104).
use Prim.Native.Nat.{ℕ, zero, suc, ◌-◌, ◌≤◌}
use mathlib.Core.Path.{◌≡◌, refl, ◌∙◌}
use mathlib.Core.Bool.{true, not, ◌&&◌}
use native.Mathlib.Omega.{arith}
use lib.Dec.{leb, ltb, eqb}
use lib.ListN.{get_or, length-set, replicate}
use lib.Seq.{get_or-set_same, get_or-set_other}
use borrow.Author.Tests.{eqb-true, eqb-false, leb-true, ltb-true, eq-eqb, not-false}
use Rattle.rules.specs.Words.{is_input}
use Rattle.rules.specs.Monitors.{Bucket}
use Rattle.rules.specs.Buckets.{bucket_from, in_bounds, is_set_number, Buckets, start_bucket, fresh_buckets, set_at, set_of, bucket_of, with_set, with_assigned}
use Rattle.rules.specs.Refusals.{set_refusal, assign_refusal}
use Rattle.rules.specs.Laws.{SoundBucket, SoundBuckets}
use Rattle.rules.proofs.Tests.{by_test, and_left, and_right, low, high, unrefused, zero_if}
use Rattle.rules.proofs.OneInput.{Working, works}

-- ---- what an accepted call has passed

-- the numbers of a set are within the bounds
sound_bucket : (size set_level clear_level d : ℕ) → in_bounds size set_level clear_level d ≡ true → (d ≤ 3) × SoundBucket (bucket_from size set_level clear_level d)
unfolding in_bounds bucket_from
sound_bucket s u l d e =
    let levels = ltb l u && leb u s in
    let bounded = and_left (levels && leb s 255) (leb d 3) e in
    let ordered = and_left levels (leb s 255) bounded in
    let few = leb-true d 3 (and_right (levels && leb s 255) (leb d 3) e) in (
      few,
      record {
        clears = ltb-true l u (and_left (ltb l u) (leb u s) ordered);
        sets = leb-true u s (and_right (ltb l u) (leb u s) ordered);
        small = leb-true s 255 (and_right levels (leb s 255) bounded);
        decays = (d, (few, refl));
      },
    )

pub record SetAllowed (n size set_level clear_level d : ℕ) : Type 0 where
  pub known : n ≤ 3
  pub few : d ≤ 3
  pub sound : SoundBucket (bucket_from size set_level clear_level d)

pub set_allowed : (n size set_level clear_level d : ℕ) → set_refusal n size set_level clear_level d ≡ 0 → SetAllowed n size set_level clear_level d
unfolding set_refusal
set_allowed n size set_level clear_level d e =
    let ok = zero_if (is_set_number n && in_bounds size set_level clear_level d) 13 (eq-eqb _ 0 e) in
    let within = sound_bucket size set_level clear_level d (and_right (is_set_number n) (in_bounds size set_level clear_level d) ok) in
    record { known = leb-true n 3 (and_left (is_set_number n) (in_bounds size set_level clear_level d) ok); few = within.0; sound = within.1 }

pub assign_allowed : (i n : ℕ) → assign_refusal i n ≡ 0 → (is_input i ≡ true) × (n ≤ 3)
unfolding assign_refusal
assign_allowed i n e =
    let first = unrefused (not (is_input i)) 5 _ e in
    (not-false (is_input i) first.0, leb-true n 3 (zero_if (is_set_number n) 13 (eq-eqb _ 0 first.1)))

-- ---- a set is set

module _ (n : ℕ) (b : Bucket) (bs : Buckets) (known : n ≤ 3) (s : SoundBuckets bs) where
  pub set_same : set_at (with_set n b bs) n ≡ b
  unfolding with_set
  set_same = get_or-set_same bs.sets n b start_bucket (omega (arith, s.four))

  pub set_other : (k : ℕ) → (k ≡ n → ⊥) → set_at (with_set n b bs) k ≡ set_at bs k
  unfolding with_set
  set_other k ne = get_or-set_other bs.sets n k b start_bucket ne

  pub sound_set : SoundBucket b → SoundBuckets (with_set n b bs)
  unfolding with_set
  sound_set w =
      record {
        four = length-set bs.sets n b ∙ s.four;
        each = λ k h. by_test (eqb k n) (λ e. rw (eqb-true k n e, set_same) w) (λ e. rw (set_other k (eqb-false k n e)) (s.each k h));
        eight = s.eight;
        has = s.has;
      }

-- ---- a set is assigned

module _ (i n : ℕ) (bs : Buckets) (input : is_input i ≡ true) (s : SoundBuckets bs) where
  pub assigned_same : set_of (with_assigned i n bs) i ≡ n
  unfolding with_assigned
  assigned_same = get_or-set_same bs.assigned (i - 1) n 0 (omega (arith, s.eight, low 1 8 i input, high 1 8 i input))

  pub assigned_other : (j : ℕ) → is_input j ≡ true → (j ≡ i → ⊥) → set_of (with_assigned i n bs) j ≡ set_of bs j
  unfolding with_assigned
  assigned_other j r ne = get_or-set_other bs.assigned (i - 1) (j - 1) n 0 (λ e. ne (omega (arith, low 1 8 i input, low 1 8 j r)))

  pub sound_assigned : n ≤ 3 → SoundBuckets (with_assigned i n bs)
  unfolding with_assigned
  sound_assigned h =
      record {
        four = s.four;
        each = s.each;
        eight = length-set bs.assigned (i - 1) n ∙ s.eight;
        has = λ j r. by_test (eqb j i) (λ e. rw (eqb-true j i e, assigned_same) h) (λ e. rw (assigned_other j r (eqb-false j i e)) (s.has j r));
      }

-- ---- as they start

pub sound_start : SoundBucket start_bucket
unfolding start_bucket in_bounds
sound_start = (sound_bucket 8 6 4 1 refl).1

-- a list of one value has it everywhere
everywhere : {A : Type 0} (n k : ℕ) (x : A) → get_or (replicate n x) k x ≡ x
everywhere zero k x = refl
everywhere (suc n) zero x = refl
everywhere (suc n) (suc k) x = everywhere n k x

pub start_set : (n : ℕ) → set_at fresh_buckets n ≡ start_bucket
unfolding fresh_buckets
start_set n = everywhere 4 n start_bucket

pub start_bucket_assigned : (i : ℕ) → bucket_of fresh_buckets i ≡ start_bucket
start_bucket_assigned i = start_set (set_of fresh_buckets i)

pub sound_fresh_buckets : SoundBuckets fresh_buckets
unfolding fresh_buckets
sound_fresh_buckets =
    record {
      four = refl;
      each = λ n h. rw (start_set n) sound_start;
      eight = refl;
      has = λ i r. rw (everywhere {A = ℕ} 8 (i - 1) 0) (omega arith);
    }

-- ---- an input's bucket works

pub bucket_works : (bs : Buckets) → SoundBuckets bs → (i : ℕ) → is_input i ≡ true → Working (bucket_of bs i)
bucket_works bs s i r = works (s.each (set_of bs i) (s.has i r))
