-- One place of four or of eight replaced: by a choice at each place, and by the rules' `set`. So the stored sets and set numbers after a call are the rules'.
use Rattle.std.specs.Prelude.{if◌then◌else◌}
use Prim.Native.Nat.{ℕ, zero, suc, ◌+◌, ◌-◌, ◌*◌, ◌%◌, ◌^◌, ◌≤◌, ◌<◌, min}
use mathlib.Core.Path.{◌≡◌, refl, sym, ap, ◌∙◌}
use mathlib.Core.Bool.{Bool, true, false, false≢true}
use native.Mathlib.Omega.{arith}
use native.Mathlib.Nat.{mod-lt}
use lib.Dec.{eqb}
use mathlib.Core.List.{[], ◌∷◌}
use lib.ListN.{get_or, set}
use Rattle.rules.specs.Words.{is_input}
use Rattle.rules.specs.Buckets.{bucket_from, start_bucket, with_set, with_assigned}
use Rattle.rules.proofs.Tests.{high}
use Rattle.arith.proofs.Laws.{if_map}
use Rattle.buckets.specs.Bridge.{four, eight, byte_of, ticks_of, bucket_in, word_from, with_word, with_number, buckets_of}
use Rattle.buckets.specs.declared.Buckets.{Buckets}

set_four : {A : Type 0} (f : ℕ → A) (n : ℕ) (v : A) → n ≤ 3 → four (λ k. if eqb n k then v else f k) ≡ set (four f) n v
set_four f zero v h = refl
set_four f (suc zero) v h = refl
set_four f (suc (suc zero)) v h = refl
set_four f (suc (suc (suc zero))) v h = refl
set_four f (suc (suc (suc (suc n)))) v h = absurd (omega arith)

set_eight : {A : Type 0} (f : ℕ → A) (i : ℕ) (v : A) → is_input i ≡ true → eight (λ k. if eqb i (k + 1) then v else f k) ≡ set (eight f) (i - 1) v
set_eight f zero v h = absurd (false≢true h)
set_eight f (suc zero) v h = refl
set_eight f (suc (suc zero)) v h = refl
set_eight f (suc (suc (suc zero))) v h = refl
set_eight f (suc (suc (suc (suc zero)))) v h = refl
set_eight f (suc (suc (suc (suc (suc zero))))) v h = refl
set_eight f (suc (suc (suc (suc (suc (suc zero)))))) v h = refl
set_eight f (suc (suc (suc (suc (suc (suc (suc zero))))))) v h = refl
set_eight f (suc (suc (suc (suc (suc (suc (suc (suc zero)))))))) v h = refl
set_eight f (suc (suc (suc (suc (suc (suc (suc (suc (suc i))))))))) v h =
    let most : suc (suc (suc (suc (suc (suc (suc (suc (suc i)))))))) ≤ 8 = high 1 8 _ h in
    absurd (omega arith)

-- a set number 0 to 3 has no higher bits
set_number : (t : Bool) (n x : ℕ) → n ≤ 3 → (if t then n else x) % 4 ≡ (if t then n else x % 4)
set_number true n x h = omega arith
set_number false n x h = refl

-- ---- a set anew

module _ (s u l t : ℕ) (s-fits : s < 256) (u-fits : u < 256) (l-fits : l < 256) (t-fits : t ≤ 7) where
  abbrev word : ℕ
  word = s + 256 * u + 65_536 * l + 16_777_216 * t

  first : byte_of word 1 ≡ s
  first = omega arith

  second : byte_of word 256 ≡ u
  second = omega arith

  third : byte_of word 65_536 ≡ l
  third = omega arith

  fourth : byte_of word 16_777_216 ≡ t
  fourth = omega arith

-- one less than 2^d, at each d
last_fits : (d : ℕ) → d ≤ 3 → 2 ^ min d 3 - 1 ≤ 7
last_fits zero h = omega arith
last_fits (suc zero) h = omega arith
last_fits (suc (suc zero)) h = omega arith
last_fits (suc (suc (suc zero))) h = omega arith
last_fits (suc (suc (suc (suc d)))) h = absurd (omega arith)

ticks_of_last : (d : ℕ) → d ≤ 3 → ticks_of (2 ^ min d 3 - 1) ≡ 2 ^ d
ticks_of_last zero h = refl
ticks_of_last (suc zero) h = refl
ticks_of_last (suc (suc zero)) h = refl
ticks_of_last (suc (suc (suc zero))) h = refl
ticks_of_last (suc (suc (suc (suc d)))) h = absurd (omega arith)

-- Each byte of the word is the number that was put there.
bucket_in_word : (size high low d : ℕ) → size < 256 → high < 256 → low < 256 → d ≤ 3 → bucket_in (word_from size high low d) ≡ bucket_from size high low d
unfolding word_from bucket_from
bucket_in_word size high low d s-fits u-fits l-fits few =
    let t = 2 ^ min d 3 - 1 in
    let t-fits = last_fits d few in
    λ i. record {
      size = first size high low t s-fits u-fits l-fits t-fits i;
      set_level = second size high low t s-fits u-fits l-fits t-fits i;
      clear_level = third size high low t s-fits u-fits l-fits t-fits i;
      decay_ticks = (ap ticks_of (fourth size high low t s-fits u-fits l-fits t-fits) ∙ ticks_of_last d few) i;
    }

pub set_anew :
    (b : Buckets) (n size high low d : ℕ) →
    n ≤ 3 →
    size < 256 →
    high < 256 →
    low < 256 →
    d ≤ 3 →
    buckets_of (with_word n (word_from size high low d) b) ≡ with_set n (bucket_from size high low d) (buckets_of b)
unfolding with_set buckets_of
set_anew b n size high low d known s-fits u-fits l-fits few =
    let word = word_from size high low d in
    let assigned = (buckets_of b).assigned in
    (λ i. record { sets = four (λ k. if_map bucket_in (eqb n k) word (get_or b.sets k 0) i); assigned = assigned })
    ∙ (λ i. record { sets = four (λ k. if eqb n k then bucket_in_word size high low d s-fits u-fits l-fits few i else bucket_in (get_or b.sets k 0)); assigned = assigned })
    ∙ (λ i. record { sets = set_four (λ k. bucket_in (get_or b.sets k 0)) n (bucket_from size high low d) known i; assigned = assigned })

-- ---- a set number anew

pub assigned_anew : (b : Buckets) (i n : ℕ) → is_input i ≡ true → n ≤ 3 → buckets_of (with_number i n b) ≡ with_assigned i n (buckets_of b)
unfolding with_assigned buckets_of
assigned_anew b i n input few =
    let sets = (buckets_of b).sets in
    (λ j. record { sets = sets; assigned = eight (λ k. set_number (eqb i (k + 1)) n (get_or b.assigned k 0) few j) })
    ∙ (λ j. record { sets = sets; assigned = set_eight (λ k. get_or b.assigned k 0 % 4) i n input j })

-- ---- the bucket of an input

pub four_at : {A : Type 0} (f : ℕ → A) (d : A) (n : ℕ) → n < 4 → get_or (four f) n d ≡ f n
four_at f d zero h = refl
four_at f d (suc zero) h = refl
four_at f d (suc (suc zero)) h = refl
four_at f d (suc (suc (suc zero))) h = refl
four_at f d (suc (suc (suc (suc n)))) h = absurd (omega arith)

-- from the word at its set's place, and from the rules' sets
pub set_at : (b : Buckets) (n : ℕ) → bucket_in (get_or b.sets (n % 4) 0) ≡ get_or (buckets_of b).sets (n % 4) start_bucket
unfolding buckets_of
set_at b n = sym (four_at (λ k. bucket_in (get_or b.sets k 0)) start_bucket (n % 4) (mod-lt n (omega arith)))

-- ---- the choice by tests

-- of four values, by tests as by its place
pub by_tests : (a b c d n : ℕ) → n < 4 → (if eqb n 1 then b else (if eqb n 2 then c else (if eqb n 3 then d else a))) ≡ get_or (a ∷ b ∷ c ∷ d ∷ []) n 0
by_tests a b c d zero h = refl
by_tests a b c d (suc zero) h = refl
by_tests a b c d (suc (suc zero)) h = refl
by_tests a b c d (suc (suc (suc zero))) h = refl
by_tests a b c d (suc (suc (suc (suc n)))) h = absurd (omega arith)
