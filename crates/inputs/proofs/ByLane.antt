-- The stored numbers by lane, and the rules' list of inputs.
use Rattle.std.specs.Prelude.{if◌then◌else◌}
use Prim.Native.Nat.{ℕ, zero, suc, ◌+◌, ◌-◌, ◌≤◌, ◌<◌, max}
use mathlib.Core.Path.{◌≡◌, refl, ap, sym, ◌∙◌}
use mathlib.Core.Bool.{Bool, true, false, ◌&&◌}
use mathlib.Core.List.{List}
use native.Mathlib.Omega.{arith}
use lib.Dec.{eqb, leb, ltb}
use lib.ListN.{length, get_or, set, length-set}
use lib.Seq.{ext_get_or, get_or-set_same, get_or-set_other}
use borrow.Author.Tests.{eqb-true, eqb-false, eq-eqb}
use Rattle.rules.specs.Words.{is_input}
use Rattle.rules.specs.Monitors.{Input, full_soak, qualified, at_size, fresh_input, frequency_after}
use Rattle.rules.specs.Inputs.{input, altered}
use Rattle.rules.proofs.Tests.{by_test, is_between}
use Rattle.arith.proofs.Laws.{if_map_2}
use Rattle.buckets.specs.Bridge.{eight}
use Rattle.inputs.specs.Bridge.{is_set, frequency_number, input_at, inputs_of}
use Rattle.inputs.specs.declared.Monitors.{Monitors}

-- ---- an input read

-- one of eight values
pub eight_at : {A : Type 0} (f : ℕ → A) (d : A) (j : ℕ) → j < 8 → get_or (eight f) j d ≡ f j
eight_at f d zero h = refl
eight_at f d (suc zero) h = refl
eight_at f d (suc (suc zero)) h = refl
eight_at f d (suc (suc (suc zero))) h = refl
eight_at f d (suc (suc (suc (suc zero)))) h = refl
eight_at f d (suc (suc (suc (suc (suc zero))))) h = refl
eight_at f d (suc (suc (suc (suc (suc (suc zero)))))) h = refl
eight_at f d (suc (suc (suc (suc (suc (suc (suc zero))))))) h = refl
eight_at f d (suc (suc (suc (suc (suc (suc (suc (suc j)))))))) h = absurd (omega arith)

-- the input in a lane
pub input_in_lane : (m : Monitors) (k : ℕ) → k < 8 → get_or (inputs_of m) k fresh_input ≡ input_at m k
unfolding inputs_of
input_in_lane m k h = eight_at (input_at m) fresh_input k h

-- input c is qualified by the soak in its lane
pub qualified_lane : (m : Monitors) (c k : ℕ) → 1 ≤ c → c ≤ 8 → k ≡ c - 1
    → eqb (get_or m.soak k 0) full_soak ≡ (is_input c && qualified (input (inputs_of m) c))
unfolding qualified
qualified_lane m c k lo hi e = rw (is_between 1 8 c lo hi, ← e) (ap qualified (sym (input_in_lane m k (omega arith))))

-- ---- an input altered

-- eight values with one replaced
eight_set : {A : Type 0} (f g : ℕ → A) (k : ℕ) (v : A) → (k < 8 → g k ≡ v) → ((j : ℕ) → j < 8 → (j ≡ k → ⊥) → g j ≡ f j) → eight g ≡ set (eight f) k v
eight_set f g k v same other =
    ext_get_or v (eight g) (set (eight f) k v) (sym (length-set (eight f) k v)) (λ j h. eight_at g v j h ∙ sym (at j h))
  where
    at : (j : ℕ) → j < 8 → get_or (set (eight f) k v) j v ≡ g j
    at j h =
        by_test (eqb j k)
        (λ e. rw (eqb-true j k e) (get_or-set_same (eight f) k v v (omega (arith, eqb-true j k e)) ∙ sym (same (omega (arith, eqb-true j k e)))))
        (λ e. get_or-set_other (eight f) k j v v (eqb-false j k e) ∙ eight_at f v j h ∙ sym (other j h (eqb-false j k e)))

-- ---- a row with input i's place from other values: 0 counts as 1, as in the rules

module _ (row values : List ℕ) (n i : ℕ) (e : n ≡ max i 1) where
  abbrev pub placed : List ℕ
  placed = eight (λ k. if eqb n (k + 1) then get_or values k 0 else get_or row k 0)

  abbrev from : ℕ → Bool → ℕ
  from k t = if t then get_or values k 0 else get_or row k 0

  pub placed_same : (k : ℕ) → k ≡ i - 1 → k < 8 → get_or placed k 0 ≡ get_or values k 0
  placed_same k at h =
      eight_at (λ j. from j (eqb n (j + 1))) 0 k h ∙ ap (from k) (eq-eqb n (k + 1) (omega (arith, e, at)))

  pub placed_other : (k j : ℕ) → k ≡ i - 1 → j < 8 → (j ≡ k → ⊥) → get_or placed j 0 ≡ get_or row j 0
  placed_other k j at h other =
      eight_at (λ j. from j (eqb n (j + 1))) 0 j h
      ∙ by_test (eqb n (j + 1)) (λ t. absurd (other (omega (arith, e, at, eqb-true n (j + 1) t)))) (λ t. ap (from j) t)

-- the same where all values are one
abbrev pub all : ℕ → List ℕ
all v = eight (λ k. v)

pub placed_value : (row : List ℕ) (v n i : ℕ) (e : n ≡ max i 1) → i - 1 < 8 → get_or (placed row (all v) n i e) (i - 1) 0 ≡ v
placed_value row v n i e h = placed_same row (all v) n i e (i - 1) refl h ∙ eight_at (λ k. v) 0 (i - 1) h

-- the alarm is read out of the two choices
pub frequency_set : (reject limit magnitude frequency : ℕ) → is_set (frequency_number reject limit magnitude frequency) ≡ frequency_after reject limit magnitude (is_set frequency)
unfolding frequency_after
frequency_set reject limit magnitude frequency = if_map_2 is_set (ltb reject magnitude) (leb magnitude limit) 1 0 frequency refl refl

-- one input with another frequency alarm, remainder and soak
abbrev pub alarmed : Input → Bool → ℕ → ℕ → Input
alarmed x frequency remainder soak = record { activity = x.activity; frequency = frequency; remainder = remainder; soak = soak }

-- input i altered: the numbers in its lane are those of the altered input, and the others stay
pub altered_lane : (f : Input → Input) (m r : Monitors) (i : ℕ) {k : ℕ} → k ≡ i - 1
    → (k < 8 → input_at r k ≡ f (input_at m k)) → ((j : ℕ) → j < 8 → (j ≡ k → ⊥) → input_at r j ≡ input_at m j)
    → inputs_of r ≡ altered f i (inputs_of m)
unfolding altered inputs_of
altered_lane f m r i {k} e same other =
    eight_set (input_at m) (input_at r) k (f (get_or (inputs_of m) k fresh_input))
    (λ h. same h ∙ ap f (sym (input_in_lane m k h))) other
    ∙ rw e

-- ---- an input put at its size

-- number by number, where the test t says that it is concerned
pub put_lane : (t : Bool) (size level decay activity : ℕ) (frequency : Bool) (remainder soak : ℕ)
    → ◌≡◌ {A = Input}
    (record {
      activity = record { level = if t then size else level; decay = if t then 0 else decay; alarm = is_set (if t then 1 else activity) };
      frequency = frequency;
      remainder = remainder;
      soak = soak;
    })
    (let x : Input = record {
      activity = record { level = level; decay = decay; alarm = is_set activity };
      frequency = frequency;
      remainder = remainder;
      soak = soak;
    } in
    if t then at_size size x else x)
unfolding at_size
put_lane true size level decay activity frequency remainder soak = refl
put_lane false size level decay activity frequency remainder soak = refl
