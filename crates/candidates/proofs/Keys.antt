-- The best candidate is the number of the least key.
use Rattle.std.specs.Prelude.{if◌then◌else◌}
use Prim.Native.Nat.{ℕ, zero, suc, ◌+◌, ◌*◌, ◌%◌, ◌≤◌, ◌<◌, min}
use mathlib.Core.Path.{◌≡◌, refl, ap, sym, ◌∙◌}
use mathlib.Core.List.{List}
use mathlib.Core.Logic.{◌⊎◌, inl, inr}
use mathlib.Core.Bool.{Bool, true, false, ◌&&◌, ◌||◌}
use native.Mathlib.Omega.{arith}
use lib.Dec.{eqb, ltb}
use lib.ListN.{get_or}
use borrow.Author.Tests.{eqb-true, ltb-true, ltb-false}
use Rattle.rules.specs.Registers.{settings_from, slot}
use Rattle.rules.specs.Words.{is_input}
use Rattle.rules.specs.Monitors.{qualified, full_soak}
use Rattle.rules.specs.Settings.{Settings, priority, usable, ahead}
use Rattle.rules.specs.Inputs.{Inputs, input}
use Rattle.rules.specs.Selection.{available, candidate, best_up_to, best}
use Rattle.inputs.specs.declared.Monitors.{Monitors}
use Rattle.buckets.specs.Bridge.{eight}
use Rattle.inputs.specs.Bridge.{inputs_of}
use Rattle.candidates.specs.Keys.{no_key, settings_key, keys_from, key_of, least_key}

-- ---- the least of nine, halves compared with halves

-- the least of eight keys and a ninth, one after the other
abbrev pub least_of : List ℕ → ℕ → ℕ
least_of k ninth =
    min ninth (min (get_or k 7 0) (min (get_or k 6 0) (min (get_or k 5 0) (min (get_or k 4 0) (min (get_or k 3 0) (min (get_or k 2 0) (min (get_or k 1 0) (get_or k 0 0))))))))

four : (a b c d : ℕ) → min (min a c) (min b d) ≡ min d (min c (min b a))
four a b c d = omega arith

crossed : (a b x y : ℕ) → min (min a b) (min x y) ≡ min (min a x) (min b y)
crossed a b x y = omega arith

pub swapped : (a b : ℕ) → min a b ≡ min b a
swapped a b = omega arith

in_turn : (a b rest : ℕ) → min (min a b) rest ≡ min a (min b rest)
in_turn a b rest = omega arith

pub halves : (a b c d e f g h : ℕ)
    → min (min (min a e) (min c g)) (min (min b f) (min d h)) ≡ min h (min g (min f (min e (min d (min c (min b a))))))
halves a b c d e f g h =
    four (min a e) (min b f) (min c g) (min d h)
    ∙ ap (λ x. min (min d h) (min (min c g) x)) (crossed b f a e)
    ∙ ap (λ x. min (min d h) x) (crossed c g (min b a) (min f e))
    ∙ crossed d h (min c (min b a)) (min g (min f e))
    ∙ swapped rest (min h (min g (min f e)))
    ∙ in_turn h (min g (min f e)) rest
    ∙ ap (λ x. min h x) (in_turn g (min f e) rest ∙ ap (λ x. min g x) (in_turn f e rest))
  where
    rest : ℕ
    rest = min d (min c (min b a))

-- ---- the register of a candidate

-- Candidate k + 1 has its own, 0x1c + k, in slot k.
pub own_slot : (regs : List ℕ) (k : ℕ) → k ≤ 8 → settings_from regs (0x1b + (k + 1)) ≡ get_or regs k 0
unfolding settings_from slot
own_slot regs zero h = refl
own_slot regs (suc zero) h = refl
own_slot regs (suc (suc zero)) h = refl
own_slot regs (suc (suc (suc zero))) h = refl
own_slot regs (suc (suc (suc (suc zero)))) h = refl
own_slot regs (suc (suc (suc (suc (suc zero))))) h = refl
own_slot regs (suc (suc (suc (suc (suc (suc zero)))))) h = refl
own_slot regs (suc (suc (suc (suc (suc (suc (suc zero))))))) h = refl
own_slot regs (suc (suc (suc (suc (suc (suc (suc (suc zero)))))))) h = refl
own_slot regs (suc (suc (suc (suc (suc (suc (suc (suc (suc k))))))))) h = absurd (omega arith)

-- ---- the best candidate

module _ (set : Settings) (inputs : Inputs) where
  -- b is the best so far, and this is its key
  abbrev Packed : ℕ → ℕ → ℕ → Type 0
  Packed k b key = ((b ≡ 0) × (key ≡ no_key)) ⊎ ((1 ≤ b) × (b ≤ k) × (key ≡ priority set b * 16 + b))

  small : (c : ℕ) → priority set c < 8
  unfolding priority
  small c = omega arith

  next : (k b key : ℕ) (t : Bool) → k < 9 → Packed k b key
      → Packed (suc k) (if t && (eqb b 0 || ahead set (suc k) b) then suc k else b) (min (if t then priority set (suc k) * 16 + suc k else no_key) key)
  unfolding ahead
  next k b key false h (inl w) = inl (w.0, omega (arith, w.1))
  next k b key false h (inr w) = inr (w.0, omega (arith, w.1), omega (arith, w.1, w.2, small b))
  next k b key true h (inl w) = rw w.0 (inr (omega arith, omega arith, omega (arith, w.1, small (suc k))))
  next k b key true h (inr w) = go (eqb b 0) refl (ltb p q) refl (eqb p q) refl (ltb (suc k) b) refl
    where
      p : ℕ
      p = priority set (suc k)

      q : ℕ
      q = priority set b

      go : (z : Bool) → eqb b 0 ≡ z → (l : Bool) → ltb p q ≡ l → (e : Bool) → eqb p q ≡ e → (s : Bool) → ltb (suc k) b ≡ s
          → Packed (suc k) (if z || (l || (e && s)) then suc k else b) (min (p * 16 + suc k) key)
      go true ez l el e ee s es = absurd (omega (arith, eqb-true b 0 ez, w.0))
      go false ez true el e ee s es = inr (omega arith, omega arith, omega (arith, w.1, w.2, ltb-true p q el))
      go false ez false el true ee true es = absurd (omega (arith, w.1, ltb-true (suc k) b es))
      go false ez false el true ee false es = inr (w.0, omega (arith, w.1), omega (arith, w.1, w.2, ltb-false p q el))
      go false ez false el false ee s es = inr (w.0, omega (arith, w.1), omega (arith, w.1, w.2, ltb-false p q el))

  packed : (k : ℕ) → k ≤ 9 → Packed k (best_up_to set inputs k) (least_key set inputs k)
  unfolding best_up_to least_key key_of
  packed zero h = inl (refl, refl)
  packed (suc k) h = next k (best_up_to set inputs k) (least_key set inputs k) (candidate set inputs (suc k)) (omega arith) (packed k (omega arith))

  best_key : least_key set inputs 9 % 16 ≡ best set inputs
  unfolding best
  best_key = go (packed 9 (omega arith))
    where
      go : Packed 9 (best_up_to set inputs 9) (least_key set inputs 9) → least_key set inputs 9 % 16 ≡ best_up_to set inputs 9
      go (inl w) = omega (arith, w.0, w.1)
      go (inr w) = omega (arith, w.1, w.2)

  -- two tests in the other order
  gate : (u q : Bool) (k : ℕ) → (if u && q then k else no_key) ≡ (if q then (if u then k else no_key) else no_key)
  gate true q k = refl
  gate false true k = refl
  gate false false k = refl

  -- an input's key, if it is qualified
  abbrev held_key : ℕ → ℕ
  held_key c = if qualified (input inputs c) then settings_key set c else no_key

  key_is_held : (c : ℕ) → eqb c 9 ≡ false → is_input c ≡ true → key_of set inputs c ≡ held_key c
  unfolding key_of settings_key candidate available
  key_is_held c n i = rw (n, i) (gate (usable set c) (qualified (input inputs c)) (priority set c * 16 + c))

  -- a key is at most no_key, so the no_key that the least key starts from may be left out
  first_key : min (held_key 1) no_key ≡ held_key 1
  unfolding settings_key
  first_key = go (qualified (input inputs 1)) (usable set 1)
    where
      go : (q u : Bool) → let k = (if q then (if u then priority set 1 * 16 + 1 else no_key) else no_key) in min k no_key ≡ k
      go true true = omega (arith, small 1)
      go true false = refl
      go false u = refl

  least_held : least_key set inputs 9
      ≡ min (settings_key set 9) (min (held_key 8) (min (held_key 7) (min (held_key 6) (min (held_key 5) (min (held_key 4) (min (held_key 3) (min (held_key 2) (held_key 1))))))))
  unfolding least_key key_of settings_key candidate
  least_held =
      let first = ap (λ k. min k no_key) (key_is_held 1 refl refl) ∙ first_key in
      (λ j. min (settings_key set 9) (min (key_is_held 8 refl refl j) (min (key_is_held 7 refl refl j) (min (key_is_held 6 refl refl j) (min (key_is_held 5 refl refl j) (min (key_is_held 4 refl refl j) (min (key_is_held 3 refl refl j) (min (key_is_held 2 refl refl j) (first j)))))))))

-- the keys of the qualified inputs
abbrev pub held_row : List ℕ → List ℕ → List ℕ
held_row s k = eight (λ j. if eqb (get_or s j 0) full_soak then get_or k j 0 else no_key)

-- the number of the least of them and of Free Run's key
pub best_held : (set : Settings) (m : Monitors) (k : List ℕ) → k ≡ keys_from set
    → least_of (held_row m.soak k) (get_or k 8 0) % 16 ≡ best set (inputs_of m)
unfolding keys_from inputs_of qualified
best_held set m k e =
    ap (λ k. least_of (held_row m.soak k) (get_or k 8 0) % 16) e
    ∙ ap (λ n. n % 16) (sym (least_held set (inputs_of m)))
    ∙ best_key set (inputs_of m)
