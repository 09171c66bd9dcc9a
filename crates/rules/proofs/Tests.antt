-- Choices by a test, tests joined by "and" and "or", and what holds place by place.
use Rattle.std.specs.Prelude.{if◌then◌else◌}
use Prim.Native.Nat.{ℕ, suc, ◌+◌, ◌≤◌, ◌<◌}
use mathlib.Core.Path.{◌≡◌, refl, sym, subst, ◌∙◌}
use mathlib.Core.Logic.{◌⊎◌, inl, inr}
use mathlib.Core.Bool.{Bool, true, false, not, ◌&&◌, ◌||◌, true≢false, false≢true}
use native.Mathlib.Omega.{arith}
use lib.Dec.{leb, eqb, eqb-suc-zero}
use borrow.Author.Tests.{eqb-true, eqb-false, leb-true, le-leb}
use Rattle.rules.specs.Words.{between}

-- what both arms have, the choice has
pub if_case : {A : Type 0} (P : A → Type 0) (b : Bool) {x y : A} → (b ≡ true → P x) → (b ≡ false → P y) → P (if b then x else y)
if_case P true f g = f refl
if_case P false f g = g refl

-- a choice between two numbers has the bound that both have
pub if_le : (b : Bool) {x y n : ℕ} → x ≤ n → y ≤ n → (if b then x else y) ≤ n
if_le b {x} {y} {n} h k = if_case (λ m. m ≤ n) b (λ e. h) (λ e. k)

-- a choice between two numbers is at most their sum
pub if_sum : (b : Bool) (x y : ℕ) → (if b then x else y) ≤ x + y
if_sum b x y = if_le b (omega arith) (omega arith)

-- what holds whether a test passes or fails
pub by_test : {P : Type 0} (b : Bool) → (b ≡ true → P) → (b ≡ false → P) → P
by_test true f g = f refl
by_test false f g = g refl

-- a test does not both pass and fail
pub clash : {P : Type 0} {b : Bool} → b ≡ true → b ≡ false → P
clash t f = absurd (true≢false (sym t ∙ f))

pub not-true : (a : Bool) → not a ≡ true → a ≡ false
not-true true e = sym e
not-true false e = refl

pub or_true : (a : Bool) → (a || true) ≡ true
or_true true = refl
or_true false = refl

pub and_false : (a : Bool) → (a && false) ≡ false
and_false true = refl
and_false false = refl

pub and_left : (a b : Bool) → (a && b) ≡ true → a ≡ true
and_left true b e = refl
and_left false b e = e

pub and_right : (a b : Bool) → (a && b) ≡ true → b ≡ true
and_right true b e = e
and_right false b e = absurd (true≢false (sym e))

pub or_cases : (a b : Bool) → (a || b) ≡ true → (a ≡ true) ⊎ (b ≡ true)
or_cases true b e = inl refl
or_cases false b e = inr e

pub or-false : (a b : Bool) → (a || b) ≡ false → (a ≡ false) × (b ≡ false)
or-false true b e = absurd (true≢false e)
or-false false b e = (refl, e)

-- a number between two others
pub low : (lo hi n : ℕ) → between lo hi n ≡ true → lo ≤ n
low lo hi n e = leb-true lo n (and_left (leb lo n) (leb n hi) e)

pub high : (lo hi n : ℕ) → between lo hi n ≡ true → n ≤ hi
high lo hi n e = leb-true n hi (and_right (leb lo n) (leb n hi) e)

pub is_between : (lo hi n : ℕ) → lo ≤ n → n ≤ hi → between lo hi n ≡ true
is_between lo hi n l h = rw (le-leb lo n l, le-leb n hi h) refl

-- 0, so this test did not lead to its refusal, and no later one did
pub unrefused : (b : Bool) (n rest : ℕ) → (if b then suc n else rest) ≡ 0 → (b ≡ false) × (rest ≡ 0)
unrefused true n rest e = absurd (some e)
  where
    some : suc n ≡ 0 → ⊥
    some z = omega arith
unrefused false n rest e = (refl, e)

-- accepted, so the one test did not fail
pub zero_if : (b : Bool) (n : ℕ) → eqb (if b then 0 else suc n) 0 ≡ true → b ≡ true
zero_if true n e = refl
zero_if false n e = absurd (false≢true (sym (eqb-suc-zero n) ∙ e))

-- what holds below a place and at it holds below the next
pub one_more : (P : ℕ → Type 0) (k : ℕ) → ((j : ℕ) → j < k → P j) → P k → (j : ℕ) → j < k + 1 → P j
one_more P k below at j h = by_test (eqb j k) (λ e. subst P (sym (eqb-true j k e)) at) (λ e. below j (omega (arith, h, eqb-false j k e)))
