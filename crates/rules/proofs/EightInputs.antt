-- The list of inputs at one number: after each is altered, and after one is.
use Prim.Native.Nat.{ℕ, zero, suc, ◌+◌, ◌-◌, ◌≤◌, ◌<◌}
use mathlib.Core.Path.{◌≡◌, refl, ap, ◌∙◌}
use mathlib.Core.List.{[], ◌∷◌}
use native.Mathlib.Omega.{arith}
use native.Mathlib.Nat.{not-suc-le-zero, le_of_suc-le-suc}
use lib.Dec.{eqb}
use lib.ListN.{length, get_or, length-set}
use lib.Seq.{get_or-set_same, get_or-set_other}
use borrow.Author.Tests.{eqb-true, eqb-false}
use Rattle.rules.specs.Monitors.{Input, fresh_input}
use Rattle.rules.specs.Inputs.{Inputs, input, altered, each_from}
use Rattle.rules.proofs.Tests.{by_test}

pub length_each : (f : ℕ → Input → Input) (k : ℕ) (l : Inputs) → length (each_from f k l) ≡ length l
unfolding each_from
length_each f k [] = refl
length_each f k (i ∷ is) = ap suc (length_each f (k + 1) is)

pub length_altered : (f : Input → Input) (i : ℕ) (l : Inputs) → length (altered f i l) ≡ length l
unfolding altered
length_altered f i l = length-set l (i - 1) (f (input l i))

at_each : (f : ℕ → Input → Input) (k : ℕ) (l : Inputs) (j : ℕ) → j < length l → get_or (each_from f k l) j fresh_input ≡ f (k + j) (get_or l j fresh_input)
unfolding each_from
at_each f k [] j h = absurd (not-suc-le-zero h)
at_each f k (i ∷ is) zero h = ap (λ (n : ℕ). f n i) (omega arith)
at_each f k (i ∷ is) (suc j) h =
    at_each f (k + 1) is j (le_of_suc-le-suc h) ∙ ap (λ (n : ℕ). f n (get_or is j fresh_input)) (omega arith)

-- each is altered, by its number
pub input_each : (f : ℕ → Input → Input) (r : ℕ) (l : Inputs) → 1 ≤ r → r ≤ length l → input (each_from f 1 l) r ≡ f r (input l r)
input_each f r l lo hi = at_each f 1 l (r - 1) (omega arith) ∙ ap (λ (n : ℕ). f n (input l r)) (omega arith)

-- another is altered
pub input_altered_other : (f : Input → Input) (i r : ℕ) (l : Inputs) → 1 ≤ i → 1 ≤ r → (i ≡ r → ⊥) → input (altered f i l) r ≡ input l r
unfolding altered
input_altered_other f i r l lo lo' ne = get_or-set_other l (i - 1) (r - 1) (f (input l i)) fresh_input (λ e. ne (omega arith))

-- r itself is
pub input_altered_same : (f : Input → Input) (r : ℕ) (l : Inputs) → 1 ≤ r → r ≤ length l → input (altered f r l) r ≡ f (input l r)
unfolding altered
input_altered_same f r l lo hi = get_or-set_same l (r - 1) (f (input l r)) fresh_input (omega arith)

-- what f keeps of an input, an alteration by f of any input keeps of r
pub kept_by_altered : (P : Input → Type 0) (f : Input → Input) (i r : ℕ) (l : Inputs) → 1 ≤ i → 1 ≤ r → r ≤ length l
    → ((x : Input) → P x → P (f x)) → P (input l r) → P (input (altered f i l) r)
kept_by_altered P f i r l lo lo' hi keep p =
    by_test (eqb i r)
    (λ e. rw (eqb-true i r e, input_altered_same f r l lo' hi) (keep (input l r) p))
    (λ e. rw (input_altered_other f i r l lo lo' (eqb-false i r e)) p)
