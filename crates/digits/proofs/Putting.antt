-- Texts put one after the other.
use Prim.Native.Nat.{ℕ, suc, ◌+◌, ◌-◌, ◌≤◌, min}
use mathlib.Core.Path.{◌≡◌, refl, ap, sym, ◌∙◌}
use mathlib.Core.List.{List, [], ◌∷◌, ◌++◌}
use native.Mathlib.Nat.{add-zero, zero-add}
use native.Mathlib.Omega.{arith}
use lib.Dec.{leb}
use lib.ListN.{length, drop, set, length-append}
use lib.Seq.{sets, length-sets, set_out, sets-eq}
use borrow.Author.Tests.{leb-true, leb-false}
use Rattle.rules.specs.Sheet.{over}
use Rattle.rules.proofs.Tests.{by_test}
use Rattle.digits.specs.Puts.{Puts}

-- stores past the end change nothing
sets_out : (l : List ℕ) (at : ℕ) (x : List ℕ) → length l ≤ at → sets l at x ≡ l
sets_out l at [] h = refl
sets_out l at (a ∷ x) h = ap (λ m. sets m (suc at) x) (set_out l at a h) ∙ sets_out l (suc at) x (omega arith)

pub sets_append : (x y l : List ℕ) (at : ℕ) → sets l at (x ++ y) ≡ sets (sets l at x) (at + length x) y
sets_append [] y l at = ap (λ n. sets l n y) (sym (add-zero at))
sets_append (a ∷ x) y l at = sets_append x y (set l at a) (suc at) ∙ ap (λ n. sets (sets (set l at a) (suc at) x) n y) (omega arith)

pub nothing : {l : List ℕ} {at : ℕ} → Puts [] at l at l
nothing {l} {at} = record { ends = omega arith; stored = refl }

pub same_length : {x before after : List ℕ} {at next : ℕ} → Puts x at before next after → length after ≡ length before
same_length {x} {before} {after} {at} p = ap length p.stored ∙ length-sets before at x

-- from the place that x was put up to, or from the one where it ends: y is stored alike
behind : (x y l : List ℕ) (at : ℕ) → sets (sets l at x) (at + min (length x) (length l - at)) y ≡ sets (sets l at x) (at + length x) y
behind x y l at =
    let same = length-sets l at x in
    by_test (leb (at + length x) (length l))
    (λ t. let h = leb-true (at + length x) (length l) t in ap (λ n. sets (sets l at x) n y) (omega arith))
    (λ t.
    let h = leb-false (at + length x) (length l) t in
    sets_out (sets l at x) _ y (omega arith) ∙ sym (sets_out (sets l at x) _ y (omega arith)))

-- y after x
pub then :
    {x y before between after : List ℕ} {at next end : ℕ}
    → Puts x at before next between → Puts y next between end after
    → Puts (x ++ y) at before end after
then {x} {y} {before} {between} {after} {at} {next} {end} p q =
    let same = same_length p in
    record {
      ends = omega (arith, p.ends, q.ends, length-append x y);
      stored = q.stored ∙ (λ j. sets (p.stored j) (p.ends j) y) ∙ behind x y before at ∙ sym (sets_append x y before at);
    }

-- a text at the front, where there is room for it
pub sets_front : (text before : List ℕ) → length text ≤ length before → sets before 0 text ≡ over text before
sets_front text before h = sets-eq text before 0 (omega arith) ∙ ap (λ n. text ++ drop n before) (zero-add (length text))

pub from_front :
    {text before after : List ℕ} {next : ℕ}
    → length text ≤ length before → Puts text 0 before next after
    → (next ≡ length text) × (after ≡ over text before)
from_front {text} {before} h p = (omega (arith, p.ends), p.stored ∙ sets_front text before h)
