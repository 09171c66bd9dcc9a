-- A table byte by byte: byte k is that of the map's register at slot k, and the command stands at slot 10.
use Rattle.std.proofs.Common.{◌≡◌, ℕ, suc, ◌<◌, Bool, List, [], ◌∷◌, leb, eqb, length, get_or, refl, ◌∙◌, zero-add, arith}
use Rattle.std.specs.List.{list_all, enumerate_from}
use Rattle.std.proofs.lemmas.List.FromFn.{length-enumerate_from, get_or-enumerate_from}
use Rattle.std.specs.Cmp.{booleans_Decides}
use mathlib.Core.Bool.{beq}
use lib.Dec.{ltb}
use lib.ListN.{get_or-eq_default}
use borrow.Author.Tests.{eqb-true, ne_eqb, ltb-true, ltb-false}
use Rattle.rules.specs.Words.{every}
use Rattle.rules.specs.Registers.{Register, registers, reads, slot, settings_from}
use Rattle.rules.specs.Loading.{most, fits}
use Rattle.rules.proofs.Tests.{by_test}
use Rattle.rules.proofs.Tables.{at_below}

-- the register at a slot; past the map, one that is read only
abbrev at : ℕ → Register
at k = get_or registers k (reads 0)

own_slot : (k : ℕ) → k < 27 → slot (at k).address ≡ k
unfolding registers slot
own_slot k h = eqb-true (slot (at k).address) k (at_below (λ j. eqb (slot (at j).address) j) 27 refl k h)

-- the command's address stands at slot 10 alone
pub command_here : (k : ℕ) → eqb (at k).address 0x26 ≡ eqb k 10
unfolding registers
command_here k =
    by_test (ltb k 27)
    (λ e. (booleans_Decides _ _).0 (at_below (λ j. beq (eqb (at j).address 0x26) (eqb j 10)) 27 refl k (ltb-true k 27 e)))
    (λ e. rw (get_or-eq_default registers (reads 0) {n = k} (ltb-false k 27 e), ne_eqb k 10 (omega (arith, ltb-false k 27 e))) refl)

-- two lists whose elements pass their tests in the same places
same_tests : {A B : Type 0} (p : A → Bool) (q : B → Bool) (xs : List A) (ys : List B) (d : A) (e : B)
    → length xs ≡ length ys → ((k : ℕ) → k < length ys → p (get_or xs k d) ≡ q (get_or ys k e)) → list_all p xs ≡ every q ys
same_tests p q [] [] d e l f = refl
same_tests p q [] (y ∷ ys) d e l f = absurd (omega arith)
same_tests p q (x ∷ xs) [] d e l f = absurd (omega arith)
same_tests p q (x ∷ xs) (y ∷ ys) d e l f =
    rw (f 0 (omega arith), same_tests p q xs ys d e (omega arith) (λ k h. f (suc k) (omega arith))) refl

-- each byte passes the test of its slot where the table fits each register
pub all_small : (table : List ℕ) → length table ≡ 27
    → list_all (λ p. leb p.1 (most (at p.0))) (enumerate_from 0 table) ≡ every (fits table) registers
unfolding registers fits settings_from
all_small table l =
    same_tests _ (fits table) (enumerate_from 0 table) registers (0, 0) (reads 0) (length-enumerate_from 0 table ∙ l)
    (λ k h. rw (get_or-enumerate_from 0 table k (0, 0) (omega arith), zero-add k, own_slot k h) refl)
