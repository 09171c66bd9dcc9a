-- Tests of every row of a table, and what they say of the map of registers.
use Prim.Native.Nat.{ℕ, zero, suc, ◌≤◌, ◌<◌}
use mathlib.Core.Path.{◌≡◌, refl}
use mathlib.Core.Bool.{Bool, true, false, ◌&&◌, and-eq-true_iff}
use mathlib.Core.List.{List, [], ◌∷◌}
use native.Mathlib.Omega.{arith}
use lib.Dec.{leb, ltb, eqb}
use lib.ListN.{length, get_or}
use borrow.Author.Tests.{leb-true, lt-leb, ltb-true, ltb-false, eqb-true}
use Rattle.rules.specs.Words.{every}
use Rattle.rules.specs.Registers.{Register, registers, reads, slot, in_map, register, largest}
use Rattle.rules.specs.Laws.{Map}
use Rattle.rules.proofs.Tests.{by_test, clash, and_false}

-- a test that every element passes, and the default if the index is past the end, the element at an index passes
pub at_index : {A : Type 0} (test : A → Bool) (l : List A) (d : A) → every test l ≡ true → (i : ℕ) → (length l ≤ i → test d ≡ true) → test (get_or l i d) ≡ true
at_index test [] d e i f = f (omega arith)
at_index test (x ∷ xs) d e zero f = ((and-eq-true_iff (test x) (every test xs)).0 e).0
at_index test (x ∷ xs) d e (suc i) f = at_index test xs d ((and-eq-true_iff (test x) (every test xs)).0 e).1 i (λ past. f (omega (arith, past)))

-- and a list whose elements all pass a test
pub all_pass : {A : Type 0} (test : A → Bool) (l : List A) (d : A) → ((i : ℕ) → i < length l → test (get_or l i d) ≡ true) → every test l ≡ true
all_pass test [] d f = refl
all_pass test (x ∷ xs) d f = rw (f 0 (omega arith)) (all_pass test xs d (λ i h. f (suc i) (omega (arith, h))))

-- every number below a bound passes a test
abbrev pub every_below : (ℕ → Bool) → ℕ → Bool
every_below test zero = true
every_below test (suc n) = test 0 && every_below (λ k. test (suc k)) n

-- a test that every number below a bound passes, each passes
pub at_below : (test : ℕ → Bool) (n : ℕ) → every_below test n ≡ true → (k : ℕ) → k < n → test k ≡ true
at_below test zero e k h = absurd (omega arith)
at_below test (suc n) e zero h = ((and-eq-true_iff (test 0) (every_below (λ k. test (suc k)) n)).0 e).0
at_below test (suc n) e (suc k) h =
    at_below (λ k. test (suc k)) n ((and-eq-true_iff (test 0) (every_below (λ k. test (suc k)) n)).0 e).1 k (omega arith)

-- ---- the map of registers

-- no address past the last has a slot
past_map : (a : ℕ) → 0x4f ≤ a → in_map a ≡ false
unfolding in_map slot
past_map a h = rw (lt-leb a 0x27 (omega arith), lt-leb a 0x4e (omega arith), and_false (leb 0x1c a), and_false (leb 0x40 a)) refl

-- each address of the map is that of the row at its slot
pub map_slots : Map
unfolding register slot registers
map_slots a m =
    by_test (ltb a 0x4f)
    (λ e. eqb-true (register a).address a (at_below (λ k. eqb (register k).address k) 0x4f refl a (ltb-true a 0x4f e)))
    (λ e. clash m (past_map a (ltb-false a 0x4f e)))

-- Largest is a byte
pub largest_byte : (a : ℕ) → largest a ≤ 255
unfolding largest register registers
largest_byte a = leb-true (register a).largest 255 (at_index (λ (r : Register). leb r.largest 255) registers (reads a) refl (slot a) (λ past. refl))
