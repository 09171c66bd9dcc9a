-- The sum so far and the next one fit, and the library's quotient is the rule's.
use Rattle.std.proofs.Common.{arith, ◌≡◌, ◌≤◌, ◌*◌, ℕ, zero, suc, ℤ, pos, negsuc, Option, None, Some, List, to_z, of_z, w64, get_or, take, FitsSigned, refl, rules, min, ◌∙◌, ◌*ℤ◌}
use Rattle.std.proofs.lemmas.Int.{ints, quot_fits}
use Rattle.std.specs.Int.{CanDivide, int_div_euclid}
use Rattle.std.specs.Int.Signed.{shr_z}
use Rattle.std.specs.Option.{SomeIff, unwrap_or}
use mir.Facts.{to_z-of_z}
use Rattle.rules.specs.History.{sum_of, value}
use Rattle.history.specs.Bridge.{first_sums}
use Rattle.history.proofs.Kept.{sum_more, sum_fits, first_take, kept_length}
use Rattle.value.proofs.value.Goals as goal

pub loop-s-init : goal.loop-s-init
unfolding sum_of first_sums
loop-s-init c = refl

pub overflow_add-sum : goal.overflow_add-sum
overflow_add-sum c =
    let items = take c.from.result c.args.sums.now in
    let f : FitsSigned w64 (get_or items c.loop-s.s-index (pos 0)) = search rules in
    grind (arith, to_z-of_z, sum_more items c.loop-s.s-index, sum_fits items (suc c.loop-s.s-index) (omega arith))

pub loop-s-preserved : goal.loop-s-preserved
loop-s-preserved c =
    let items = take c.from.result c.args.sums.now in
    let f : FitsSigned w64 (get_or items c.loop-s.s-index (pos 0)) = search rules in
    grind (arith, to_z-of_z, sum_more items c.loop-s.s-index, sum_fits items (suc c.loop-s.s-index) (omega arith))

-- the library's quotient is the rule's
floor : (z : ℤ) (n : ℕ) → int_div_euclid z (pos n) ≡ shr_z z n
floor (pos a) n = refl
floor (negsuc a) n = refl

-- the mean of n blocks, or of none
mean : (sums : List ℤ) (n : ℕ) (q : Option ℤ) → n ≤ 64
    → SomeIff q (CanDivide w64 (sum_of (first_sums n sums)) (pos (128 * n))) (int_div_euclid (sum_of (first_sums n sums)) (pos (128 * n)))
    → unwrap_or q (pos 0) ≡ shr_z (sum_of (first_sums n sums)) (128 * n)
unfolding sum_of first_sums
mean sums n (Some x) h e = e.1 ∙ floor (sum_of (first_sums n sums)) (128 * n)
mean sums zero None h e = refl
mean sums (suc n) None h e = absurd (e (omega arith, quot_fits w64 (sum_of (first_sums (suc n) sums)) (pos (128 * suc n)) (sum_fits sums (suc n) h) (search rules)))

pub returns : goal.returns
unfolding value
returns c building backup =
    let sums = c.args.sums.now in
    let n = min c.args.t.count 64 in
    let sum : to_z w64 c.loop-s.sum-bits ≡ sum_of (first_sums n sums) = grind (arith, first_take n n sums (omega arith)) in
    let samples : to_z w64 (of_z w64 (pos 128 *ℤ to_z w64 (of_z w64 c.from-2.result))) ≡ pos (128 * n) = grind (arith, ints) in
    let m = mean sums n c.checked_div_euclid.result (omega arith) (rw (sum, samples) at c.checked_div_euclid.ensures) in
    rw (kept_length sums c.args.t.count) (grind (arith, to_z-of_z))
