-- The digits of a number: the last one, how many there are, and the number read back from them.
use Prim.Native.Nat.{ℕ, zero, suc, ◌+◌, ◌-◌, ◌*◌, ◌/◌, ◌%◌, ◌^◌, ◌≤◌, ◌<◌}
use mathlib.Core.Path.{◌≡◌, refl, ap, ◌∙◌}
use mathlib.Core.List.{List, [], ◌∷◌, ◌++◌}
use native.Mathlib.Numerals.{add-one}
use native.Mathlib.Omega.{arith}
use lib.Dec.{ltb}
use lib.ListN.{length, length-append}
use borrow.Author.Tests.{lt-ltb, le-ltb, ltb-true, ltb-false}
use Rattle.rules.specs.Printout.{digit, decimal_in, decimal}
use Rattle.rules.specs.Laws.{number, Decimal}
use Rattle.rules.proofs.Tests.{by_test, if_case}

-- any fuel above the number gives the same digits
same_digits : (fuel other n : ℕ) → n < fuel → n < other → decimal_in fuel n ≡ decimal_in other n
unfolding decimal_in
same_digits zero other n h k = absurd (omega arith)
same_digits (suc fuel) zero n h k = absurd (omega arith)
same_digits (suc fuel) (suc other) n h k =
    by_test (ltb n 10) (λ t. rw t refl)
    (λ t. rw (t, same_digits fuel other (n / 10) (omega (arith, ltb-false n 10 t)) (omega (arith, ltb-false n 10 t))) refl)

pub one_digit : (n : ℕ) → n < 10 → decimal n ≡ digit n ∷ []
unfolding decimal decimal_in
one_digit n h = rw (add-one n, lt-ltb n 10 h) refl

pub last_digit : (n : ℕ) → 10 ≤ n → decimal n ≡ decimal (n / 10) ++ digit (n % 10) ∷ []
unfolding decimal decimal_in
last_digit n h = rw (add-one n, le-ltb n 10 h, same_digits n (n / 10 + 1) (n / 10) (omega arith) (omega arith)) refl

one_more : (n : ℕ) → 10 ≤ n → length (decimal n) ≡ length (decimal (n / 10)) + 1
one_more n h = ap length (last_digit n h) ∙ length-append (decimal (n / 10)) (digit (n % 10) ∷ [])

-- a number below a power of 10 has at most as many digits as the exponent
pub few_digits : (k n : ℕ) → n < 10 ^ suc k → length (decimal n) ≤ suc k
few_digits zero n h = omega (arith, ap length (one_digit n h))
few_digits (suc k) n h =
    by_test (ltb n 10) (λ t. omega (arith, ap length (one_digit n (ltb-true n 10 t))))
    (λ t. omega (arith, one_more n (ltb-false n 10 t), few_digits k (n / 10) (omega arith)))

-- ---- read back

-- one digit more at the end
number_snoc : (n : ℕ) (ds : List ℕ) (d : ℕ) → number n (ds ++ d ∷ []) ≡ 10 * number n ds + (d - 48)
unfolding number
number_snoc n [] d = refl
number_snoc n (x ∷ ds) d = number_snoc (10 * n + (x - 48)) ds d

digit_value : (d : ℕ) → d < 10 → digit d - 48 ≡ d
unfolding digit
digit_value d h = rw (lt-ltb d 10 h) (omega arith)

decimal_in_reads : (fuel n : ℕ) → n < fuel → number 0 (decimal_in fuel n) ≡ n
unfolding decimal_in number
decimal_in_reads zero n h = omega arith
decimal_in_reads (suc fuel) n h =
    if_case (λ ds. number 0 ds ≡ n) (ltb n 10) (λ t. omega (arith, digit_value n (ltb-true n 10 t)))
    (λ t. number_snoc 0 (decimal_in fuel (n / 10)) (digit (n % 10))
    ∙ omega (arith, decimal_in_reads fuel (n / 10) (omega (arith, ltb-false n 10 t)), digit_value (n % 10) (omega arith)))

pub decimal_digits : Decimal
unfolding decimal
decimal_digits n = decimal_in_reads (n + 1) n (omega arith)
