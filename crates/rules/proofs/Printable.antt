-- Every line has 27 columns that can be printed, and a line feed.
use Prim.Native.Nat.{ℕ, zero, suc, ◌+◌, ◌/◌, ◌%◌, ◌≤◌, ◌<◌}
use mathlib.Core.Path.{◌≡◌, refl, ap, ◌∙◌}
use mathlib.Core.Bool.{Bool, true, ◌&&◌}
use mathlib.Core.List.{List, [], ◌∷◌, ◌++◌}
use native.Mathlib.Omega.{arith}
use lib.Dec.{ltb}
use lib.ListN.{length, get_or, take, drop, length-append}
use lib.Seq.{take_at, drop_at}
use borrow.Author.Tests.{ltb-true}
use Rattle.rules.specs.Words.{between}
use Rattle.rules.specs.Printout.{blank, line_feed, digit, decimal_in, decimal, hexadecimal}
use Rattle.rules.specs.Pages.{blanks, left_in, right_in, state_name, record_columns, line_columns, page_line}
use Rattle.rules.specs.PageLaws.{Printable, Line, Lines}
use Rattle.rules.proofs.Tests.{if_case, low, high, and_left, and_right}
use Rattle.rules.proofs.Pages.{length_columns}

-- a test that computes
printable : List ℕ → Bool
printable [] = true
printable (b ∷ l) = between 32 126 b && printable l

tested : (l : List ℕ) → printable l ≡ true → Printable l
unfolding printable
tested [] e = tt
tested (b ∷ l) e =
    let first = and_left (between 32 126 b) (printable l) e in
    ((low 32 126 b first, high 32 126 b first), tested l (and_right (between 32 126 b) (printable l) e))

-- ---- texts and parts of them

both : (x y : List ℕ) → Printable x → Printable y → Printable (x ++ y)
both [] y p q = q
both (b ∷ x) y p q = (p.0, both x y p.1 q)

front : (k : ℕ) (l : List ℕ) → Printable l → Printable (take k l)
front zero l p = tt
front (suc k) [] p = tt
front (suc k) (b ∷ l) p = (p.0, front k l p.1)

back : (k : ℕ) (l : List ℕ) → Printable l → Printable (drop k l)
back zero l p = p
back (suc k) [] p = tt
back (suc k) (b ∷ l) p = back k l p.1

some_blanks : (k : ℕ) → Printable (blanks k)
some_blanks zero = tt
some_blanks (suc k) = ((omega arith, omega arith), some_blanks k)

-- ---- digits and names

a_digit : (d : ℕ) → d < 16 → (32 ≤ digit d) × (digit d ≤ 126)
unfolding digit
a_digit d h = if_case (λ b. (32 ≤ b) × (b ≤ 126)) (ltb d 10) (λ t. (omega arith, omega arith)) (λ t. (omega arith, omega arith))

digits_in : (fuel n : ℕ) → Printable (decimal_in fuel n)
unfolding decimal_in
digits_in zero n = tt
digits_in (suc fuel) n =
    if_case Printable (ltb n 10) (λ t. (a_digit n (omega (arith, ltb-true n 10 t)), tt))
    (λ t. both (decimal_in fuel (n / 10)) (digit (n % 10) ∷ []) (digits_in fuel (n / 10)) (a_digit (n % 10) (omega arith), tt))

some_digits : (n : ℕ) → Printable (decimal n)
unfolding decimal
some_digits n = digits_in (n + 1) n

two_digits : (n : ℕ) → Printable (hexadecimal n)
unfolding hexadecimal
two_digits n = (a_digit (n / 16 % 16) (omega arith), (a_digit (n % 16) (omega arith), tt))

a_name : (k : ℕ) → Printable (state_name k)
unfolding state_name printable
a_name zero = tested (state_name 0) refl
a_name (suc zero) = tested (state_name 1) refl
a_name (suc (suc zero)) = tested (state_name 2) refl
a_name (suc (suc (suc zero))) = tested (state_name 3) refl
a_name (suc (suc (suc (suc zero)))) = tested (state_name 4) refl
a_name (suc (suc (suc (suc (suc zero))))) = tested (state_name 5) refl
a_name (suc (suc (suc (suc (suc (suc k)))))) = tt

-- ---- columns

left : (width : ℕ) (text : List ℕ) → Printable text → Printable (left_in width text)
unfolding left_in
left width text p = front width (text ++ blanks width) (both text (blanks width) p (some_blanks width))

right : (width : ℕ) (text : List ℕ) → Printable text → Printable (right_in width text)
unfolding right_in
right width text p = back (length text) (blanks width ++ text) (both (blanks width) text (some_blanks width) p)

-- a text, a blank and another text
joined : (x y : List ℕ) → Printable x → Printable y → Printable (x ++ blank ∷ y)
joined x y p q = both x (blank ∷ y) p ((omega arith, omega arith), q)

five : (a b c d e : List ℕ) → Printable a → Printable b → Printable c → Printable d → Printable e
    → Printable (a ++ blank ∷ b ++ blank ∷ c ++ blank ∷ d ++ blank ∷ e)
five a b c d e p q r s t =
    let two = joined a b p q in
    let three = joined (a ++ blank ∷ b) c two r in
    let four = joined (a ++ blank ∷ b ++ blank ∷ c) d three s in
    joined (a ++ blank ∷ b ++ blank ∷ c ++ blank ∷ d) e four t

record_columns_printable : (index : ℕ) (r : List ℕ) → Printable (record_columns index r)
unfolding record_columns
record_columns_printable index r =
    let state = get_or r 1 0 / 16 in
    let number : (width n : ℕ) → Printable (right_in width (decimal n)) = λ width n. right width (decimal n) (some_digits n) in
    five (right_in 5 (decimal index)) (left_in 12 (state_name state)) (right_in 2 (decimal (get_or r 1 0 % 16))) (right_in 2 (decimal (get_or r 0 0))) (hexadecimal (get_or r 3 0))
    (number 5 index) (left 12 (state_name state) (a_name state)) (number 2 (get_or r 1 0 % 16)) (number 2 (get_or r 0 0)) (two_digits (get_or r 3 0))

-- 27 columns and a line feed
whole_line : (columns : List ℕ) → length columns ≡ line_columns → Printable columns → Line (columns ++ line_feed ∷ [])
whole_line columns e p =
    record {
      bytes = length-append columns (line_feed ∷ []) ∙ ap (λ n. n + 1) e;
      columns = rw (take_at columns (line_feed ∷ []) line_columns e) p;
      feed = drop_at columns (line_feed ∷ []) line_columns e;
    }

record_line_printable : (index : ℕ) (r : List ℕ) → Line (record_columns index r ++ line_feed ∷ [])
record_line_printable index r = whole_line (record_columns index r) (length_columns index r) (record_columns_printable index r)

pub lines : Lines
unfolding page_line
lines n records j =
    if_case (λ (columns : List ℕ). Line (columns ++ line_feed ∷ [])) (ltb j n) (λ t. record_line_printable _ _) (λ t. whole_line (blanks line_columns) refl (some_blanks line_columns))
