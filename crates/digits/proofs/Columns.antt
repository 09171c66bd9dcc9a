-- Digits written from the last to the first into columns that are blank.
use Rattle.std.proofs.Common.{ℕ, zero, suc, ◌+◌, ◌-◌, ◌^◌, ◌/◌, ◌%◌, ◌<◌, ◌≤◌, ◌≡◌, refl, ap, sym, ◌∙◌, List, [], ◌∷◌, ◌++◌, append_assoc, append-nil, length, take, take_all, drop, drop_at, drop-drop, drop_of_length-le, set, add-one, arith}
use Rattle.std.proofs.lemmas.List.{drop-append-le, length-append, length-replicate}
use Rattle.rules.specs.Printout.{blank, digit, decimal}
use Rattle.rules.specs.Pages.{blanks, right_in}
use Rattle.rules.proofs.Digits.{one_digit, last_digit, few_digits}

-- the digits of `rest` are left to write in the first i columns, and those behind them stand in the others
pub record Written (all : List ℕ) (n width i rest : ℕ) (columns : List ℕ) : Type 0 where
  pub tail : List ℕ
  pub stands : columns ≡ blanks i ++ tail
  pub left : all ≡ right_in i (decimal rest) ++ tail
  pub digits : decimal n ≡ decimal rest ++ tail
  pub long : i + length tail ≡ width

pub none_written : (width n : ℕ) (columns : List ℕ) → columns ≡ blanks width → Written (right_in width (decimal n)) n width width n columns
none_written width n columns e = record { tail = []; stands = e ∙ sym (append-nil (blanks width)); left = sym (append-nil (right_in width (decimal n))); digits = sym (append-nil (decimal n)); long = omega arith }

-- a digit in the last blank column
write_at : (i d : ℕ) (tail : List ℕ) → set (blanks (suc i) ++ tail) i d ≡ blanks i ++ d ∷ tail
write_at zero d tail = refl
write_at (suc i) d tail = ap (λ (l : List ℕ). blank ∷ l) (write_at i d tail)

-- a text with a digit behind it
right_more : (i d : ℕ) (text : List ℕ) → right_in (suc i) (text ++ d ∷ []) ≡ right_in i text ++ d ∷ []
unfolding right_in
right_more i d text =
    rw (length-append text (d ∷ []), add-one (length text), ← append_assoc (blanks i) text (d ∷ []))
    (drop-append-le (length text) (blanks i ++ text) (d ∷ []) (omega (arith, length-append (blanks i) text)))

module _ {all columns : List ℕ} {n width i k rest : ℕ} (last : i ≡ suc k) (w : Written all n width i rest columns) where
  -- the last digit in the last blank column
  one_more : (front : List ℕ) (d : ℕ) → decimal rest ≡ front ++ d ∷ []
      → (set columns k d ≡ blanks k ++ d ∷ w.tail) × (all ≡ right_in k front ++ d ∷ w.tail) × (decimal n ≡ front ++ d ∷ w.tail)
  one_more front d e = (
    rw (w.stands, last) (write_at k d w.tail),
    w.left ∙ rw (e, last, right_more) (append_assoc (right_in k front) (d ∷ []) w.tail),
    w.digits ∙ rw e (append_assoc front (d ∷ []) w.tail),
  )

  one_longer : (d : ℕ) → k + length (d ∷ w.tail) ≡ width
  one_longer d = omega (arith, w.long, last)

  pub one_written : 10 ≤ rest → Written all n width k (rest / 10) (set columns k (digit (rest % 10)))
  one_written more =
      let d = digit (rest % 10) in
      let e = one_more (decimal (rest / 10)) d (last_digit rest more) in
      record { tail = d ∷ w.tail; stands = e.0; left = e.1; digits = e.2; long = one_longer d }

  -- no digit is left
  pub all_written : rest < 10 → set columns k (digit (rest % 10)) ≡ all
  unfolding right_in
  all_written h =
      let one : rest % 10 ≡ rest = omega arith in
      let e = one_more [] (digit rest) (one_digit rest h) in
      rw (one, e.0, e.1, append-nil) refl

  pub first_at : rest < 10 → k ≡ width - length (decimal n)
  first_at h = omega (arith, ap length (one_more [] (digit rest) (one_digit rest h)).2, one_longer (digit rest))

-- no column is left
pub columns_full : {all columns : List ℕ} {n width i rest : ℕ} → i ≤ 0 → Written all n width i rest columns → columns ≡ all
unfolding right_in
columns_full {i = zero} {rest = rest} h w = rw (w.stands, w.left, drop_of_length-le (decimal rest) {i = length (decimal rest)} (omega arith)) refl
columns_full {i = suc k} h w = absurd (omega arith)

pub none_before : {all columns : List ℕ} {n width i rest : ℕ} → i ≤ 0 → Written all n width i rest columns → 0 ≡ width - length (decimal n)
none_before {rest = rest} h w = omega (arith, ap length w.digits, length-append (decimal rest) w.tail, w.long)

-- ---- a number of the machine

-- it has at most 20 digits
pub twenty : (n : ℕ) → n < 2 ^ 64 → length (decimal n) ≤ 20
twenty n h = few_digits 19 n (omega arith)

-- from the column of the first digit on stand the digits alone
pub from_start : (width start : ℕ) (columns text : List ℕ) → columns ≡ right_in width text → start ≡ width - length text → length text ≤ width
    → take (width - start) (drop start columns) ≡ text
unfolding right_in
from_start width start columns text e s h =
    let all : length text + start ≡ width = omega arith in
    let room : length text ≤ width - start = omega arith in
    rw (e, drop-drop start (length text) (blanks width ++ text), all, drop_at (blanks width) text width (length-replicate width blank)) (take_all (width - start) text room)
