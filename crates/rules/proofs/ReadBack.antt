-- A record's line read back: its five fields, each from its columns.
use Prim.Native.Nat.{ℕ, zero, suc, ◌+◌, ◌*◌, ◌/◌, ◌%◌, ◌^◌, ◌≤◌, ◌<◌}
use mathlib.Core.Path.{◌≡◌, refl, ap, sym, ◌∙◌}
use mathlib.Core.List.{List, [], ◌∷◌, ◌++◌, append_assoc}
use native.Mathlib.Omega.{arith}
use lib.Dec.{ltb}
use lib.ListN.{length, get_or, take, drop}
use lib.Seq.{take_at, drop-append-add, get_or-drop}
use borrow.Author.Tests.{lt-ltb, le-ltb, ltb-true, ltb-false}
use Rattle.rules.specs.Printout.{blank, line_feed, digit, decimal, hexadecimal}
use Rattle.rules.specs.Pages.{blanks, left_in, right_in, state_names, state_name, record_columns}
use Rattle.rules.specs.Laws.{number, RecordBytes}
use Rattle.rules.specs.PageLaws.{digit_read, same, name_read, line_read}
use Rattle.rules.proofs.Tests.{by_test}
use Rattle.rules.proofs.Digits.{few_digits, decimal_digits}
use Rattle.rules.proofs.Pages.{length_left, length_right}

-- ---- one field

-- a number behind blanks
number_blanks : (w : ℕ) (text : List ℕ) → number 0 (blanks w ++ text) ≡ number 0 text
unfolding number
number_blanks zero text = refl
number_blanks (suc w) text = number_blanks w text

number_right : (k w : ℕ) (text : List ℕ) → k ≤ w → number 0 (drop k (blanks w ++ text)) ≡ number 0 text
number_right zero w text h = number_blanks w text
number_right (suc k) zero text h = absurd (omega arith)
number_right (suc k) (suc w) text h = number_right k w text (omega arith)

read_number : (k n : ℕ) → n < 10 ^ suc k → number 0 (right_in (suc k) (decimal n)) ≡ n
unfolding right_in
read_number k n h = number_right (length (decimal n)) (suc k) (decimal n) (few_digits k n h) ∙ decimal_digits n

read_digit : (d : ℕ) → d < 16 → digit_read (digit d) ≡ d
unfolding digit digit_read
read_digit d h =
    by_test (ltb d 10)
    (λ t. let small = ltb-true d 10 t in rw (t, lt-ltb (48 + d) 97 (omega arith)) (omega arith))
    (λ t. let large = ltb-false d 10 t in rw (t, le-ltb (87 + d) 97 (omega arith)) (omega arith))

read_name : (k : ℕ) → k ≤ 5 → name_read (left_in 12 (state_name k)) state_names ≡ k
unfolding name_read same left_in state_name
read_name zero h = refl
read_name (suc zero) h = refl
read_name (suc (suc zero)) h = refl
read_name (suc (suc (suc zero))) h = refl
read_name (suc (suc (suc (suc zero)))) h = refl
read_name (suc (suc (suc (suc (suc zero))))) h = refl
read_name (suc (suc (suc (suc (suc (suc k)))))) h = absurd (omega arith)

-- ---- the fields of a line

regroup : (a b c d e f : List ℕ) → ((((a ++ b) ++ c) ++ d) ++ e) ++ f ≡ a ++ (b ++ (c ++ (d ++ (e ++ f))))
regroup a b c d e f = simp append_assoc

-- what stands behind a field of w columns and its blank
past : (w k : ℕ) (x y : List ℕ) → length x ≡ w → drop (w + suc k) (x ++ blank ∷ y) ≡ drop k y
past w k x y e = rw (← e) (drop-append-add x (blank ∷ y) (suc k))

-- the line of five fields, of which the last has two columns
abbrev line_of : List ℕ → List ℕ → List ℕ → List ℕ → ℕ → ℕ → List ℕ
line_of a b c d high low = (a ++ blank ∷ b ++ blank ∷ c ++ blank ∷ d ++ blank ∷ high ∷ low ∷ []) ++ line_feed ∷ []

record Fields (a b c d : List ℕ) (high low : ℕ) (line : List ℕ) : Type 0 where
  index : take 5 line ≡ a
  state : take 12 (drop 6 line) ≡ b
  selected : take 2 (drop 19 line) ≡ c
  refusal : take 2 (drop 22 line) ≡ d
  first : get_or line 25 0 ≡ high
  second : get_or line 26 0 ≡ low

fields_of : (a b c d : List ℕ) (high low : ℕ) → length a ≡ 5 → length b ≡ 12 → length c ≡ 2 → length d ≡ 2 → Fields a b c d high low (line_of a b c d high low)
fields_of a b c d high low p q r s =
    let fifth = high ∷ low ∷ line_feed ∷ [] in
    let fourth = d ++ blank ∷ fifth in
    let third = c ++ blank ∷ fourth in
    let second = b ++ blank ∷ third in
    let flat : line_of a b c d high low ≡ a ++ blank ∷ second =
    regroup a (blank ∷ b) (blank ∷ c) (blank ∷ d) (blank ∷ high ∷ low ∷ []) (line_feed ∷ []) in
    let at6 : drop 6 (a ++ blank ∷ second) ≡ second = past 5 0 a second p in
    let at19 : drop 19 (a ++ blank ∷ second) ≡ third = past 5 13 a second p ∙ past 12 0 b third q in
    let at22 : drop 22 (a ++ blank ∷ second) ≡ fourth = past 5 16 a second p ∙ past 12 3 b third q ∙ past 2 0 c fourth r in
    let at25 : drop 25 (a ++ blank ∷ second) ≡ fifth = past 5 19 a second p ∙ past 12 6 b third q ∙ past 2 3 c fourth r ∙ past 2 0 d fifth s in
    rw flat
    (record {
      index = take_at a (blank ∷ second) 5 p;
      state = rw at6 (take_at b (blank ∷ third) 12 q);
      selected = rw at19 (take_at c (blank ∷ fourth) 2 r);
      refusal = rw at22 (take_at d (blank ∷ fifth) 2 s);
      first = sym (get_or-drop 25 (a ++ blank ∷ second) 0 0) ∙ ap (λ (l : List ℕ). get_or l 0 0) at25;
      second = sym (get_or-drop 25 (a ++ blank ∷ second) 1 0) ∙ ap (λ (l : List ℕ). get_or l 1 0) at25;
    })

pub read_line : (index : ℕ) (r : List ℕ) → index < 100_000 → RecordBytes r
    → line_read (record_columns index r ++ line_feed ∷ [])
    ≡ record { index = index; state = get_or r 1 0 / 16; selected = get_or r 1 0 % 16; refusal = get_or r 0 0; status = get_or r 3 0 }
unfolding line_read record_columns hexadecimal
read_line index r small b =
    let byte = get_or r 3 0 in
    let f = fields_of (right_in 5 (decimal index)) (left_in 12 (state_name (get_or r 1 0 / 16))) (right_in 2 (decimal (get_or r 1 0 % 16))) (right_in 2 (decimal (get_or r 0 0)))
    (digit (byte / 16 % 16)) (digit (byte % 16)) (length_right 5 _) (length_left 12 _) (length_right 2 _) (length_right 2 _) in
    let status : 16 * (byte / 16 % 16) + byte % 16 ≡ byte = omega (arith, b.status_lt) in
    rw (
      f.index,
      f.state,
      f.selected,
      f.refusal,
      f.first,
      f.second,
      read_number 4 index small,
      read_name (get_or r 1 0 / 16) b.state_le,
      read_number 1 (get_or r 1 0 % 16) (omega arith),
      read_number 1 (get_or r 0 0) (omega (arith, b.refusal_le)),
      read_digit (byte / 16 % 16) (omega arith),
      read_digit (byte % 16) (omega arith),
      status,
    ) refl
