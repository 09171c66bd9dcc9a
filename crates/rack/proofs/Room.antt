-- The rack program's output has room for every text: at most 13 bytes for the first line, and at most 16 for each of 8,383 records.
use Prim.Native.Nat.{ℕ, zero, suc, ◌+◌, ◌*◌, ◌/◌, ◌≤◌, ◌<◌}
use mathlib.Core.Path.{◌≡◌, refl}
use mathlib.Core.List.{List}
use native.Mathlib.Omega.{arith}
use lib.ListN.{length, get_or, drop, length-append}
use lib.Seq.{drop-drop}
use Rattle.rules.specs.Printout.{hexadecimal, records_word, refused_word, head_line, record_line, record_lines}
use Rattle.rules.specs.Sheet.{record_count, check, front}
use Rattle.rules.proofs.Digits.{few_digits}
use Rattle.rules.proofs.Sheets.{outputs}
use Rattle.rules.proofs.RecordBytes.{each_record}
use Rattle.text.specs.Text.{records_text}

-- a first line: 8 letters, the digits, a line feed
head_room : (word : List ℕ) (n : ℕ) → length word ≡ 8 → n < 10_000 → length (head_line word n) ≤ 13
unfolding head_line
head_room word n e h = simp length-append (omega (arith, few_digits 3 n h))

pub refusal_room : (n : ℕ) → n < 256 → length (head_line refused_word n) ≤ 13
unfolding refused_word
refusal_room n h = head_room refused_word n refl (omega arith)

line_room : (i : ℕ) (r : List ℕ) → i < 10_000 → get_or r 0 0 ≤ 8 → length (record_line i r) ≤ 16
unfolding record_line hexadecimal
line_room i r h small = simp length-append (omega (arith, few_digits 3 i h, few_digits 0 (get_or r 0 0) (omega arith)))

lines_room : (k i : ℕ) (l : List ℕ) → i + k ≤ 10_000 → ((j : ℕ) → j < k → get_or (drop (4 * j) l) 0 0 ≤ 8) → length (record_lines k i l) ≤ 16 * k
unfolding record_lines
lines_room zero i l h small = omega arith
lines_room (suc k) i l h small =
    let rest : (j : ℕ) → j < k → get_or (drop (4 * j) (drop 4 l)) 0 0 ≤ 8 = λ j below.
    let four : 4 + 4 * j ≡ 4 * suc j = omega arith in
    rw (drop-drop (4 * j) 4 l, four) (small (suc j) (omega arith)) in
    simp length-append (omega (arith, line_room i l (omega arith) (small 0 (omega arith)), lines_room k (i + 1) (drop 4 l) (omega arith) rest))

pub records_room : (s out : List ℕ) → length out ≡ 33_532 → check s (length out) ≡ 0 → length (records_text (front s (length out))) ≤ 151_000
unfolding records_text records_word
records_room s out room e =
    let f = front s (length out) in
    let fits = outputs s out e in
    let count : length f / 4 ≡ record_count s = omega (arith, fits.written) in
    let few : record_count s ≤ 8_383 = omega (arith, fits.within) in
    let lines = lines_room (record_count s) 0 f (omega arith) (λ j h. (each_record s (length out) j e h).refusal_le) in
    let head = head_room records_word (record_count s) refl (omega arith) in
    rw count (omega (arith, length-append (head_line records_word (record_count s)) (record_lines (record_count s) 0 f)))
