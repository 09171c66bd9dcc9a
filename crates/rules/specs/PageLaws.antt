-- Document 02, #101: laws of the printed pages, as statements. The last definition, `PageLaws`, has them all, and is proved in proofs/PageLaws.antt.
use Rattle.std.specs.Prelude.{ℕ, suc, ◌+◌, ◌-◌, ◌*◌, ◌/◌, ◌%◌, ◌≤◌, ◌<◌, ◌≡◌, Bool, true, false, ◌&&◌, List, [], ◌∷◌, ◌++◌, ltb, eqb, length, get_or, take, drop, if◌then◌else◌}
use Rattle.rules.specs.Sheet.{record_count, check, front, over, output_after}
use Rattle.rules.specs.Printout.{line_feed}
use Rattle.rules.specs.Pages.{blanks, left_in, state_names, line_columns, line_bytes, page_lines, page_bytes, page_count, page_line, page, pages_of, print}
use Rattle.rules.specs.Records.{byte_of}
use Rattle.rules.specs.Laws.{number}

-- ---- the layout, for any records

-- from the blank to the tilde
abbrev pub Printable : List ℕ → Type 0
Printable [] = Unit {0}
Printable (b ∷ l) = ((32 ≤ b) × (b ≤ 126)) × Printable l

-- 27 columns that can be printed, and a line feed
pub record Line (line : List ℕ) : Type 0 where
  pub bytes : length line ≡ line_bytes
  pub columns : Printable (take line_columns line)
  pub feed : drop line_columns line ≡ line_feed ∷ []

abbrev pub Lines : Type 0
Lines = (n : ℕ) (records : List ℕ) (j : ℕ) → Line (page_line n records j)

-- a line behind those of the records is blank
abbrev pub Filled : Type 0
Filled = (n : ℕ) (records : List ℕ) (j : ℕ) → n ≤ j → page_line n records j ≡ blanks line_columns ++ line_feed ∷ []

-- 1,400 bytes, 50 lines: page p has the lines from line 50 p on
pub record FullPage (n : ℕ) (records : List ℕ) (p : ℕ) : Type 0 where
  pub bytes : length (page n records p) ≡ page_bytes
  pub line : (k : ℕ) → k < page_lines → take line_bytes (drop (line_bytes * k) (page n records p)) ≡ page_line n records (page_lines * p + k)

abbrev pub FullPages : Type 0
FullPages = (n : ℕ) (records : List ℕ) (p : ℕ) → FullPage n records p

-- n / 50, rounded up
pub record LeastPages (n pages : ℕ) : Type 0 where
  pub enough : n ≤ page_lines * pages
  pub least : (m : ℕ) → n ≤ page_lines * m → pages ≤ m

abbrev pub PageCount : Type 0
PageCount = (n : ℕ) → LeastPages n (page_count n)

-- the text is so many pages, one after the other; "no records, no page"
pub record Text (n : ℕ) (records : List ℕ) : Type 0 where
  pub bytes : length (pages_of n records) ≡ page_bytes * page_count n
  pub pages : (p : ℕ) → p < page_count n → take page_bytes (drop (page_bytes * p) (pages_of n records)) ≡ page n records p
  pub none : n ≡ 0 → pages_of n records ≡ []

abbrev pub Texts : Type 0
Texts = (n : ℕ) (records : List ℕ) → Text n records

-- ---- a line read back

-- a hexadecimal digit's number
unfoldable pub digit_read : ℕ → ℕ
digit_read b = if ltb b 97 then b - 48 else b - 87

-- two columns have the same bytes
unfoldable pub same : List ℕ → List ℕ → Bool
same [] [] = true
same [] (b ∷ m) = false
same (a ∷ l) [] = false
same (a ∷ l) (b ∷ m) = eqb a b && same l m

-- the place of the first of some names that stands in the columns
unfoldable pub name_read : List ℕ → List (List ℕ) → ℕ
name_read columns [] = 0
name_read columns (name ∷ names) = if same columns (left_in 12 name) then 0 else suc (name_read columns names)

-- what a line shows
pub record Shown : Type 0 where
  pub index : ℕ
  pub state : ℕ
  pub selected : ℕ
  pub refusal : ℕ
  pub status : ℕ

-- read from its columns; a blank in front of a number counts as a 0
unfoldable pub line_read : List ℕ → Shown
line_read line =
    record {
      index = number 0 (take 5 line);
      state = name_read (take 12 (drop 6 line)) state_names;
      selected = number 0 (take 2 (drop 19 line));
      refusal = number 0 (take 2 (drop 22 line));
      status = 16 * digit_read (get_or line 25 0) + digit_read (get_or line 26 0);
    }

-- what record i holds: its index, the two digits of 0x48, its refusal, 0x49
abbrev pub shown_by : List ℕ → ℕ → Shown
shown_by records i =
    record {
      index = i;
      state = byte_of records i 1 / 16;
      selected = byte_of records i 1 % 16;
      refusal = byte_of records i 0;
      status = byte_of records i 3;
    }

-- ---- the call

-- the number: the sheet's own, 9 to 13; else 13 if and only if the pages' output is under 1,400 bytes a page
pub record Answered (s records pages : List ℕ) : Type 0 where
  pub own : (check s (length records) ≡ 0 → ⊥) → (print s records pages).number ≡ check s (length records)
  pub short : check s (length records) ≡ 0 → length pages < page_bytes * page_count (record_count s) → (print s records pages).number ≡ 13
  pub long : check s (length records) ≡ 0 → page_bytes * page_count (record_count s) ≤ length pages → (print s records pages).number ≡ 0

abbrev pub PrintNumber : Type 0
PrintNumber = (s records pages : List ℕ) → Answered s records pages

-- the call ran: the records are those of a run, on the standard fresh unit as every sheet's is (`front` in Sheet), and the pages stand over the front of their
-- output; both outputs keep their lengths, and line i of the pages reads as record i of the records
pub record Printed (s records pages : List ℕ) : Type 0 where
  pub records_are : (print s records pages).records ≡ output_after s records
  pub pages_are : (print s records pages).pages ≡ over (pages_of (record_count s) (front s (length records))) pages
  pub records_length : length (print s records pages).records ≡ length records
  pub pages_length : length (print s records pages).pages ≡ length pages
  pub read_back : (i : ℕ) → i < record_count s
      → line_read (take line_bytes (drop (line_bytes * i) (print s records pages).pages)) ≡ shown_by (print s records pages).records i

abbrev pub PrintRan : Type 0
PrintRan = (s records pages : List ℕ) → (print s records pages).number ≡ 0 → Printed s records pages

-- it was refused: both outputs are as they were
pub record Left (s records pages : List ℕ) : Type 0 where
  pub records_kept : (print s records pages).records ≡ records
  pub pages_kept : (print s records pages).pages ≡ pages

abbrev pub PrintRefused : Type 0
PrintRefused = (s records pages : List ℕ) → ((print s records pages).number ≡ 0 → ⊥) → Left s records pages

-- a sheet that runs has at most 8,383 records, and so 168 pages
pub record Most (s : List ℕ) : Type 0 where
  pub records : record_count s ≤ 8_383
  pub pages : page_count (record_count s) ≤ 168

abbrev pub AtMost : Type 0
AtMost = (s : List ℕ) (room : ℕ) → check s room ≡ 0 → Most s

-- ---- all of them

pub record PageLaws : Type 0 where
  pub lines : Lines
  pub filled : Filled
  pub full_pages : FullPages
  pub page_count : PageCount
  pub texts : Texts
  pub print_number : PrintNumber
  pub print_ran : PrintRan
  pub print_refused : PrintRefused
  pub at_most : AtMost
