-- Document 02, #101, "Rack printout for the unit's box": the pages of a run's records, byte by byte, and what the call that runs and prints a sheet leaves.
use Rattle.std.specs.Prelude.{ℕ, zero, suc, ◌+◌, ◌-◌, ◌*◌, ◌/◌, ◌%◌, List, [], ◌∷◌, ◌++◌, ltb, eqb, length, get_or, take, drop, replicate, if◌then◌else◌}
use Rattle.rules.specs.Sheet.{record_count, check, front, over, output_after}
use Rattle.rules.specs.Printout.{ascii, blank, line_feed, decimal, hexadecimal}

-- ---- columns

abbrev pub blanks : ℕ → List ℕ
blanks width = replicate width blank

-- "left-aligned": blanks behind a text; a longer text loses its end
unfoldable pub left_in : ℕ → List ℕ → List ℕ
left_in width text = take width (text ++ blanks width)

-- "right-aligned": blanks in front of a text; a longer text loses its front
unfoldable pub right_in : ℕ → List ℕ → List ℕ
right_in width text = drop (length text) (blanks width ++ text)

-- "state name": the names that document 01 gives the numbers of 0x48; a number over 5 has none
abbrev pub state_names : List (List ℕ)
state_names =
    ascii "Free Run" ∷ ascii "Holdover" ∷ ascii "Pre-locked" ∷ ascii "Locked" ∷ ascii "Loss of lock" ∷ ascii "Pre-locked 2" ∷ []

unfoldable pub state_name : ℕ → List ℕ
state_name state = get_or state_names state []

-- "Lay the records of a run out as lines of 27 columns: index right-aligned in 5, state name left-aligned in 12, selected and refusal right-aligned in 2
-- each, 0x49 as two lower-case hexadecimal digits, a blank between columns." State and selected are the two digits of 0x48.
unfoldable pub record_columns : ℕ → List ℕ → List ℕ
record_columns index r =
    let state = get_or r 1 0 / 16 in
    let selected = get_or r 1 0 % 16 in
    right_in 5 (decimal index) ++ blank ∷ left_in 12 (state_name state) ++ blank ∷ right_in 2 (decimal selected) ++ blank ∷ right_in 2 (decimal (get_or r 0 0))
    ++ blank ∷ hexadecimal (get_or r 3 0)

-- ---- pages

-- "A page has 50 lines", each of 27 columns and a line feed: "1,400 bytes a page"
abbrev pub page_lines : ℕ
page_lines = 50

abbrev pub line_columns : ℕ
line_columns = 27

abbrev pub line_bytes : ℕ
line_bytes = 28

abbrev pub page_bytes : ℕ
page_bytes = 1_400

-- as many pages as n records need: "no records, no page"
unfoldable pub page_count : ℕ → ℕ
page_count n = (n + (page_lines - 1)) / page_lines

-- Line j of the pages of n records, counted over all of them. "the last is filled with blank lines of 27 spaces. Each line ends with a line feed"
unfoldable pub page_line : ℕ → List ℕ → ℕ → List ℕ
page_line n records j = (if ltb j n then record_columns j (drop (4 * j) records) else blanks line_columns) ++ line_feed ∷ []

-- k texts one after the other, from that of number j on
unfoldable pub joined : (ℕ → List ℕ) → ℕ → ℕ → List ℕ
joined text zero j = []
joined text (suc k) j = text j ++ joined text k (j + 1)

-- page p, counted from 0
unfoldable pub page : ℕ → List ℕ → ℕ → List ℕ
page n records p = joined (page_line n records) page_lines (page_lines * p)

-- all pages of n records: "Every byte of the page is the one this layout gives for the records."
unfoldable pub pages_of : ℕ → List ℕ → List ℕ
pages_of n records = joined (page n records) (page_count n) 0

-- ---- the call

-- "Number 13 also means a page output under 1,400 bytes a page": the number of a sheet for two outputs of these lengths, 0 if it will run
unfoldable pub print_check : List ℕ → ℕ → ℕ → ℕ
print_check s room pageRoom =
    let number = check s room in
    if eqb number 0 then (if ltb pageRoom (page_bytes * page_count (record_count s)) then 13 else 0) else number

-- "The call takes the sheet and two outputs, for records and page, and returns the number, 0 if it ran": the number, and both outputs after the call
pub record Print : Type 0 where
  pub number : ℕ
  pub records : List ℕ
  pub pages : List ℕ

-- "bytes after the last page are unchanged .. when the call is refused, both outputs are unchanged"
unfoldable pub print : List ℕ → List ℕ → List ℕ → Print
print s records pages =
    let number = print_check s (length records) (length pages) in
    if eqb number 0
    then record {
      number = 0;
      records = output_after s records;
      pages = over (pages_of (record_count s) (front s (length records))) pages;
    }
    else record { number = number; records = records; pages = pages }
