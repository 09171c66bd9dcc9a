-- Document 02, #101: the page of document 01's example sheet, lines of every state and width, and calls that are refused. A sheet runs on the standard fresh
-- unit.
use Rattle.std.specs.Prelude.{ℕ, zero, suc, List, [], ◌∷◌, ◌++◌, length, replicate, take, drop}
use Rattle.rules.specs.Sheet.{output_after}
use Rattle.rules.specs.Printout.{ascii}
use Rattle.rules.specs.Pages.{Print, print, record_columns, page_count, pages_of}
use Rattle.rules.specs.Table.{Row, ◌is◌, Holds}
use Rattle.cases.specs.ExampleSheet.{sheet, lent}

abbrev pub blank_lines : ℕ → List ℕ
blank_lines zero = []
blank_lines (suc n) = ascii "                           \n" ++ blank_lines n

-- the example's page: three lines, "filled with blank lines of 27 spaces"
abbrev pub page : List ℕ
page =
    ascii "    0 Free Run      0  0 03\n"
    ++ ascii "    1 Free Run      0  0 03\n"
    ++ ascii "    2 Free Run      0  5 03\n"
    ++ blank_lines 47

-- a call that left both outputs
abbrev left : ℕ → List ℕ → List ℕ → Print
left number records pages = record { number = number; records = records; pages = pages }

unfoldable pub table : List Row
table =
    -- the example, with outputs of the very length, and with two bytes more in each
    print sheet (lent 12) (lent 1_400) is record { number = 0; records = output_after sheet (lent 12); pages = page }
    ∷ print sheet (lent 14) (lent 1_402) is record { number = 0; records = output_after sheet (lent 14); pages = page ++ 0xff ∷ 0xff ∷ [] }
    -- 13 for either output, after the sheet's own numbers
    ∷ print sheet (lent 11) (lent 1_400) is left 13 (lent 11) (lent 1_400)
    ∷ print sheet (lent 12) (lent 1_399) is left 13 (lent 12) (lent 1_399)
    ∷ print (take 21 sheet) (lent 0) (lent 0) is left 10 (lent 0) (lent 0)
    -- no records, no page
    ∷ print (replicate 4 0x00) (lent 4) (lent 1_400) is left 0 (lent 4) (lent 1_400)
    -- the six states; selected 9 is Free Run as a candidate
    ∷ record_columns 0 (0 ∷ 0x09 ∷ 0x00 ∷ 0x03 ∷ []) is ascii "    0 Free Run      9  0 03"
    ∷ record_columns 12 (0 ∷ 0x10 ∷ 0x00 ∷ 0x07 ∷ []) is ascii "   12 Holdover      0  0 07"
    ∷ record_columns 345 (0 ∷ 0x28 ∷ 0xff ∷ 0x02 ∷ []) is ascii "  345 Pre-locked    8  0 02"
    ∷ record_columns 6_789 (8 ∷ 0x31 ∷ 0x01 ∷ 0x0c ∷ []) is ascii " 6789 Locked        1  8 0c"
    ∷ record_columns 8_382 (0 ∷ 0x41 ∷ 0x01 ∷ 0x0e ∷ []) is ascii " 8382 Loss of lock  1  0 0e"
    ∷ record_columns 99_999 (0 ∷ 0x52 ∷ 0x03 ∷ 0x06 ∷ []) is ascii "99999 Pre-locked 2  2  0 06"
    -- bytes that no run gives: the columns stay as wide
    ∷ record_columns 100_001 (205 ∷ 0x6f ∷ 0x00 ∷ 0xab ∷ []) is ascii "00001              15 05 ab"
    -- so many records, so many pages
    ∷ page_count 0 is 0
    ∷ page_count 1 is 1
    ∷ page_count 49 is 1
    ∷ page_count 50 is 1
    ∷ page_count 51 is 2
    ∷ page_count 100 is 2
    ∷ page_count 8_383 is 168
    -- line 50 is the first of the second page
    ∷ take 28 (drop 1_400 (pages_of 51 (replicate 204 0x00))) is ascii "   50 Free Run      0  0 00\n"
    ∷ drop 1_428 (pages_of 51 (replicate 204 0x00)) is blank_lines 49
    ∷ length (pages_of 100 (replicate 400 0x00)) is 2_800
    ∷ []

abbrev pub ExamplePage : Type 0
ExamplePage = Holds table
