-- Document 01, "Run sheet and rack program": the example sheet, what its run hands back and what the program prints; and sheets that are refused,
-- with each number from 9 to 13. A sheet runs on the standard fresh unit.
use Rattle.std.specs.Prelude.{ℕ, List, [], ◌∷◌, ◌++◌, take, replicate}
use Rattle.rules.specs.Sheet.{check, front, output_after}
use Rattle.rules.specs.Printout.{ascii, printed}
use Rattle.rules.specs.Table.{Row, ◌is◌, Holds}

-- "Sheet 01 00 40 01 02 00, eight 00, 02, seven 00": one setting, 0x40 = 1, and two events, a tick and a Hit
abbrev pub sheet : List ℕ
sheet = 0x01 ∷ 0x00 ∷ 0x40 ∷ 0x01 ∷ 0x02 ∷ 0x00 ∷ replicate 8 0x00 ++ 0x02 ∷ replicate 7 0x00

-- what it "prints"
abbrev pub text : List ℕ
text =
    ascii "records 3\n"
    ++ ascii "0 0 00 00 03\n"
    ++ ascii "1 0 00 00 03\n"
    ++ ascii "2 5 00 00 03\n"

-- its records: the Hit is turned down with 5
abbrev records : List ℕ
records =
    0 ∷ 0x00 ∷ 0x00 ∷ 0x03
    ∷ 0 ∷ 0x00 ∷ 0x00 ∷ 0x03
    ∷ 5 ∷ 0x00 ∷ 0x00 ∷ 0x03
    ∷ []

-- an output of n bytes, before the run
abbrev pub lent : ℕ → List ℕ
lent n = replicate n 0xff

-- a sheet with no setting and one event: kind, a, b, the byte after them, and the word's bytes
abbrev with_word : ℕ → ℕ → ℕ → ℕ → List ℕ → List ℕ
with_word kind a b c word = 0x00 ∷ 0x00 ∷ 0x01 ∷ 0x00 ∷ kind ∷ a ∷ b ∷ c ∷ word

-- with a word of this low byte
abbrev one_event : ℕ → ℕ → ℕ → ℕ → ℕ → List ℕ
one_event kind a b c low = with_word kind a b c (low ∷ 0x00 ∷ 0x00 ∷ 0x00 ∷ [])

unfoldable pub table : List Row
table =
    -- the example, and an output that its records fill
    printed sheet is text
    ∷ check sheet 12 is 0
    ∷ front sheet 12 is records
    ∷ output_after sheet (lent 12) is records
    -- a longer output: "bytes after it are unchanged"
    ∷ check sheet 14 is 0
    ∷ front sheet 14 is records
    ∷ output_after sheet (lent 14) is (records ++ 0xff ∷ 0xff ∷ [])
    -- 9 "a settings count over 256", here 257; the sheet ends early too, but 9 comes before 10
    ∷ check (0x01 ∷ 0x01 ∷ []) 0 is 9
    -- 10 "sheet ends early"
    ∷ check (take 21 sheet) 12 is 10
    ∷ printed (take 21 sheet) is ascii "refused 10\n"
    -- 11 "bytes after the events"
    ∷ check (sheet ++ 0x00 ∷ []) 12 is 11
    -- 12 "kind over 3, lock over 1, or unused field not 0"; document 02, #106: it "covers kinds over 4 from now on"
    ∷ check (one_event 5 0 0 0 0) 4 is 12
    ∷ check (one_event 4 0 0 0 0) 4 is 0
    ∷ check (one_event 0 0 1 0 0) 4 is 0
    ∷ check (one_event 0 0 2 0 0) 4 is 12
    ∷ check (one_event 0 0 0 1 0) 4 is 12
    ∷ check (one_event 1 1 0 0 1) 4 is 12
    ∷ check (one_event 2 1 0 0 0) 4 is 12
    ∷ check (one_event 2 0 1 0 0) 4 is 12
    ∷ check (one_event 3 0x40 1 0 1) 4 is 12
    ∷ check (one_event 4 1 1 0 0) 4 is 12
    ∷ check (one_event 4 1 0 1 0) 4 is 12
    -- #106: "a word outside −32,768 to 32,767 gives 12": 32,767, 32,768, −32,768 and −32,769
    ∷ check (with_word 4 1 0 0 (0xff ∷ 0x7f ∷ 0x00 ∷ 0x00 ∷ [])) 4 is 0
    ∷ check (with_word 4 1 0 0 (0x00 ∷ 0x80 ∷ 0x00 ∷ 0x00 ∷ [])) 4 is 12
    ∷ check (with_word 4 1 0 0 (0x00 ∷ 0x80 ∷ 0xff ∷ 0xff ∷ [])) 4 is 0
    ∷ check (with_word 4 1 0 0 (0xff ∷ 0x7f ∷ 0xff ∷ 0xff ∷ [])) 4 is 12
    -- 13 "output under 4 bytes a record"; a refused sheet hands back nothing, and leaves the output
    ∷ check sheet 11 is 13
    ∷ front sheet 11 is []
    ∷ output_after sheet (lent 11) is lent 11
    ∷ []

abbrev pub ExampleSheet : Type 0
ExampleSheet = Holds table
