-- Document 01, "Run sheet and rack program": the text that the rack program prints for a sheet, byte by byte.
use Rattle.std.specs.Prelude.{ℕ, zero, suc, ◌+◌, ◌*◌, ◌/◌, ◌%◌, List, [], ◌∷◌, ◌++◌, ltb, eqb, get_or, drop, if◌then◌else◌}
use Prim.Native.Char.{code}
use Prim.Native.String.{String, [] as end, ◌∷◌ as ◌then◌}
use Rattle.rules.specs.Sheet.{check, record_count, front}

-- ---- ASCII

-- the bytes of a text
abbrev pub ascii : String → List ℕ
ascii end = []
ascii (c then s) = code c ∷ ascii s

abbrev pub blank : ℕ
blank = 32

abbrev pub line_feed : ℕ
line_feed = 10

-- a digit: 0 to 9 from 48, "lower-case" a to f from 97
unfoldable pub digit : ℕ → ℕ
digit d = if ltb d 10 then 48 + d else 87 + d

-- "in decimal", with no leading 0; `fuel` is at least the number of digits
unfoldable pub decimal_in : ℕ → ℕ → List ℕ
decimal_in zero n = []
decimal_in (suc fuel) n =
    let more = decimal_in fuel (n / 10) ++ digit (n % 10) ∷ [] in
    if ltb n 10 then digit n ∷ [] else more

unfoldable pub decimal : ℕ → List ℕ
decimal n = decimal_in (n + 1) n

-- "two-digit hexadecimal bytes"
unfoldable pub hexadecimal : ℕ → List ℕ
hexadecimal n = digit (n / 16 % 16) ∷ digit (n % 16) ∷ []

unfoldable pub records_word : List ℕ
records_word = ascii "records "

unfoldable pub refused_word : List ℕ
refused_word = ascii "refused "

-- ---- lines

-- "It prints `records N` .. or `refused N`. Each line ends with a line feed."
unfoldable pub head_line : List ℕ → ℕ → List ℕ
head_line word n = word ++ decimal n ++ line_feed ∷ []

-- "per record the index from 0 and refusal in decimal and three two-digit hexadecimal bytes, lower-case, one blank between fields"
unfoldable pub record_line : ℕ → List ℕ → List ℕ
record_line index r =
    decimal index ++ blank ∷ decimal (get_or r 0 0) ++ blank ∷ hexadecimal (get_or r 1 0) ++ blank ∷ hexadecimal (get_or r 2 0)
    ++ blank ∷ hexadecimal (get_or r 3 0) ++ line_feed ∷ []

-- the lines of k records, the first of index i
unfoldable pub record_lines : ℕ → ℕ → List ℕ → List ℕ
record_lines zero i l = []
record_lines (suc k) i l = record_line i l ++ record_lines k (i + 1) (drop 4 l)

-- The program's output has room for every record, so 13 never comes.
unfoldable pub printed : List ℕ → List ℕ
printed s =
    let n = record_count s in
    let number = check s (4 * n) in
    if eqb number 0 then head_line records_word n ++ record_lines n 0 (front s (4 * n)) else head_line refused_word number
