-- The text of a run's records.
use Rattle.std.specs.Prelude.{ℕ, ◌/◌, List, ◌++◌, length}
use Rattle.rules.specs.Printout.{records_word, head_line, record_lines}

-- each record has 4 bytes
unfoldable pub records_text : List ℕ → List ℕ
records_text records =
    let n = length records / 4 in
    head_line records_word n ++ record_lines n 0 records
