-- An output that pages are put into.
use Rattle.std.specs.Prelude.{ℕ, ◌*◌, ◌/◌, List, ltb, length, if◌then◌else◌}
use Rattle.rules.specs.Sheet.{over}
use Rattle.rules.specs.Pages.{page_bytes, page_count, pages_of}

-- The output with the pages of these records, 4 bytes each, over its front; as it was where it is "under 1,400 bytes a page".
unfoldable pub laid_out : List ℕ → List ℕ → List ℕ
laid_out records output =
    let n = length records / 4 in
    if ltb (length output) (page_bytes * page_count n) then output else over (pages_of n records) output
