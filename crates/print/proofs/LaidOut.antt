-- The pages of the records that a run hands back.
use Prim.Native.Nat.{ℕ, ◌*◌, ◌/◌}
use mathlib.Core.Path.{◌≡◌, refl}
use mathlib.Core.List.{List}
use native.Mathlib.Omega.{arith}
use lib.ListN.{length}
use borrow.Author.Tests.{le-ltb}
use Rattle.rules.specs.Sheet.{record_count, front, over}
use Rattle.rules.specs.Pages.{page_bytes, page_count, pages_of}
use Rattle.rules.proofs.Sheets.{outputs}
use Rattle.rules.proofs.Prints.{PrintPassed}
use Rattle.pages.specs.Output.{laid_out}

pub pages_laid_out : (s records pages : List ℕ) → PrintPassed s (length records) (length pages)
    → laid_out (front s (length records)) pages ≡ over (pages_of (record_count s) (front s (length records))) pages
unfolding laid_out
pages_laid_out s records pages p =
    let count : length (front s (length records)) / 4 ≡ record_count s = omega (arith, (outputs s records p.runs).written) in
    rw (count, le-ltb (length pages) (page_bytes * page_count (record_count s)) p.paper) refl
