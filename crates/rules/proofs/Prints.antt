-- The call that runs and prints a sheet: what it has passed, and what it leaves.
use Prim.Native.Nat.{ℕ, ◌*◌, ◌≤◌}
use mathlib.Core.Path.{◌≡◌, refl}
use mathlib.Core.List.{List}
use lib.Dec.{eqb}
use lib.ListN.{length}
use borrow.Author.Tests.{ltb-false, eq-eqb, ne_eqb, eqb-true}
use Rattle.rules.specs.Sheet.{record_count, check, front, over, output_after}
use Rattle.rules.specs.Pages.{page_bytes, page_count, pages_of, print_check, print}
use Rattle.rules.proofs.Tests.{by_test, clash, unrefused}

-- what a sheet has passed that is run and printed
pub record PrintPassed (s : List ℕ) (room pageRoom : ℕ) : Type 0 where
  pub runs : check s room ≡ 0
  pub paper : page_bytes * page_count (record_count s) ≤ pageRoom

pub print_passed : (s : List ℕ) (room pageRoom : ℕ) → print_check s room pageRoom ≡ 0 → PrintPassed s room pageRoom
unfolding print_check
print_passed s room pageRoom e =
    by_test (eqb (check s room) 0)
    (λ t. record {
      runs = eqb-true (check s room) 0 t;
      paper = ltb-false pageRoom (page_bytes * page_count (record_count s)) (unrefused _ 12 0 (rw t at e)).0;
    })
    (λ f. clash (eq-eqb (check s room) 0 (rw f at e)) f)

-- it ran
pub ran : (s records pages : List ℕ) → print_check s (length records) (length pages) ≡ 0
    → print s records pages
    ≡ record { number = 0; records = output_after s records; pages = over (pages_of (record_count s) (front s (length records))) pages }
unfolding print
ran s records pages e = rw (eq-eqb (print_check s (length records) (length pages)) 0 e) refl

-- it was refused
pub refused : (s records pages : List ℕ) → (print_check s (length records) (length pages) ≡ 0 → ⊥)
    → print s records pages ≡ record { number = print_check s (length records) (length pages); records = records; pages = pages }
unfolding print
refused s records pages n = rw (ne_eqb (print_check s (length records) (length pages)) 0 n) refl
