-- The laws of the printed pages, all in one place: each statement with its proof.
use Prim.Native.Nat.{ℕ, ◌+◌, ◌*◌, ◌<◌}
use mathlib.Core.Path.{◌≡◌, refl, ap, sym, ◌∙◌}
use mathlib.Core.List.{List, [], ◌∷◌, ◌++◌}
use native.Mathlib.Nat.{zero-add}
use native.Mathlib.Omega.{arith}
use lib.Dec.{eqb}
use lib.ListN.{length, get_or, take, drop, length-append, length-drop, get_or-append}
use lib.Seq.{take-append-le, drop-append-le, get_or-drop}
use borrow.Author.Tests.{lt-ltb, le-ltb, eq-eqb, ne_eqb, eqb-true}
use Rattle.rules.specs.Printout.{line_feed}
use Rattle.rules.specs.Sheet.{settings_count, events_at, events_count, sheet_end, record_count, check, front, over, output_after}
use Rattle.rules.specs.Records.{byte_of}
use Rattle.rules.specs.Pages.{record_columns, line_bytes, page_lines, page_bytes, page_count, page_line, joined, page, pages_of, print_check, Print, print}
use Rattle.rules.specs.PageLaws.{Filled, FullPages, PageCount, Texts, PrintNumber, PrintRan, PrintRefused, AtMost, PageLaws}
use Rattle.rules.proofs.Tests.{if_case}
use Rattle.rules.proofs.Sheets as sheets
use Rattle.rules.proofs.Sheets.{outputs}
use Rattle.rules.proofs.RecordBytes.{each_record}
use Rattle.rules.proofs.Pages.{length_line, length_page, length_pages, joined_at, all_lines}
use Rattle.rules.proofs.Prints.{print_passed, ran, refused}
use Rattle.rules.proofs.Printable.{lines}
use Rattle.rules.proofs.ReadBack.{read_line}

filled : Filled
unfolding page_line
filled n records j h = rw (le-ltb j n h) refl

full_pages : FullPages
unfolding page
full_pages n records p =
    record {
      bytes = length_page n records p;
      line = joined_at (page_line n records) line_bytes (length_line n records) page_lines (page_lines * p);
    }

page_count_holds : PageCount
unfolding page_count
page_count_holds n = record { enough = omega arith; least = λ m h. omega arith }

no_page : (records : List ℕ) → pages_of 0 records ≡ []
unfolding pages_of page_count joined
no_page records = refl

texts : Texts
unfolding pages_of
texts n records =
    record {
      bytes = length_pages n records;
      pages = λ p h. joined_at (page n records) page_bytes (length_page n records) (page_count n) 0 p h ∙ ap (page n records) (zero-add p);
      none = λ e. ap (λ m. pages_of m records) e ∙ no_page records;
    }

at_most : AtMost
unfolding sheet_end events_at events_count settings_count record_count page_count
at_most s room e =
    let p = sheets.passed s room e in
    record { records = omega (arith, p.short, p.few, p.whole); pages = omega (arith, p.short, p.few, p.whole) }

-- ---- the call

number_is : (s records pages : List ℕ) → (print s records pages).number ≡ print_check s (length records) (length pages)
unfolding print
number_is s records pages =
    let number = print_check s (length records) (length pages) in
    if_case (λ (p : Print). p.number ≡ number) (eqb number 0) (λ t. sym (eqb-true number 0 t)) (λ f. refl)

print_number : PrintNumber
unfolding print_check
print_number s records pages =
    let own = check s (length records) in
    let bytes = page_bytes * page_count (record_count s) in
    let number = number_is s records pages in
    record {
      own = λ n. number ∙ rw (ne_eqb own 0 n) refl;
      short = λ e h. number ∙ rw (eq-eqb own 0 e, lt-ltb (length pages) bytes h) refl;
      long = λ e h. number ∙ rw (eq-eqb own 0 e, le-ltb (length pages) bytes h) refl;
    }

print_refused : PrintRefused
print_refused s records pages n =
    let r = refused s records pages (λ z. n (number_is s records pages ∙ z)) in
    record { records_kept = ap (λ (p : Print). p.records) r; pages_kept = ap (λ (p : Print). p.pages) r }

-- a byte of a record, in the output after the run
record_byte : (s output : List ℕ) (i k : ℕ) → 4 * i + k < length (front s (length output))
    → get_or (drop (4 * i) (front s (length output))) k 0 ≡ byte_of (output_after s output) i k
unfolding output_after
record_byte s output i k h =
    let f = front s (length output) in
    get_or-drop (4 * i) f k 0 ∙ sym (get_or-append f (drop (length f) output) 0 (4 * i + k) h)

-- a line of the pages, in the output after the call
line_in : (n : ℕ) (records output : List ℕ) (i : ℕ) → i < n
    → take line_bytes (drop (line_bytes * i) (over (pages_of n records) output)) ≡ record_columns i (drop (4 * i) records) ++ line_feed ∷ []
unfolding page_line
line_in n records output i h =
    let text = pages_of n records in
    let rest = drop (length text) output in
    let long : length text ≡ line_bytes * (page_lines * page_count n) = length_pages n records ∙ omega arith in
    let below : i < page_lines * page_count n = omega (arith, (page_count_holds n).enough) in
    let part = length-drop (line_bytes * i) text in
    let line : page_line n records i ≡ record_columns i (drop (4 * i) records) ++ line_feed ∷ [] = rw (lt-ltb i n h) refl in
    rw (drop-append-le (line_bytes * i) text rest (omega arith), take-append-le line_bytes (drop (line_bytes * i) text) rest (omega arith), all_lines n records)
    (joined_at (page_line n records) line_bytes (length_line n records) (page_lines * page_count n) 0 i below ∙ ap (page_line n records) (zero-add i) ∙ line)

print_ran : PrintRan
print_ran s records pages e =
    let zero = sym (number_is s records pages) ∙ e in
    let p = print_passed s (length records) (length pages) zero in
    let fits = outputs s records p.runs in
    let n = record_count s in
    let f = front s (length records) in
    let text = pages_of n f in
    let r = ran s records pages zero in
    record {
      records_are = ap (λ (p : Print). p.records) r;
      pages_are = ap (λ (p : Print). p.pages) r;
      records_length = rw r fits.kept;
      pages_length = rw r (length-append text (drop (length text) pages) ∙ omega (arith, length_pages n f, length-drop (length text) pages, p.paper));
      read_back = λ i h.
          let byte : (k : ℕ) → k < 4 → get_or (drop (4 * i) f) k 0 ≡ byte_of (output_after s records) i k = λ k below.
          record_byte s records i k (omega (arith, fits.written)) in
          let small : i < 100_000 = omega (arith, (at_most s (length records) p.runs).records) in
          rw (
            r,
            line_in n f pages i h,
            read_line i (drop (4 * i) f) small (each_record s (length records) i p.runs h),
            byte 0 (omega arith),
            byte 1 (omega arith),
            byte 3 (omega arith),
          ) refl;
    }

pub page_laws : PageLaws
page_laws =
    record {
      lines = lines;
      filled = filled;
      full_pages = full_pages;
      page_count = page_count_holds;
      texts = texts;
      print_number = print_number;
      print_ran = print_ran;
      print_refused = print_refused;
      at_most = at_most;
    }
