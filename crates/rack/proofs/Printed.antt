-- What is printed for a sheet, where the records have room: 33,532 bytes are enough for every sheet that the other checks let through.
use Prim.Native.Nat.{ℕ, ◌*◌, ◌/◌, ◌≤◌}
use mathlib.Core.Path.{◌≡◌, refl, ap, sym, ◌∙◌}
use mathlib.Core.Bool.{◌||◌}
use mathlib.Core.List.{List, ◌++◌}
use native.Mathlib.Omega.{arith}
use borrow.Author.Tests.{ltb-false, le-ltb, ne_eqb}
use lib.Dec.{ltb}
use lib.ListN.{length, drop, length-append}
use Rattle.rules.specs.Sheet.{settings_count, events_at, events_count, sheet_end, record_count, check, front, over}
use Rattle.rules.specs.Printout.{records_word, refused_word, head_line, record_lines, printed}
use Rattle.rules.proofs.Tests.{by_test, or-false}
use Rattle.rules.proofs.Sheets.{outputs}
use Rattle.digits.specs.Puts.{Puts}
use Rattle.digits.proofs.Putting.{from_front}
use Rattle.text.specs.Text.{records_text}
use Rattle.rack.specs.Front.{Front}

-- two outputs that have room for the records of a whole sheet give the same number
same_number : (s : List ℕ) (a b : ℕ)
    → (length s ≤ 65_535 → settings_count s ≤ 256 → length s ≡ sheet_end s → (4 * record_count s ≤ a) × (4 * record_count s ≤ b))
    → check s a ≡ check s b
unfolding check
same_number s a b room =
    by_test (ltb 65_535 (length s) || ltb 256 (settings_count s)) (λ e. rw e refl)
    (λ sized. by_test (ltb (length s) (sheet_end s)) (λ e. rw (sized, e) refl)
    (λ early. by_test (ltb (sheet_end s) (length s)) (λ e. rw (sized, early, e) refl)
    (λ late.
    let size = or-false _ _ sized in
    let fits = room (ltb-false _ _ size.0) (ltb-false _ _ size.1) (omega (arith, ltb-false (length s) (sheet_end s) early, ltb-false (sheet_end s) (length s) late)) in
    rw (sized, early, late, le-ltb a (4 * record_count s) fits.0, le-ltb b (4 * record_count s) fits.1) refl)))

-- the rack program's output has room
pub room_enough : (s : List ℕ) → check s 33_532 ≡ check s (4 * record_count s)
unfolding sheet_end events_at events_count settings_count record_count
room_enough s = same_number s 33_532 (4 * record_count s) (λ short few whole. (omega arith, omega arith))

pub printed_refusal : (s : List ℕ) (n : ℕ) → n ≡ check s 33_532 → (n ≡ 0 → ⊥) → head_line refused_word n ≡ printed s
unfolding printed
printed_refusal s n e some =
    let number = e ∙ room_enough s in
    rw (← number, ne_eqb n 0 some) refl

same_front : (s : List ℕ) → front s 33_532 ≡ front s (4 * record_count s)
unfolding front
same_front s = rw (room_enough s) refl

pub printed_records : (s out : List ℕ) → length out ≡ 33_532 → check s (length out) ≡ 0 → records_text (front s (length out)) ≡ printed s
unfolding records_text printed
printed_records s out room zero =
    let n = record_count s in
    let f = front s (length out) in
    let said = outputs s out zero in
    let count : length f / 4 ≡ n = omega (arith, said.written) in
    let number : check s (4 * n) ≡ 0 = sym (room_enough s) ∙ ap (check s) (sym room) ∙ zero in
    let same : f ≡ front s (4 * n) = ap (front s) room ∙ same_front s in
    rw (number) (ap (λ (k : ℕ). head_line records_word k ++ record_lines k 0 f) count ∙ ap (λ (l : List ℕ). head_line records_word n ++ record_lines n 0 l) same)

-- a text that is put at the front, where there is room for it; it is the one that is to be printed
pub at_front : {text wanted before after : List ℕ} {n : ℕ} → text ≡ wanted → length text ≤ length before → Puts text 0 before n after → Front wanted before n after
at_front {text} {wanted} {before} e room p =
    let f = from_front room p in
    record { count = f.0 ∙ ap length e; left = f.1 ∙ ap (λ (l : List ℕ). over l before) e }

-- a text that stands in front of a list stands within it
pub front_within : (text before after : List ℕ) (n : ℕ) → Front text before n after → n ≤ length after
front_within text before after n f = omega (arith, f.count, ap length f.left, length-append text (drop (length text) before))
