-- The turns of the loop that puts the lines: the part of the output from the line's place on is lent, and comes back with the line at its front.
use Prim.Native.Nat.{ℕ, ◌+◌, ◌-◌, ◌*◌, ◌≤◌}
use mathlib.Core.Path.{◌≡◌, ap, sym, ◌∙◌}
use mathlib.Core.List.{List, [], ◌++◌, append-nil}
use native.Mathlib.Nat.{zero-add}
use native.Mathlib.Omega.{arith}
use lib.ListN.{length, take, drop, drop_of_length-le}
use lib.Seq.{sets, sets-eq, length-sets, length-take-le}
use Rattle.rules.specs.Sheet.{over}
use Rattle.rules.specs.Pages.{line_bytes, page_lines, page_bytes, page_count, page_line, joined, pages_of}
use Rattle.rules.proofs.Parts.{came_back}
use Rattle.rules.proofs.Pages.{length_line, length_joined, joined_more, all_lines, length_pages}
use Rattle.digits.specs.Puts.{Puts}
use Rattle.digits.proofs.Putting.{sets_append, sets_front, from_front}

-- a line put into the first 28 bytes
pub front_line : (line out : List ℕ) {text w : List ℕ} {next : ℕ}
    → length line ≡ line_bytes → line_bytes ≤ length out → line ≡ text → Puts text 0 (take line_bytes out) next w
    → w ++ drop line_bytes out ≡ over line out
front_line line out {text} {w} {next} e h same p =
    let part = length-take-le line_bytes out h in
    let put : Puts line 0 (take line_bytes out) next w = rw same p in
    let all = (from_front {text = line} {before = take line_bytes out} (omega arith) put).1 in
    let nothing : drop (length line) (take line_bytes out) ≡ [] = drop_of_length-le (take line_bytes out) {i = length line} (omega arith) in
    ap (λ (l : List ℕ). l ++ drop line_bytes out) (all ∙ ap (λ (l : List ℕ). line ++ l) nothing ∙ append-nil line)
    ∙ ap (λ k. line ++ drop k out) (sym e)

-- line j after the first j lines
pub one_line : (n : ℕ) (records : List ℕ) (j : ℕ) (before out : List ℕ) {w : List ℕ}
    → line_bytes * (j + 1) ≤ length before
    → out ≡ sets before 0 (joined (page_line n records) j 0)
    → w ≡ over (page_line n records j) (take (length out - line_bytes * j) (drop (line_bytes * j) out))
    → take (line_bytes * j) out ++ (w ++ drop (length out - line_bytes * j) (drop (line_bytes * j) out)) ≡ sets before 0 (joined (page_line n records) (j + 1) 0)
one_line n records j before out h e p =
    let lines = joined (page_line n records) j 0 in
    let line = page_line n records j in
    let same : length out ≡ length before = ap length e ∙ length-sets before 0 lines in
    let long = length_line n records j in
    let place : 0 + length lines ≡ line_bytes * j = zero-add (length lines) ∙ length_joined (page_line n records) line_bytes (length_line n records) j 0 in
    rw p
    (came_back (line_bytes * j) line out
    ∙ sym (sets-eq line out (line_bytes * j) (omega arith))
    ∙ (λ k. sets (e k) (sym place k) line)
    ∙ sym (sets_append lines line before 0)
    ∙ ap (sets before 0) (sym (joined_more (page_line n records) j)))

-- all lines are put
pub all_put : (n : ℕ) (records : List ℕ) (j : ℕ) (before out : List ℕ)
    → j ≡ page_lines * page_count n → page_bytes * page_count n ≤ length before
    → out ≡ sets before 0 (joined (page_line n records) j 0)
    → out ≡ over (pages_of n records) before
all_put n records j before out all h e =
    let long = length_pages n records in
    e
    ∙ ap (λ k. sets before 0 (joined (page_line n records) k 0)) all
    ∙ ap (sets before 0) (sym (all_lines n records))
    ∙ sets_front (pages_of n records) before (omega arith)
