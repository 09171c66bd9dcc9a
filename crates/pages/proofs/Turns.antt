-- The turns of the loop that puts the lines: each is put into its own 28 bytes, behind those before it.
use Rattle.std.proofs.Common.{ℕ, ◌+◌, ◌-◌, ◌*◌, ◌≤◌, ◌≡◌, refl, ap, sym, ◌∙◌, Bool, true, false, List, [], ◌∷◌, ◌++◌, append_assoc, append-nil, length, ltb, get_or, take, drop, take_at, drop_at, drop_of_length-le, length-append, arith}
use Rattle.std.proofs.Math.Seq.{drop-drop, get_or-take}
use Rattle.std.specs.Int.{div_ceil}
use Rattle.std.specs.Simd.{first_chunks}
use borrow.Author.Tests.{ltb-true, ltb-false}
use borrow.Rule.Slice.PartMut.{mid_of, put_mid, mid_len}
use Rattle.rules.specs.Sheet.{over}
use Rattle.rules.specs.Printout.{line_feed}
use Rattle.rules.specs.Pages.{line_bytes, page_lines, page_bytes, page_count, page_line, joined, pages_of, record_columns, blanks, line_columns}
use Rattle.rules.proofs.Pages.{length_line, length_joined, joined_more, all_lines}
use Rattle.digits.proofs.Rows.{row_at}
use Rattle.digits.specs.Puts.{Puts}
use Rattle.digits.proofs.Putting.{from_front}

-- as many pages as the rule has, and room for each of their lines
pub pages_are : (n : ℕ) → div_ceil n page_lines ≡ page_count n
unfolding page_count
pages_are n = omega arith

pub has_room : {short : Bool} {pages : ℕ} (n room : ℕ)
    → short ≡ ltb room (page_bytes * page_count n) → short ≡ false → pages ≡ div_ceil n page_lines
    → line_bytes * (page_lines * pages) ≤ room
has_room n room e f p = omega (arith, ltb-false _ _ (sym e ∙ f), pages_are n)

-- a text that fills its part
fills : {text part w : List ℕ} {next : ℕ} → length text ≡ length part → Puts text 0 part next w → w ≡ text
fills {text} {part} e p = (from_front (omega arith) p).1 ∙ rw (drop_of_length-le part {i = length text} (omega arith)) (append-nil text)

-- a part behind what is put at the front
put_behind : (a k : ℕ) (f w before : List ℕ) → length f ≡ a → length w ≡ k → put_mid a k (over f before) w ≡ over (f ++ w) before
put_behind a k f w before e g =
    rw (take_at f (drop (length f) before) a e, drop_at f (drop (length f) before) a e, drop-drop, length-append, append_assoc, g) refl

-- the columns of the first four bytes
own_bytes : (j : ℕ) (l : List ℕ) → record_columns j (take 4 l) ≡ record_columns j l
unfolding record_columns
own_bytes j l = simp (get_or-take 4 l 0 0 (omega arith), get_or-take 4 l 1 0 (omega arith), get_or-take 4 l 3 0 (omega arith))

-- the line of a record, and a blank one
pub record_text : (n j : ℕ) (l : List ℕ) {rows : List (List ℕ)} {r : List ℕ}
    → rows ≡ first_chunks 4 n l → true ≡ ltb j n → r ≡ get_or rows j []
    → record_columns j r ++ line_feed ∷ [] ≡ page_line n l j
unfolding page_line
record_text n j l e h at = rw (at, e, row_at 4 n j l (ltb-true j n (sym h)), own_bytes, ← h) refl

pub blank_text : (n j : ℕ) (l : List ℕ) → false ≡ ltb j n → blanks line_columns ++ line_feed ∷ [] ≡ page_line n l j
unfolding page_line
blank_text n j l h = rw (← h) refl

module _ (n : ℕ) (records : List ℕ) where
  -- line j behind the first j lines
  pub line_behind : (j : ℕ) (before : List ℕ) {out text w : List ℕ} {next : ℕ}
      → line_bytes * j + line_bytes ≤ length out → out ≡ over (joined (page_line n records) j 0) before → text ≡ page_line n records j
      → Puts text 0 (mid_of (line_bytes * j) (line_bytes * j + line_bytes - line_bytes * j) out) next w
      → put_mid (line_bytes * j) (line_bytes * j + line_bytes - line_bytes * j) out w ≡ over (joined (page_line n records) (j + 1) 0) before
  line_behind j before {out} {text} {w} h e same p =
      let at = line_bytes * j in
      let lines = joined (page_line n records) j 0 in
      let long = length_line n records j in
      let put : w ≡ page_line n records j = fills (omega (arith, ap length same, mid_len at (at + line_bytes) out h)) p ∙ same in
      rw (e, joined_more)
      (put_behind at (at + line_bytes - at) lines w before (length_joined (page_line n records) line_bytes (length_line n records) j 0) (omega (arith, ap length put))
      ∙ rw put refl)

  -- all lines are put
  pub lines_are_pages : (j : ℕ) (before : List ℕ) → j ≡ page_lines * page_count n → over (joined (page_line n records) j 0) before ≡ over (pages_of n records) before
  lines_are_pages j before all = rw (all_lines, all) refl
