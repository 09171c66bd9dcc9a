-- The lines and pages of a run's records: how long they are, and where each stands.
use Prim.Native.Nat.{ℕ, zero, suc, ◌+◌, ◌*◌, ◌<◌}
use mathlib.Core.Path.{◌≡◌, refl, ap, sym, ◌∙◌}
use mathlib.Core.List.{List, [], ◌∷◌, ◌++◌, append_assoc, append-nil}
use native.Mathlib.Nat.{add-zero, zero-add, suc-add, mul-zero, mul-suc}
use native.Mathlib.Omega.{arith}
use lib.Dec.{ltb}
use lib.ListN.{length, take, drop, length-append, length-take, length-drop, length-replicate}
use lib.Seq.{take_at, drop-append-add}
use Rattle.rules.specs.Printout.{line_feed, hexadecimal}
use Rattle.rules.specs.Pages.{left_in, right_in, record_columns, line_columns, line_bytes, page_lines, page_bytes, page_count, page_line, joined, page, pages_of}
use Rattle.rules.proofs.Tests.{if_case}

-- ---- lengths

pub length_left : (width : ℕ) (text : List ℕ) → length (left_in width text) ≡ width
unfolding left_in
length_left width text = simp (length-take, length-append, length-replicate) (omega arith)

pub length_right : (width : ℕ) (text : List ℕ) → length (right_in width text) ≡ width
unfolding right_in
length_right width text = simp (length-drop, length-append, length-replicate) (omega arith)

length_hexadecimal : (n : ℕ) → length (hexadecimal n) ≡ 2
unfolding hexadecimal
length_hexadecimal n = refl

pub length_columns : (index : ℕ) (r : List ℕ) → length (record_columns index r) ≡ line_columns
unfolding record_columns
length_columns index r = simp (length-append, length_left, length_right, length_hexadecimal)

pub length_line : (n : ℕ) (records : List ℕ) (j : ℕ) → length (page_line n records j) ≡ line_bytes
unfolding page_line
length_line n records j =
    if_case (λ (columns : List ℕ). length (columns ++ line_feed ∷ []) ≡ line_bytes) (ltb j n) (λ t. simp (length-append, length_columns)) (λ t. refl)

-- ---- texts one after the other

joined_append : (text : ℕ → List ℕ) (a b j : ℕ) → joined text (a + b) j ≡ joined text a j ++ joined text b (j + a)
unfolding joined
joined_append text zero b j = rw (zero-add b, add-zero j) refl
joined_append text (suc a) b j =
    let next : j + 1 + a ≡ j + suc a = omega arith in
    rw (suc-add a b, joined_append text a b (j + 1), next) (sym (append_assoc (text j) (joined text a (j + 1)) (joined text b (j + suc a))))

-- one more
pub joined_more : (text : ℕ → List ℕ) (j : ℕ) → joined text (j + 1) 0 ≡ joined text j 0 ++ text j
unfolding joined
joined_more text j = joined_append text j 1 0 ∙ ap (λ (l : List ℕ). joined text j 0 ++ l) (append-nil (text (0 + j)) ∙ ap text (zero-add j))

module _ (text : ℕ → List ℕ) (w : ℕ) (each : (j : ℕ) → length (text j) ≡ w) where
  pub length_joined : (k j : ℕ) → length (joined text k j) ≡ w * k
  unfolding joined
  length_joined zero j = sym (mul-zero w)
  length_joined (suc k) j = length-append (text j) (joined text k (j + 1)) ∙ omega (arith, mul-suc w k, each j, length_joined k (j + 1))

  -- of k texts from that of j on, the one at i
  pub joined_at : (k j i : ℕ) → i < k → take w (drop (w * i) (joined text k j)) ≡ text (j + i)
  unfolding joined
  joined_at zero j i h = absurd (omega arith)
  joined_at (suc k) j zero h = rw (mul-zero w, add-zero j) (take_at (text j) (joined text k (j + 1)) w (each j))
  joined_at (suc k) j (suc i) h =
      let past : w * suc i ≡ length (text j) + w * i = omega (arith, mul-suc w i, each j) in
      let next : j + 1 + i ≡ j + suc i = omega arith in
      rw (past, drop-append-add (text j) (joined text k (j + 1)) (w * i), ← next) (joined_at k (j + 1) i (omega arith))

-- ---- pages

pub length_page : (n : ℕ) (records : List ℕ) (p : ℕ) → length (page n records p) ≡ page_bytes
unfolding page
length_page n records p = length_joined (page_line n records) line_bytes (length_line n records) page_lines (page_lines * p)

pub length_pages : (n : ℕ) (records : List ℕ) → length (pages_of n records) ≡ page_bytes * page_count n
unfolding pages_of
length_pages n records = length_joined (page n records) page_bytes (length_page n records) (page_count n) 0

-- k pages are their lines
pages_lines : (n : ℕ) (records : List ℕ) (k p : ℕ) → joined (page n records) k p ≡ joined (page_line n records) (page_lines * k) (page_lines * p)
unfolding joined page
pages_lines n records zero p = refl
pages_lines n records (suc k) p =
    let more : page_lines * suc k ≡ page_lines + page_lines * k = omega arith in
    let next : page_lines * (p + 1) ≡ page_lines * p + page_lines = omega arith in
    rw (more, joined_append (page_line n records) page_lines (page_lines * k) (page_lines * p), pages_lines n records k (p + 1), next) refl

pub all_lines : (n : ℕ) (records : List ℕ) → pages_of n records ≡ joined (page_line n records) (page_lines * page_count n) 0
unfolding pages_of
all_lines n records = pages_lines n records (page_count n) 0
