-- One record more is one line more at the end.
use Rattle.std.proofs.Common.{ℕ, zero, suc, ◌+◌, ◌*◌, ◌<◌, ◌≡◌, ap, sym, ◌∙◌, List, [], ◌++◌, append_assoc, append-nil, get_or, take, drop, add-zero, zero-add, add-one, arith}
use Rattle.std.proofs.Math.Seq.{drop-drop, get_or-take}
use Rattle.std.specs.Simd.{first_chunks}
use Rattle.rules.specs.Printout.{record_line, record_lines}
use Rattle.digits.proofs.Rows.{row_at}

last_line : (k i : ℕ) (l : List ℕ) → record_lines (suc k) i l ≡ record_lines k i l ++ record_line (i + k) (drop (4 * k) l)
unfolding record_lines
last_line zero i l = append-nil (record_line i l) ∙ ap (λ n. record_line n l) (sym (add-zero i))
last_line (suc k) i l =
    let index : i + 1 + k ≡ i + suc k = omega arith in
    let place : 4 + 4 * k ≡ 4 * suc k = omega arith in
    ap (λ t. record_line i l ++ t) (last_line k (i + 1) (drop 4 l) ∙ rw (drop-drop, index, place))
    ∙ sym (append_assoc (record_line i l) (record_lines k (i + 1) (drop 4 l)) (record_line (i + suc k) (drop (4 * suc k) l)))

-- the line of the first four bytes
own_bytes : (i : ℕ) (l : List ℕ) → record_line i (take 4 l) ≡ record_line i l
unfolding record_line
own_bytes i l = simp (get_or-take 4 l 0 0 (omega arith), get_or-take 4 l 1 0 (omega arith), get_or-take 4 l 2 0 (omega arith), get_or-take 4 l 3 0 (omega arith))

pub next_line : {rows : List (List ℕ)} (k i : ℕ) (l : List ℕ) → rows ≡ first_chunks 4 k l → i < k
    → record_lines (i + 1) 0 l ≡ record_lines i 0 l ++ record_line i (get_or rows i [])
next_line k i l e h = rw (e, row_at 4 k i l h, own_bytes, add-one, last_line i 0 l, zero-add)
