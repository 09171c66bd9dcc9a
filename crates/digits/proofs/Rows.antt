-- A list as rows of n elements.
use Rattle.std.proofs.Common.{ℕ, zero, suc, ◌+◌, ◌*◌, ◌<◌, ◌≡◌, refl, ◌∙◌, List, [], get_or, take, drop, mul-zero, arith}
use Rattle.std.proofs.Math.Seq.{drop-drop}
use Rattle.std.specs.Simd.{first_chunks}

-- row i
pub row_at : {A : Type 0} (n k i : ℕ) (l : List A) → i < k → get_or (first_chunks n k l) i [] ≡ take n (drop (n * i) l)
row_at n zero i l h = absurd (omega arith)
row_at n (suc k) zero l h = rw (mul-zero n) refl
row_at n (suc k) (suc i) l h =
    let next : n + n * i ≡ n * suc i = omega arith in
    row_at n k i (drop n l) (omega arith) ∙ rw (drop-drop, next) refl
