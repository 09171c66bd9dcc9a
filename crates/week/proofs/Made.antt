-- What `from_fn` makes by a closure that computes f and changes nothing.
use Rattle.std.proofs.Common.{◌≡◌, ℕ, zero, suc, ◌+◌, ◌<◌, List, map, get_or, ◌∙◌, subst, arith}
use Rattle.std.proofs.lemmas.List.FromFn.{fill_by_all}
use Rattle.std.specs.List.{range_with_len}
use Rattle.std.specs.Array.{IsFromFnResult, IsFromFnResultFrom}
use denote.Param.Members.{Mut, Called}

module _ {F B : Type 0} (g : Mut F (ℕ × Unit {0}) B) (f : ℕ → B) (s : F) (d : B) (pure : (i : ℕ) (y : B) (t : F) → Called g s (i, tt) y t → (t ≡ s) × (y ≡ f i)) where
  made : (ys : List B) (i n : ℕ) → IsFromFnResultFrom g s ys i n → (k : ℕ) → k < n → get_or ys (i + k) d ≡ f (i + k)
  made ys i zero r k h = absurd (omega arith)
  made ys i (suc n) (t, y, at, called, rest) zero h =
      let here : i ≡ i + 0 = omega arith in
      subst (λ j. get_or ys j d ≡ f j) here (at.1 d ∙ (pure i y t called).1)
  made ys i (suc n) (t, y, at, called, rest) (suc k) h =
      let there : i + 1 + k ≡ i + suc k = omega arith in
      subst (λ j. get_or ys j d ≡ f j) there
      (made ys (i + 1) n (subst (λ u. IsFromFnResultFrom g u ys (i + 1) n) (pure i y t called).0 rest) k (omega arith))

  pub made_all : (ys : List B) (n : ℕ) → IsFromFnResult g s ys n → ys ≡ map f (range_with_len 0 n)
  made_all ys n r =
      fill_by_all f ys n d r.long
      (λ k h. let here : 0 + k ≡ k = omega arith in subst (λ j. get_or ys j d ≡ f j) here (made ys 0 n r.each k h))
