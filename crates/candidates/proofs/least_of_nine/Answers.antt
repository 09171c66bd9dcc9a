-- The least of nine: the halves' pairs are the same nine, in another order (`halves`).
use Rattle.std.proofs.Common.{min, ap, ◌∙◌, get_or}
use Rattle.candidates.proofs.Keys.{swapped, halves}
use Rattle.candidates.proofs.least_of_nine.Goals as goal

pub returns : goal.returns
returns c =
    let k = c.args.k in
    let front = c.min.ensures ∙ (λ i. min (c.min-a.ensures i) (c.min-c.ensures i)) in
    let back = c.min-2.ensures ∙ (λ i. min (c.min-b.ensures i) (c.min-d.ensures i)) in
    let all = c.min-3.ensures ∙ (λ i. min (front i) (back i)) in
    let sorted =
    halves (get_or k 0 0) (get_or k 1 0) (get_or k 2 0) (get_or k 3 0) (get_or k 4 0) (get_or k 5 0) (get_or k 6 0) (get_or k 7 0) in
    c.min-4.ensures ∙ ap (λ x. min x c.args.ninth) (all ∙ sorted) ∙ swapped _ c.args.ninth
