-- Of the four halves that of a set is half of its word.
use Rattle.std.proofs.Common.{arith, ◌∙◌, ◌/◌, ◌%◌, ℕ, [], ◌∷◌, get_or}
use Rattle.std.proofs.Math.Nat.{mod-lt}
use Rattle.buckets.specs.Bridge.{eight, word_of}
use Rattle.buckets.proofs.Sets.{four_at}
use Rattle.buckets.proofs.halves.Goals as goal

pub returns : goal.returns
returns c =
    let b = c.args.b.now in
    let half : ℕ → ℕ = λ k. get_or b.sets k 0 / c.args.unit % 65_536 in
    c.of_sets.ensures
    ∙ (λ i. eight (word_of (c.half_of.ensures i ∷ c.half_of-2.ensures i ∷ c.half_of-3.ensures i ∷ c.half_of-4.ensures i ∷ []) b.assigned))
    ∙ (λ i. eight (λ k. four_at half 0 (get_or b.assigned k 0 % 4) (mod-lt (get_or b.assigned k 0) (omega arith)) i))
