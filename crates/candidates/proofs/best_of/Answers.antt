-- The best candidate: the number of the least of the held keys and of Free Run's (`best_held`).
use Rattle.std.proofs.Common.{◌%◌, ap, ◌∙◌, get_or}
use Rattle.candidates.proofs.Keys.{least_of, best_held}
use Rattle.candidates.proofs.best_of.Goals as goal

pub returns : goal.returns
returns c set e =
    let keys = c.args.keys.now in
    let least = c.least_of_nine.ensures ∙ ap (λ row. least_of row (get_or keys 8 0)) c.held_row.ensures in
    c.from.ensures ∙ ap (λ n. n % 16) least ∙ best_held set c.args.m.now keys e
