-- Each pair is weighed as its window.
use Rattle.std.proofs.Common.{◌&&◌, get_or, rules, tests, ◌∙◌}
use Rattle.std.proofs.lemmas.Iterator.{YieldsList-from_slice}
use Rattle.std.proofs.lemmas.Iterator.Search.{any_from_yields_List}
use lib.Dec.{leb, ltb}
use Rattle.week.proofs.Windows.{busy_pairs}
use Rattle.week.proofs.is_busy.Goals as goal

pub returns : goal.returns
returns c =
    let p = c.args.place in
    any_from_yields_List (λ w. leb (get_or w 0 0) p && ltb p (get_or w 1 0)) _ _ _ c.any.ensures.ran (YieldsList-from_slice c.pairs.result.now cc)
    (λ x b q k. search (rules, tests))
    ∙ busy_pairs c.pairs.result.now c.args.windows.now p c.pairs.ensures
