-- Each number is kept or 0.
use Rattle.std.proofs.Common.{◌*◌, rules, tests}
use Rattle.week.specs.Bridge.{kept_at}
use Rattle.week.proofs.Made.{made_all}
use Rattle.week.proofs.kept.Goals as goal

pub returns : goal.returns
returns c =
    made_all _ (kept_at (2 * c.args.count) c.args.windows.now) _ 0 (λ i y t call. search (rules, tests)) c.from_fn.result 16 c.from_fn.ensures.items
