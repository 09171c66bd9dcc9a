-- The front part of what `run_into` left, as long as it says.
use Rattle.std.proofs.Common.{◌≡◌, ap, sym, ◌∙◌, length, take}
use Rattle.rules.specs.Sheet as rules
use Rattle.rules.proofs.Sheets.{front_part}
use Rattle.run.proofs.run.Goals as goal
use Rattle.run.proofs.run.Goals.{After-run_into-n}

front : (c : After-run_into-n) → take c.run_into-n.result c.run_into-n.new.out ≡ rules.front c.args.sheet.now (length c.args.out.now)
front c =
    let a = c.args in
    ap (take c.run_into-n.result) c.run_into-n.ensures.out_after ∙ front_part a.sheet.now a.out.now c.run_into-n.result c.run_into-n.ensures.value

pub slice_bounds-result-end : goal.slice_bounds-result-end
slice_bounds-result-end c = c.run_into-n.ensures.value ∙ sym (ap length (front (goal.at.slice_bounds-result-end c).After-run_into-n))

pub returns-clause-result_value : goal.returns-clause-result_value
returns-clause-result_value c = front (goal.at.returns-clause-result_value c).After-run_into-n
