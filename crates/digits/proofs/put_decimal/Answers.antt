-- The digits alone, from the column of the first on.
use Rattle.std.proofs.Common.{ℕ, List, subst, arith}
use Rattle.digits.specs.Puts.{Puts}
use Rattle.digits.proofs.Columns.{twenty, from_start}
use Rattle.digits.proofs.put_decimal.Goals as goal

pub returns : goal.returns
returns c =
    subst (λ (text : List ℕ). Puts text c.args.at c.args.out.now c.put_word.result c.put_word.new.out)
    (from_start 20 _ _ _ c.written-start.ensures.columns c.written-start.ensures.start (twenty c.args.n (omega arith))) c.put_word.ensures
