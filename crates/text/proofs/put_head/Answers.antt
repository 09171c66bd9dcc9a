-- The word, the number and a line feed.
use Rattle.rules.specs.Printout.{head_line}
use Rattle.digits.proofs.Putting.{then}
use Rattle.text.proofs.put_head.Goals as goal

pub returns : goal.returns
unfolding head_line
returns c = then (then c.put_word-number.ensures c.put_decimal-end.ensures) c.put.ensures
