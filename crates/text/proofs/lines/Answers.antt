-- A line more, and at the end those of all records.
use Rattle.std.proofs.Common.{◌/◌, ◌≡◌, length, arith}
use Rattle.rules.specs.Printout.{records_word, record_lines}
use Rattle.digits.proofs.Putting.{nothing, then}
use Rattle.text.specs.Text.{records_text}
use Rattle.text.proofs.Line.{next_line}
use Rattle.text.proofs.lines.Goals as goal

pub loop-i-init : goal.loop-i-init
unfolding record_lines
loop-i-init c = nothing

pub loop-i-preserved : goal.loop-i-preserved
loop-i-preserved c = rw (next_line _ c.loop-i.i _ c.as_chunks.ensures.front (omega arith)) (then c.loop-i.invariant c.put_line-next.ensures)

pub returns : goal.returns
unfolding records_text records_word
returns c =
    let all : c.loop-i.i ≡ length c.args.records.now / 4 = omega arith in
    then (rw c.as_chunks.ensures.front_len at c.put_head-next.ensures) (rw all at c.loop-i.invariant)
