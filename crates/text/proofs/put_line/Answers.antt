-- The fields of a record one after the other.
use Rattle.rules.specs.Printout.{hexadecimal, record_line}
use Rattle.digits.proofs.Putting.{then}
use Rattle.text.proofs.put_line.Goals as goal

pub returns : goal.returns
unfolding record_line hexadecimal
returns c =
    let numbers = then c.put_decimal-next.ensures (then c.put-next.ensures c.put_decimal-next-2.ensures) in
    let bytes = then (then (then numbers c.put_hexadecimal-next.ensures) c.put_hexadecimal-next-2.ensures) c.put_hexadecimal-next-3.ensures in
    rw (← c.from.ensures) (then bytes c.put.ensures)
