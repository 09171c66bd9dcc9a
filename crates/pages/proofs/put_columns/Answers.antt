-- The columns one after the other, a blank between them, and a line feed.
use Rattle.rules.specs.Pages.{record_columns}
use Rattle.digits.proofs.Putting.{then}
use Rattle.pages.proofs.put_columns.Goals as goal

pub returns : goal.returns
unfolding record_columns
returns c =
    let first = then c.put_word-next.ensures (then c.put-next.ensures c.put_word-next-2.ensures) in
    let second = then first (then c.put-next-2.ensures c.put_word-next-3.ensures) in
    let third = then second (then c.put-next-3.ensures c.put_word-next-4.ensures) in
    rw (
      ← c.digits_of.ensures.columns,
      ← c.name_of.ensures,
      ← c.from.ensures,
      ← c.digits_of-2.ensures.columns,
      ← c.from-2.ensures,
      ← c.digits_of-3.ensures.columns,
    )
    (then (then third c.put_hexadecimal-next.ensures) c.put.ensures)
