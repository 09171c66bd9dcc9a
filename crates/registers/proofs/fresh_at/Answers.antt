-- A row's Fresh is that of the rules' row.
use Rattle.std.proofs.Common.{rules}
use Rattle.registers.proofs.Table.{fresh_here}
use Rattle.registers.proofs.fresh_at.Goals as goal

pub returns : goal.returns
returns c = fresh_here c.args.k c.map_or.result c.row_at.result c.row_at.ensures (search rules)
