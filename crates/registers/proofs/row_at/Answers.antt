-- The table is the rules' table, row by row.
use Rattle.std.proofs.Common.{ap, sym}
use Rattle.std.proofs.Math.ListN.{get_or-map, get_or-eq_default}
use Rattle.rules.specs.Registers as rules
use Rattle.registers.specs.Bridge.{row}
use Rattle.registers.proofs.row_at.Goals as goal

pub returns-then-k-lt-REGISTERS : goal.returns-then-k-lt-REGISTERS
unfolding rules.registers row
returns-then-k-lt-REGISTERS c = get_or-map row rules.registers c.args.k (rules.reads 0)

pub returns-else-k-lt-REGISTERS : goal.returns-else-k-lt-REGISTERS
unfolding rules.registers row
returns-else-k-lt-REGISTERS c = ap row (sym (get_or-eq_default rules.registers (rules.reads 0) {n = c.args.k} c.if-k-lt-REGISTERS.false))
