-- The bytes before slot k are those of the column Fresh.
use Rattle.std.proofs.Common.{◌≡◌, length}
use Rattle.registers.proofs.Fresh.{Put}
use Rattle.registers.proofs.fresh_registers.Given as goal

abbrev pub invariant-loop-k : goal.invariant-loop-k
invariant-loop-k l = (length l.regs ≡ 32) × Put l.regs l.k
