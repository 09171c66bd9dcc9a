-- A byte more, up to the last register.
use Rattle.std.proofs.Common.{refl, length-set, arith}
use Rattle.rules.specs.Registers as rules
use Rattle.registers.proofs.Slots.{same_settings}
use Rattle.registers.proofs.Fresh.{none_put, one_put, all_put}
use Rattle.registers.proofs.fresh_registers.Goals as goal

pub loop-k-init : goal.loop-k-init
loop-k-init c = (refl, none_put)

pub loop-k-preserved : goal.loop-k-preserved
loop-k-preserved c =
    let was = c.loop-k.invariant in
    (simp length-set was.0, one_put c.loop-k.regs c.loop-k.k c.fresh_at.result was.0 c.loop-k-test.true c.fresh_at.ensures was.1)

pub returns : goal.returns
returns c = same_settings c.loop-k.regs rules.fresh_table (λ j le. all_put c.loop-k.regs c.loop-k.k j (omega arith) le c.loop-k.invariant.1)
