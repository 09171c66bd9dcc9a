-- As the write itself; keys and floor are made of the registers as they then are.
use Rattle.std.proofs.Common.{rules, refl, ◌≡◌, Err}
use Rattle.refusals.proofs.Numbers.{refused}
use Rattle.unit.proofs.Followed.{delay_follows}
use Rattle.unit.proofs.write.Goals as goal

pub returns-in_err-next-clause-gives : goal.returns-in_err-next-clause-gives
returns-in_err-next-clause-gives c m b w =
    let e : c.from_residual.result ≡ Err c.in_err-next.field-0.0 = search rules in
    rw e (c.in_err-next.ensures.gives m b w)

pub returns-in_err-next-clause-follows : goal.returns-in_err-next-clause-follows
returns-in_err-next-clause-follows c follows = rw (c.in_err-next.ensures.regs_left (refused c.in_err-next.field-0.0)) follows

pub returns-clause-follows : goal.returns-clause-follows
returns-clause-follows c follows =
    record {
      keyed = c.keys_of-handed.ensures;
      delayed = delay_follows _ _ c.args.a c.args.v _ _ (c.in_ok-next.ensures.regs_after refl) c.delay_after-handed.ensures follows.delayed;
    }
