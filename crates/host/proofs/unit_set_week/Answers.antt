-- What the call ensures, of the unit that is lent.
use Rattle.host.proofs.unit_set_week.Goals as goal

pub returns : goal.returns
returns c = let u = c.args.u.now in rw c.number.ensures (c.set_week.ensures u.monitors u.buckets u.history u.windows u.regs)
