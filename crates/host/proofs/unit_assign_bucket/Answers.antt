-- What the call ensures, of the unit that is lent.
use Rattle.host.proofs.unit_assign_bucket.Goals as goal

pub returns : goal.returns
returns c = let u = c.args.u.now in rw c.number.ensures (c.assign_bucket.ensures.gives u.core u.history u.windows u.regs)
