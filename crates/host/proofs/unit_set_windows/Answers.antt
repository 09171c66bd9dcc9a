-- What the call ensures, of the unit that is lent.
use Rattle.host.proofs.unit_set_windows.Goals as goal

pub returns : goal.returns
returns c = let u = c.args.u.now in rw c.number.ensures (c.set_windows.ensures u.core u.monitors u.buckets u.history u.regs)
