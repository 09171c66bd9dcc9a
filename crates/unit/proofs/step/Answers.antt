-- Each event is handled by its own function, with what it changes; the rest stays.
use Rattle.std.proofs.Common.{rules, ◌≡◌, Err, to_z, of_z, w16}
use Rattle.rules.specs.Events.{measurement}
use Rattle.unit.proofs.Given.{same_event}
use Rattle.unit.proofs.step.Goals as goal

pub returns-in_err-on_measurement-in-Measurement-clause-gives : goal.returns-in_err-on_measurement-in-Measurement-clause-gives
returns-in_err-on_measurement-in-Measurement-clause-gives c b suits =
    let a = c.args in
    let e : c.from_residual.result ≡ Err c.in_err-on_measurement-in-Measurement.field-0.0 = search rules in
    let offset : to_z w16 (of_z w16 c.in-Measurement.offset) ≡ c.in-Measurement.offset = search rules in
    rw (e, c.in-Measurement.is)
    (same_event (λ i. measurement c.in-Measurement.i (offset i)) (c.in_err-on_measurement-in-Measurement.ensures a.k b a.h.now a.windows.now))

pub returns-in-Hit-clause-gives : goal.returns-in-Hit-clause-gives
returns-in-Hit-clause-gives c b suits = rw c.in-Hit.is (c.on_hit.ensures b c.args.h.now c.args.windows.now c.args.regs.now)

pub returns-in_err-next-in-Write-clause-gives : goal.returns-in_err-next-in-Write-clause-gives
returns-in_err-next-in-Write-clause-gives c b suits =
    let e : c.from_residual-in_err-next-in-Write.result ≡ Err c.in_err-next-in-Write.field-0.0 = search rules in
    rw (e, c.in-Write.is) (c.in_err-next-in-Write.ensures.gives c.args.m.now b c.args.windows.now)
