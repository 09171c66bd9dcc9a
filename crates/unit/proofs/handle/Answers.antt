-- Each event is handled by its own function, with what it changes; the rest stays.
use Rattle.std.proofs.Common.{rules, ◌≡◌, Err, to_z, of_z, w16}
use Rattle.rules.specs.Events.{measurement}
use Rattle.unit.proofs.Given.{same_event}
use Rattle.unit.proofs.handle.Goals as goal

pub returns-in_err-on_measurement-in-Measurement-clause-gives : goal.returns-in_err-on_measurement-in-Measurement-clause-gives
returns-in_err-on_measurement-in-Measurement-clause-gives c =
    let u = c.args.u.now in
    let e : c.from_residual-in_err-on_measurement-in-Measurement.result ≡ Err c.in_err-on_measurement-in-Measurement.field-0.0 = search rules in
    let offset : to_z w16 (of_z w16 c.in-Measurement.offset) ≡ c.in-Measurement.offset = search rules in
    rw (e, c.in-Measurement.is)
    (same_event (λ i. measurement c.in-Measurement.i (offset i)) (c.in_err-on_measurement-in-Measurement.ensures u.core u.buckets u.history u.windows))

pub returns-in_err-u-in-Hit-clause-gives : goal.returns-in_err-u-in-Hit-clause-gives
returns-in_err-u-in-Hit-clause-gives c =
    let u = c.args.u.now in
    let e : c.from_residual-in_err-u-in-Hit.result ≡ Err c.in_err-u-in-Hit.field-0.0 = search rules in
    rw (e, c.in-Hit.is) (c.in_err-u-in-Hit.ensures u.buckets u.history u.windows u.regs)

pub returns-in_err-u-in-Write-clause-gives : goal.returns-in_err-u-in-Write-clause-gives
returns-in_err-u-in-Write-clause-gives c =
    let u = c.args.u.now in
    let e : c.from_residual-in_err-u-in-Write.result ≡ Err c.in_err-u-in-Write.field-0.0 = search rules in
    rw (e, c.in-Write.is) (c.in_err-u-in-Write.ensures.gives u.monitors u.buckets u.windows)
