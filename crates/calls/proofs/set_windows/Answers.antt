-- Accepted with windows that pass the check, or turned down with 16.
use Rattle.std.proofs.Common.{rules, refl, ◌≡◌, Err, ap, sym, ◌∙◌}
use borrow.Author.Tests.{eq-eqb}
use Rattle.rules.specs.Events.{set_windows}
use Rattle.rules.specs.State.{with_week}
use Rattle.rules.specs.Week.{windows_fit, first_windows}
use Rattle.rules.specs.Refusals.{windows_refusal, refusal}
use Rattle.rules.specs.Run.{effect}
use Rattle.rules.proofs.Tests.{zero_if}
use Rattle.refusals.proofs.Numbers.{refused}
use Rattle.week.specs.Bridge.{windows_of}
use Rattle.week.proofs.Storing.{stored_windows}
use Rattle.state.specs.Stored.{meaning, unit_of}
use Rattle.unit.proofs.Given.{accepted, turned_down}
use Rattle.calls.proofs.set_windows.Goals as goal

pub returns-in_err-check_windows : goal.returns-in_err-check_windows
unfolding refusal
returns-in_err-check_windows c k m b h regs =
    let r = c.in_err-check_windows.field-0.0 in
    let e : c.from_residual.result ≡ Err r = search rules in
    rw e (turned_down _ (set_windows (first_windows c.args.count c.args.windows.now)) c.in_err-check_windows.ensures (refused r))

pub returns : goal.returns
unfolding refusal effect windows_refusal
returns c k m b h regs =
    let a = c.args in
    let windows = first_windows a.count a.windows.now in
    let none = c.in_ok-check_windows.ensures in
    let fit = zero_if (windows_fit windows) 15 (eq-eqb (windows_refusal windows) 0 (sym none)) in
    let stored = ap windows_of c.kept.ensures ∙ stored_windows a.count a.windows.now fit in
    accepted _ _ (set_windows windows) none refl
    (λ i. with_week (record { place = k.place; windows = stored i }) (meaning (unit_of k m b h a.stored.now regs)))
