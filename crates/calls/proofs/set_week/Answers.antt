-- Accepted within the week, or turned down with 16.
use Rattle.std.proofs.Common.{rules, refl, ◌≡◌, Err}
use Rattle.rules.specs.Events.{set_week}
use Rattle.rules.specs.Refusals.{refusal}
use Rattle.rules.specs.Run.{effect}
use Rattle.refusals.proofs.Numbers.{refused}
use Rattle.unit.proofs.Given.{accepted, turned_down}
use Rattle.calls.proofs.set_week.Goals as goal

pub returns-in_err-check_week : goal.returns-in_err-check_week
unfolding refusal
returns-in_err-check_week c m b h w regs =
    let r = c.in_err-check_week.field-0.0 in
    let e : c.from_residual.result ≡ Err r = search rules in
    rw e (turned_down _ (set_week c.args.place) c.in_err-check_week.ensures (refused r))

pub returns : goal.returns
unfolding refusal effect
returns c m b h w regs = accepted _ _ (set_week c.args.place) c.in_ok-check_week.ensures refl refl
