-- A refused sheet writes nothing; else the settings' records are written at the front, and the events' behind them.
use Rattle.std.proofs.Common.{refl, arith, ◌≡◌, ◌+◌, ◌*◌, ◌≤◌, ℕ, List, [], sym, ap, ◌∙◌, length, length-drop}
use Rattle.rules.specs.Sheet.{check, front, record_count, over, output_after}
use Rattle.rules.proofs.Sheets.{outputs}
use Rattle.rules.proofs.Parts.{part_all}
use Rattle.refusals.proofs.Numbers.{refused as no_zero}
use Rattle.run.proofs.Ran.{refused, all_written}
use Rattle.run.proofs.run_into.Goals as goal
use Rattle.run.proofs.run_into.Goals.{In_default}

-- a refused sheet gives nothing
nothing : (c : In_default) → front c.args.sheet.now (length c.args.out.now) ≡ []
nothing c = refused c.args.sheet.now (length c.args.out.now) (λ z. no_zero c.in_default.field-0 (c.in_default.ensures.number ∙ z))

pub returns-in_default-clause-value : goal.returns-in_default-clause-value
returns-in_default-clause-value c = sym (ap length (nothing c))

pub returns-in_default-clause-out_after : goal.returns-in_default-clause-out_after
unfolding output_after
returns-in_default-clause-out_after c = sym (ap (λ (l : List ℕ). over l c.args.out.now) (nothing c))

pub returns-clause-value : goal.returns-clause-value
unfolding record_count
returns-clause-value c =
    let a = c.args in
    let n = c.in-Ok.ensures.counts in
    omega (arith, (outputs a.sheet.now a.out.now (sym c.in-Ok.ensures.number)).written, n.0, n.1)

pub returns-clause-out_after : goal.returns-clause-out_after
returns-clause-out_after c =
    let a = c.args in
    let u = c.fresh-fresh.result in
    let settled = c.run_settings-core.ensures in
    let n = c.in-Ok.ensures.counts in
    all_written a.sheet.now a.out.now c.run_settings-core.new.out c.run_events.new.out _ _ _ _
    (sym c.in-Ok.ensures.number) n.0 n.1
    c.fresh-fresh.ensures (settled.rule u.buckets u.windows) (settled.out_after u.buckets u.windows) c.run_events.ensures
