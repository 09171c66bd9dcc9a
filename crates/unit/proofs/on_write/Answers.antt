-- Accepted when the registers' test finds nothing, or turned down with what it finds.
use Rattle.std.proofs.Common.{refl, ◌≡◌, sym, ◌∙◌, Bool, ℕ}
use Rattle.rules.specs.Events.{write}
use Rattle.rules.specs.History.{ready, held}
use Rattle.rules.specs.Refusals.{write_refusal, refusal}
use Rattle.rules.specs.Registers.{settings_from}
use Rattle.rules.specs.Run.{effect}
use Rattle.refusals.proofs.Numbers.{refused}
use Rattle.writes.proofs.Writes.{accepted_in_map}
use Rattle.state.specs.Stored.{Stored, meaning, unit_of}
use Rattle.unit.proofs.Given.{accepted, turned_down}
use Rattle.unit.proofs.on_write.Goals as goal

-- the number, by what a write depends on
found : (s : Stored) (a v : ℕ) {n : ℕ} {isReady is_held : Bool}
    → n ≡ write_refusal (settings_from s.regs) isReady is_held a v
    → isReady ≡ ready (meaning s).history → is_held ≡ held (meaning s).history.backup
    → n ≡ refusal (meaning s) (write a v)
unfolding refusal
found s a v number full kept = number ∙ (λ i. write_refusal (settings_from s.regs) (full i) (kept i) a v)

pub returns-in-Err-clause-gives : goal.returns-in-Err-clause-gives
returns-in-Err-clause-gives c m b w =
    let a = c.args in
    let h = a.h.now in
    turned_down _ (write a.a a.v) (found (unit_of a.k m b h w a.regs.now) a.a a.v c.in-Err.ensures (c.is_ready.ensures h.sums h.building h.backup) (c.holds_backup.ensures h.sums h.building h.backup)) (refused c.in-Err.r)

pub returns-clause-gives : goal.returns-clause-gives
unfolding effect
returns-clause-gives c m b w =
    let a = c.args in
    let h = a.h.now in
    let known = accepted_in_map (settings_from a.regs.now) c.is_ready.result c.holds_backup.result a.a a.v (sym c.in_default.ensures) in
    accepted _ _ (write a.a a.v) (found (unit_of a.k m b h w a.regs.now) a.a a.v c.in_default.ensures (c.is_ready.ensures h.sums h.building h.backup) (c.holds_backup.ensures h.sums h.building h.backup)) refl
    (c.write_accepted.ensures.rule a.k m b w known)

pub returns-clause-regs_after : goal.returns-clause-regs_after
returns-clause-regs_after c none =
    let a = c.args in
    let known = accepted_in_map (settings_from a.regs.now) c.is_ready.result c.holds_backup.result a.a a.v (sym c.in_default.ensures) in
    c.write_accepted.ensures.regs_after known
