-- A command changes the history alone; any other write the settings alone.
use Rattle.std.proofs.Common.{◌∙◌, if◌then◌else◌}
use borrow.Author.Tests.{eq-eqb, ne_eqb}
use Rattle.rules.specs.Registers.{written, settings_from}
use Rattle.rules.specs.Run.{after_write}
use Rattle.rules.specs.State.{with_history, with_settings}
use Rattle.state.specs.Stored.{meaning, unit_of, with_tally}
use Rattle.unit.proofs.write_accepted.Goals as goal

pub returns-then-a-eq38-clause-rule : goal.returns-then-a-eq38-clause-rule
unfolding after_write
returns-then-a-eq38-clause-rule c k m b w known =
    let a = c.args in
    rw (eq-eqb a.a 0x26 c.if-a-eq38.true)
    (λ i. with_history (c.commanded.ensures i) (meaning (unit_of (with_tally a.t k) m b a.h.now w a.regs.now)))

pub returns-clause-rule : goal.returns-clause-rule
unfolding after_write
returns-clause-rule c k m b w known =
    let a = c.args in
    let set = settings_from a.regs.now in
    rw (ne_eqb a.a 0x26 c.if-a-eq38.false)
    (λ i.
    with_settings ((c.written.ensures ∙ (λ j. if known j then written a.a a.v set else set)) i)
    (meaning (unit_of (with_tally a.t k) m b a.h.now w a.regs.now)))
