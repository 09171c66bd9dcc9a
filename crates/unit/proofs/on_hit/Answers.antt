-- Accepted with a reference 1 to 8 selected, or turned down with 5.
use Rattle.std.proofs.Common.{refl, arith, ap, ◌∙◌}
use Rattle.rules.specs.Events.{hit}
use Rattle.rules.specs.Refusals.{refusal}
use Rattle.rules.specs.Run.{effect, after_hit}
use Rattle.rules.specs.Selection.{unselected_loop}
use Rattle.rules.specs.State.{with_inputs, with_loop, with_choice, with_history, with_holding}
use Rattle.state.specs.Stored.{meaning, unit_of}
use Rattle.unit.proofs.Given.{accepted, turned_down}
use Rattle.unit.proofs.on_hit.Goals as goal

pub returns-then-is_input : goal.returns-then-is_input
unfolding refusal effect after_hit
returns-then-is_input c b h w regs =
    accepted _ _ hit (rw (← c.is_input.ensures.tracked, c.if-is_input.true) refl) refl
    (λ i.
    with_inputs (c.unsoak.ensures.inputs i)
    (with_loop ((c.loop_after_hit.ensures ∙ ap unselected_loop (c.is_ready.ensures h.sums h.building h.backup)) i)
    (with_choice (c.settled.ensures i)
    (with_history (c.open_emptied.ensures h.sums h.building h.backup i)
    (with_holding 0 (meaning (unit_of c.args.k c.args.m.now b h w regs)))))))

pub returns : goal.returns
unfolding refusal
returns c b h w regs = turned_down _ hit (rw (← c.is_input.ensures.tracked, c.if-is_input.false) refl) (λ z. omega arith)
