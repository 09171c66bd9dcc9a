-- The automatic choice: an arm of the rule for each return.
use Rattle.std.proofs.Common.{refl, ℕ, ◌≡◌, Bool, true, false, not, if◌then◌else◌, ap, sym, ◌∙◌}
use borrow.Author.Tests.{eq-eqb, ne_eqb}
use Rattle.rules.specs.Selection.{candidate, settled, reverted, reselected}
use Rattle.rules.specs.Registers.{settings_from}
use Rattle.rules.specs.Week.{busy}
use Rattle.week.specs.Bridge.{windows_of}
use Rattle.rules.specs.Settings.{revertive, delay_ticks}
use Rattle.inputs.specs.Bridge.{inputs_of}
use Rattle.selection.specs.Bridge.{choice_of}
use Rattle.selection.proofs.reselected.Goals as goal

-- where the best is selected, both arms choose it
alike : {A : Type 0} (t : Bool) {x y : A} → x ≡ y → y ≡ (if not t then y else x)
alike true p = sym p
alike false p = refl

pub returns-then-c-b : goal.returns-then-c-b
unfolding reselected
returns-then-c-b c d =
    let a = c.args in
    let stands = candidate (settings_from a.regs.now) (inputs_of a.m.now) a.c.selected in
    rw (eq-eqb _ _ c.if-c-b.true) (c.settled.ensures ∙ alike stands (ap settled c.if-c-b.true))

pub returns-then-is_revertive : goal.returns-then-is_revertive
unfolding reselected
returns-then-is_revertive c d =
    let a = c.args in
    let reverts : revertive (settings_from a.regs.now) a.c.selected ≡ true = sym c.is_revertive.ensures ∙ c.if-is_revertive.true in
    let minutes = c.setting.ensures in
    rw (← c.is_candidate.ensures, c.if-is_candidate.true, ne_eqb _ _ c.if-c-b.false, reverts)
    (c.reverted.ensures (rw minutes d)
    ∙ ap (λ (k : ℕ). reverted (busy (windows_of a.windows.now) a.place) (delay_ticks k) a.b (choice_of a.c)) minutes)

pub returns-then-is_candidate : goal.returns-then-is_candidate
unfolding reselected
returns-then-is_candidate c d =
    let a = c.args in
    let stays : revertive (settings_from a.regs.now) a.c.selected ≡ false = sym c.is_revertive.ensures ∙ c.if-is_revertive.false in
    rw (← c.is_candidate.ensures, c.if-is_candidate.true, ne_eqb _ _ c.if-c-b.false, stays)
    c.settled-then-is_candidate.ensures

pub returns : goal.returns
unfolding reselected
returns c d = rw (← c.is_candidate.ensures, c.if-is_candidate.false) c.settled-2.ensures
