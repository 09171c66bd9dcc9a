-- The choice of a tick: automatic or manual.
use Rattle.std.proofs.Common.{ap, ◌∙◌}
use Rattle.rules.specs.Registers.{settings_from}
use Rattle.rules.specs.Week.{busy}
use Rattle.week.specs.Bridge.{windows_of}
use Rattle.rules.specs.Selection.{reselected, chosen}
use Rattle.inputs.specs.Bridge.{inputs_of}
use Rattle.selection.specs.Bridge.{choice_of}
use Rattle.selection.proofs.chosen.Goals as goal

pub returns-then-is_automatic : goal.returns-then-is_automatic
unfolding chosen
returns-then-is_automatic c f =
    let a = c.args in
    let S = settings_from a.regs.now in
    rw (← c.is_automatic.ensures, c.if-is_automatic.true)
    (c.reselected.ensures f.delayed
    ∙ ap (λ b. reselected (busy (windows_of a.windows.now) a.place) S (inputs_of a.m.now) b (choice_of a.c)) (c.best_of.ensures S f.keyed))
