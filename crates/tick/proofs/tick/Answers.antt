-- The five steps in order: what each leaves is what the next begins with.
use Rattle.std.proofs.Common.{ap, ◌∙◌, ◌&&◌, ◌-◌, if◌then◌else◌, to_z-of_z}
use Rattle.rules.specs.History.{recorded}
use Rattle.rules.specs.Inputs.{Inputs, altered}
use Rattle.rules.specs.Monitors.{lock_alarmed}
use Rattle.rules.specs.Pll.{locked, is, alarm_due}
use Rattle.rules.specs.Registers.{settings_from}
use Rattle.rules.specs.Selection.{chosen, steered}
use Rattle.rules.specs.State.{with_inputs, with_loop, with_choice, with_history, with_holding, with_week}
use Rattle.rules.specs.Tick.{watched, watched_after, inputs_after, loop_after, week_after, steps1to4, step5, holding_after, ticked}
use Rattle.rules.specs.Week.{busy}
use Rattle.rules.specs.Words.{is_tracked}
use Rattle.buckets.specs.Bridge.{bucket_at}
use Rattle.inputs.specs.Bridge.{inputs_of}
use Rattle.monitor.proofs.Rows.{watched_by}
use Rattle.history.specs.Bridge.{kept_in}
use Rattle.pll.specs.Bridge.{mode_of}
use Rattle.week.specs.Bridge.{windows_of, week_of}
use Rattle.selection.specs.Bridge.{choice_of}
use Rattle.state.specs.Stored.{meaning, unit_of}
use Rattle.tick.proofs.tick.Goals as goal

pub returns-clause-rule : goal.returns-clause-rule
unfolding watched_after inputs_after loop_after week_after steps1to4 step5 ticked
returns-clause-rule c b suits =
    let a = c.args in
    let k = a.k in
    let selected = k.choice.selected in
    let set = settings_from a.regs.now in
    let seen = c.watched.ensures.inputs
    ∙ (λ i. watched (λ j. bucket_at (suits.lanes i).sizes (suits.lanes i).highs (suits.lanes i).lows (suits.lanes i).lasts (j - 1)) a.mask (inputs_of a.m.now))
    ∙ watched_by b a.mask a.m.now in
    let loop = c.looped-driven.ensures in
    let inputs = c.alarmed.ensures.inputs
    ∙ (λ i. if is_tracked selected && alarm_due (loop i) then altered lock_alarmed selected (seen i) else seen i) in
    let choice = c.chosen-choice.ensures suits.follows ∙ ap (λ (l : Inputs). chosen (busy (windows_of a.windows.now) k.place) set l (choice_of k.choice)) inputs in
    let steering = c.steered-pll.ensures
    ∙ (λ i. steered (c.is_automatic.ensures i) (c.setting.ensures i) (c.is_ready.ensures a.h.now.sums a.h.now.building a.h.now.backup i) selected (choice i).selected (loop i)) in
    let holding = c.holding_after-holding.ensures ∙ (λ i. holding_after (mode_of k.pll.mode) (steering i).mode k.holding) in
    let tracked = c.is_locked.ensures ∙ (λ i. is locked (steering i).mode) in
    let history = c.recorded-tally.ensures.rule
    ∙ (λ i. recorded (c.setting-2.ensures i) (choice i).selected (tracked i) (to_z-of_z c.ranges.x i) (kept_in k.tally a.h.now)) in
    λ i.
    with_inputs (inputs i)
    (with_loop (steering i)
    (with_choice (choice i)
    (with_history (history i)
    (with_holding (holding i)
    (with_week (week_of (c.advanced-place.ensures i) a.windows.now) (meaning (unit_of k a.m.now b a.h.now a.windows.now a.regs.now)))))))
