-- Each row is that of the rule's numbers, and by lanes these are the rule's inputs (`rows_after`).
use Rattle.std.proofs.Common.{◌∙◌, get_or}
use Rattle.rules.specs.Monitors.{level_after, good, soak_after}
use Rattle.buckets.specs.Bridge.{eight, ticks_of}
use Rattle.inputs.specs.Bridge.{is_set, inputs_of}
use Rattle.monitor.specs.Rows.{decay_number, activity_number}
use Rattle.monitor.proofs.Rows.{rows_after}
use Rattle.monitor.proofs.watched.Goals as goal

pub returns-clause-inputs : goal.returns-clause-inputs
returns-clause-inputs c =
    let m = c.args.m.now in
    let n = c.args.n.now in
    let b = c.irregular_row-bad.ensures in
    let level = c.level_row-level.ensures
    ∙ (λ i. eight (λ k. level_after (get_or n.sizes k 0) (ticks_of (get_or n.lasts k 0)) (is_set (get_or (b i) k 0)) (get_or m.level k 0) (get_or m.decay k 0))) in
    let decay = c.decay_row-decay.ensures ∙ (λ i. eight (λ k. decay_number (get_or n.lasts k 0) (get_or (b i) k 0) (get_or m.decay k 0))) in
    let activity = c.activity_row-activity.ensures
    ∙ (λ i. eight (λ k. activity_number (get_or n.highs k 0) (get_or n.lows k 0) (get_or (level i) k 0) (get_or m.activity k 0))) in
    let remainder = c.remainder_row-remainder.ensures in
    let soak = c.soak_row-m.ensures
    ∙ (λ i. eight (λ k. soak_after (good (is_set (get_or (activity i) k 0)) (is_set (get_or m.frequency k 0)) (get_or (remainder i) k 0)) (get_or m.soak k 0))) in
    (λ i. inputs_of (record {
      level = level i;
      decay = decay i;
      activity = activity i;
      frequency = m.frequency;
      remainder = remainder i;
      soak = soak i;
    }))
    ∙ rows_after n c.args.mask m
