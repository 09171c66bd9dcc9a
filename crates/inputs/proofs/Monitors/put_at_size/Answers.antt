-- Three rows are replaced where an input is concerned, and by lanes these are the rule's inputs (`put_lane`).
use Rattle.std.proofs.Common.{◌≡◌, ◌∙◌, get_or}
use Rattle.rules.specs.Buckets.{put_at_size}
use Rattle.rules.specs.Inputs.{each_from}
use Rattle.buckets.specs.Bridge.{eight}
use Rattle.inputs.specs.Bridge.{is_set, inputs_of, with_activity}
use Rattle.inputs.proofs.ByLane.{put_lane}
use Rattle.inputs.proofs.Monitors.put_at_size.Goals as goal

pub returns-clause-inputs : goal.returns-clause-inputs
unfolding put_at_size each_from inputs_of
returns-clause-inputs c =
    let m = c.args.self.now in
    (λ i. inputs_of (with_activity m (c.replaced-self.ensures i) (c.replaced-self-2.ensures i) (c.replaced-self-3.ensures i)))
    ∙ (λ i. eight (λ k. put_lane (is_set (get_or c.args.concerned k 0)) c.args.size (get_or m.level k 0) (get_or m.decay k 0) (get_or m.activity k 0)
    (is_set (get_or m.frequency k 0)) (get_or m.remainder k 0) (get_or m.soak k 0) i))
