-- Each arm is a case of the rule: nothing builds; a history builds; the history that builds has 43 blocks.
use Rattle.std.proofs.Common.{arith, ◌+◌}
use mir.Facts.{to_z-of_z}
use Rattle.rules.specs.History.{saturated, with_blocks, open_emptied, replaced}
use Rattle.rules.proofs.Blocks.{completed_idle, completed_more, completed_full}
use Rattle.history.specs.Bridge.{kept_in}
use Rattle.history.proofs.Kept.{kept_push, pushed_length}
use Rattle.history.proofs.completed.Goals as goal

pub returns-then-t-eq0-clause-rule : goal.returns-then-t-eq0-clause-rule
unfolding with_blocks replaced
returns-then-t-eq0-clause-rule c =
    let a = c.args in
    let h = a.h.now in
    grind (
      arith,
      completed_idle (saturated a.sum) (kept_in a.t h) (grind arith),
      kept_push a.sum h.sums a.t.count (c.min.result + 1) (omega arith),
      to_z-of_z c.ranges.sum,
      c.replaced.ensures h.sums h.building c.push.new.sums h.building h.backup,
    )

pub returns-then-t-lt42-clause-rule : goal.returns-then-t-lt42-clause-rule
unfolding with_blocks open_emptied
returns-then-t-lt42-clause-rule c =
    let a = c.args in
    let h = a.h.now in
    grind (
      arith,
      completed_more (saturated a.sum) (kept_in a.t h) (grind arith) (omega (arith, pushed_length a.sum h.building a.t.built)),
      kept_push a.sum h.building a.t.built (a.t.built + 1) (omega arith),
      to_z-of_z c.ranges.sum,
      c.open_emptied.ensures h.sums c.push-2.new.sums h.backup,
    )

pub returns-clause-rule : goal.returns-clause-rule
unfolding with_blocks replaced
returns-clause-rule c =
    let a = c.args in
    let h = a.h.now in
    grind (
      arith,
      completed_full (saturated a.sum) (kept_in a.t h) (grind arith) (omega (arith, pushed_length a.sum h.building a.t.built)),
      kept_push a.sum h.building a.t.built (c.min-2.result + 1) (omega arith),
      to_z-of_z c.ranges.sum,
      c.replaced-2.ensures h.sums h.building c.push-2.new.sums c.push-2.new.sums h.backup,
    )
