-- The table of waits: each of its 256 numbers is the rule's, which antt computes at that delay.
use Rattle.std.proofs.Common.{◌∙◌, ap, arith}
use Rattle.std.proofs.lemmas.List.FromFn.{get_or-map-range_with_len}
use Rattle.rules.specs.Settings.{delay_ticks}
use Rattle.waits.proofs.delay_ticks.Goals as goal

pub returns : goal.returns
unfolding delay_ticks
returns c = get_or-map-range_with_len delay_ticks 0 256 c.from.result c.from.result 0 (omega arith) (omega arith) ∙ ap delay_ticks c.from.ensures
