-- The available mask: the eight tests are the rule's.
use Rattle.std.proofs.Common.{◌-◌, ◌∙◌, false, get_or}
use Rattle.rules.specs.Monitors.{qualified}
use Rattle.rules.specs.Reading.{mask_up_to}
use Rattle.rules.specs.Selection.{available}
use Rattle.inputs.specs.Bridge.{inputs_of}
use Rattle.candidates.proofs.available_mask.Goals as goal

pub returns : goal.returns
unfolding mask_up_to available qualified inputs_of
returns c = c.mask_of.ensures ∙ (λ i. mask_up_to (λ j. get_or (c.tests.ensures i) (j - 1) false) 8)
