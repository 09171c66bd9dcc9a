-- The eight tests are those of the eight inputs, so the masks are the same.
use Rattle.std.proofs.Common.{◌≡◌, ◌-◌, ◌∙◌, get_or, false}
use Rattle.rules.specs.Monitors.{qualified}
use Rattle.rules.specs.Reading.{mask_up_to, qualified_mask}
use Rattle.inputs.specs.Bridge.{inputs_of}
use Rattle.inputs.proofs.Monitors.qualified_mask.Goals as goal

pub returns : goal.returns
unfolding qualified mask_up_to qualified_mask inputs_of
returns c = c.mask_of.ensures ∙ (λ t. mask_up_to (λ i. get_or (c.full.ensures t) (i - 1) false) 8)
