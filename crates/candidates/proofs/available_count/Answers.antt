-- The count of available references: the ones of their mask.
use Rattle.std.proofs.Common.{ap, ◌∙◌}
use lib.Count.{ones}
use Rattle.rules.specs.Registers.{settings_from}
use Rattle.rules.specs.Selection.{available}
use Rattle.inputs.specs.Bridge.{inputs_of}
use Rattle.candidates.proofs.Ones.{ones_mask}
use Rattle.candidates.proofs.available_count.Goals as goal

pub returns : goal.returns
returns c =
    ap ones c.available_mask.ensures ∙ (ones_mask (available (settings_from c.args.regs.now) (inputs_of c.args.m.now)) 8).0
