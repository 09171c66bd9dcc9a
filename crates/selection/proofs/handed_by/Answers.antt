-- The floor is that of the settings' delay (`floor_le`).
use Rattle.std.proofs.Common.{◌≤◌, ◌∙◌, ap, sym, subst}
use Rattle.rules.specs.Registers.{settings_from}
use Rattle.rules.specs.Settings.{reversion}
use Rattle.waits.specs.Floor.{delay_floor}
use Rattle.waits.proofs.Floor.{floor_le}
use Rattle.selection.proofs.handed_by.Goals as goal

pub returns : goal.returns
returns c =
    let S = settings_from c.args.regs.now in
    let floor = c.delay_floor.ensures ∙ ap delay_floor c.setting.ensures in
    record { keyed = c.keys_of.ensures; delayed = subst (λ n. n ≤ reversion S) (sym floor) (floor_le (S 0x43)) }
