-- The byte in an address's slot is what is stored of the table's there.
use Rattle.std.proofs.Common.{rules, arith, ◌≡◌, ◌<◌, get_or}
use Rattle.rules.specs.Registers.{slot, stored, settings_from}
use Rattle.registers.proofs.Slots.{slot_le}
use Rattle.loading.proofs.registers_from.Goals as goal

pub returns : goal.returns
unfolding settings_from
returns c = λ i a.
    let below : slot a < 32 = omega (arith, slot_le a) in
    let made = c.from_fn.ensures.items.at (slot a) 0 below in
    let here : get_or c.from_fn.result (slot a) 0 ≡ stored a (settings_from c.args.table.now a) = search rules in
    here i
