-- The four bytes are what the rules read at 0x48, 0x46 and 0x49 behind the refusal.
use Rattle.std.proofs.Common.{◌∙◌}
use Rattle.rules.specs.Reading.{status_byte}
use Rattle.pll.specs.Bridge.{mode_of}
use Rattle.state.specs.Stored.{meaning, unit_of}
use Rattle.run.proofs.Parts.{four}
use Rattle.rules.proofs.Sheets.{record_is}
use Rattle.run.proofs.put_record.Goals as goal

pub returns : goal.returns
returns c b h w regs =
    let a = c.args in
    let status = c.status_byte-status.ensures
    ∙ (λ i. status_byte (mode_of a.k.pll.mode) (c.is_ready.ensures h.sums h.building h.backup i) (c.holds_backup.ensures h.sums h.building h.backup i)) in
    rw (record_is a.refusal (meaning (unit_of a.k a.m.now b h w regs)), ← c.state_byte-state.ensures, ← status, ← c.qualified_mask-qualified.ensures)
    (four _ _ _ _ a.out.now c.requires)
