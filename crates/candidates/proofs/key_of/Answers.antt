-- Candidate k + 1 has its register in slot k (`own_slot`).
use Rattle.std.proofs.Common.{refl, arith, ◌≡◌, ◌+◌, ◌*◌, ◌%◌, ◌∙◌, sym, ap, if◌then◌else◌, add_assoc}
use Rattle.rules.specs.Registers.{settings_from}
use Rattle.rules.specs.Settings.{priority}
use Rattle.candidates.specs.Keys.{no_key, settings_key}
use Rattle.candidates.proofs.Keys.{own_slot}
use Rattle.candidates.proofs.key_of.Goals as goal

pub returns : goal.returns
unfolding settings_key priority
returns c =
    let k = c.args.k in
    let set = settings_from c.args.regs.now in
    let byte = c.from.ensures ∙ ap (λ n. n % 8) (sym (own_slot c.args.regs.now k c.requires)) in
    let key = add_assoc (c.from.result * 16) k 1 ∙ ap (λ n. n * 16 + (k + 1)) byte in
    c.either.ensures ∙ (λ i. if c.is_usable.ensures i then key i else no_key)
