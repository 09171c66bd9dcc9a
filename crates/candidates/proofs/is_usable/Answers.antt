-- Free Run is candidate 9, in slot 8; an input has its bit of the mask.
use Rattle.std.proofs.Common.{refl, arith, ◌≡◌, ◌+◌, ◌-◌, ◌≤◌}
use borrow.Author.Tests.{ne_eqb}
use Rattle.rules.specs.Registers.{settings_from, slot}
use Rattle.rules.specs.Settings.{usable}
use Rattle.rules.specs.Words.{bit}
use Rattle.rules.proofs.Tests.{is_between}
use Rattle.candidates.proofs.is_usable.Goals as goal

pub returns-then-k-eq-FREE_RUN_SLOT : goal.returns-then-k-eq-FREE_RUN_SLOT
unfolding usable bit settings_from slot
returns-then-k-eq-FREE_RUN_SLOT c = rw c.if-k-eq-FREE_RUN_SLOT.true refl

pub returns : goal.returns
unfolding usable bit settings_from slot
returns c =
    let k = c.args.k in
    let few : k + 1 ≤ 8 = omega (arith, c.requires, c.if-k-eq-FREE_RUN_SLOT.false) in
    let at : k + 1 - 1 ≡ k = omega arith in
    rw (ne_eqb (k + 1) 9 (λ e. omega (arith, few, e)), is_between 1 8 (k + 1) (omega arith) few, at) refl
