-- Accepted with a sample in range, or turned down with 7.
use Rattle.std.proofs.Common.{refl, arith, ap, ℤ, nat_abs, leb, to_z, of_z, w32, to_z-of_z}
use Rattle.rules.specs.Events.{tick_with, sample_limit}
use Rattle.rules.specs.Refusals.{refusal}
use Rattle.rules.specs.Run.{effect}
use Rattle.unit.proofs.Given.{accepted, turned_down, same_event}
use Rattle.unit.proofs.on_tick.Goals as goal

pub returns-then-in_range : goal.returns-then-in_range
unfolding refusal effect
returns-then-in_range c b suits =
    let a = c.args in
    let told = to_z-of_z c.ranges.x in
    same_event (λ i. tick_with a.mask a.lock (told i))
    (accepted _ _ (tick_with a.mask a.lock (to_z w32 (of_z w32 a.x)))
    (rw (← c.in_range.ensures, c.if-in_range.true) refl) refl (c.tick.ensures.rule b suits))

pub returns : goal.returns
unfolding refusal
returns c b suits =
    let a = c.args in
    turned_down _ (tick_with a.mask a.lock a.x)
    (rw (← ap (λ (x : ℤ). leb (nat_abs x) sample_limit) (to_z-of_z c.ranges.x), ← c.in_range.ensures, c.if-in_range.false) refl) (λ z. omega arith)
