-- What is handed on is a floor of the registers' delay after a write too.
use Rattle.std.specs.Prelude.{if◌then◌else◌}
use Prim.Native.Nat.{ℕ, ◌≤◌}
use mathlib.Core.Path.{◌≡◌, refl, ap, sym, ◌∙◌}
use native.Mathlib.Omega.{arith}
use mathlib.Core.Bool.{false}
use lib.Dec.{eqb}
use borrow.Author.Tests.{eqb-false, ne_eqb}
use Rattle.rules.specs.Settings.{Settings, delay, delay_ticks, reversion}
use Rattle.rules.specs.Registers.{written}
use Rattle.rules.proofs.Tests.{if_case}

-- a write at another address leaves the minutes
same_minutes : (set : Settings) (a v : ℕ) → eqb a 0x43 ≡ false → (if eqb a 0x26 then set else written a v set) 0x43 ≡ set 0x43
unfolding written
same_minutes set a v other =
    if_case (λ (f : Settings). f 0x43 ≡ set 0x43) (eqb a 0x26) (λ _. refl)
    (λ _. rw (ne_eqb 0x43 a (λ e. eqb-false a 0x43 other (sym e))) refl)

pub delay_follows : (set after : Settings) (a v n m : ℕ)
    → after ≡ (if eqb a 0x26 then set else written a v set)
    → m ≡ (if eqb a 0x43 then delay_ticks (delay after) else n)
    → n ≤ reversion set
    → m ≤ reversion after
delay_follows set after a v n m is made follows =
    rw made
    (if_case (λ k. k ≤ reversion after) (eqb a 0x43)
    (λ _. omega arith)
    (λ other.
    let same : delay after ≡ delay set = ap delay is ∙ same_minutes set a v other in
    rw same follows))
