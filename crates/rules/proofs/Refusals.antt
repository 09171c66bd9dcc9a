-- Events and registers: a refused event, a fresh unit, the bits of the value.
use Prim.Native.Nat.{◌-◌, ◌%◌}
use mathlib.Core.Path.{◌≡◌, refl, ap}
use mathlib.Core.Bool.{false}
use native.Mathlib.Omega.{arith}
use lib.IntN.{pos, negsuc}
use borrow.Author.Tests.{lt-ltb, le-ltb}
use Rattle.rules.specs.History.{ready, fresh_history}
use Rattle.rules.specs.State.{State, Ready}
use Rattle.rules.specs.Registers.{fresh_with}
use Rattle.rules.specs.Reading.{twos}
use Rattle.rules.specs.Run.{next}
use Rattle.rules.specs.Sheet.{signed}
use Rattle.rules.specs.Laws.{TwosComplement, NotReady, Refused}
use Rattle.rules.proofs.Loading.{each_fresh}

pub refused : Refused
unfolding next
refused s e r = rw r refl

pub not_ready : NotReady
unfolding ready fresh_with fresh_history
not_ready = each_fresh (λ (s : State). Ready s ≡ false) (λ set. refl)

pub twos_complement : TwosComplement
unfolding twos signed
twos_complement (pos n) h = rw (lt-ltb (n % 4_294_967_296) 2_147_483_648 (omega arith)) (ap pos (omega arith))
twos_complement (negsuc n) h =
    rw (le-ltb (4_294_967_295 - n % 4_294_967_296) 2_147_483_648 (omega arith)) (ap negsuc (omega arith))
