-- The fields of an event by their cases: what each kind of event has, and what is no event has, the decoded fields have.
use Prim.Native.Nat.{ℕ}
use mathlib.Core.Path.{◌≡◌}
use mathlib.Core.Bool.{Bool, true, ◌&&◌}
use lib.Dec.{ltb, eqb}
use lib.IntN.{ℤ}
use Rattle.rules.specs.Events.{tick_with, measurement, old_kind, hit, write}
use Rattle.rules.specs.Sheet.{signed_byte, Decoded, event, bad, is_zero, is_offset, tick_of, measurement_of, hit_of, write_of, finer_of, fields}
use Rattle.rules.proofs.Tests.{if_case, and_right}

module _ (P : Decoded → Type 0) (kind a b : ℕ) (w : ℤ) (none : P bad) where
  pub fields_case : ((lock : Bool) → P (event (tick_with a lock w)))
      → (eqb kind 1 ≡ true → P (event (old_kind a (signed_byte b))))
      → P (event hit)
      → P (event (write a b))
      → (eqb kind 4 ≡ true → is_offset w ≡ true → P (event (measurement a w)))
      → P (fields kind a b w)
  unfolding fields tick_of measurement_of hit_of write_of finer_of
  fields_case ticked old hits written finer =
      if_case P (eqb kind 0) (λ e. if_case P (ltb 1 b) (λ t. none) (λ t. ticked (eqb b 1)))
      (λ e. if_case P (eqb kind 1) (λ t. if_case P (is_zero w) (λ u. old t) (λ u. none))
      (λ t. if_case P (eqb kind 2) (λ u. if_case P (eqb a 0 && eqb b 0 && is_zero w) (λ v. hits) (λ v. none))
      (λ u. if_case P (eqb kind 3) (λ v. if_case P (is_zero w) (λ z. written) (λ z. none))
      (λ v. if_case P (eqb kind 4) (λ z. if_case P (eqb b 0 && is_offset w) (λ y. finer z (and_right (eqb b 0) (is_offset w) y)) (λ y. none)) (λ z. none)))))
