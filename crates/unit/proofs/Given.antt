-- What an event does to what is stored, by its two cases: it is accepted, or turned down.
use Prim.Native.Nat.{ℕ}
use mathlib.Core.Path.{◌≡◌, refl, subst}
use Rattle.rules.specs.Events.{Event}
use Rattle.rules.specs.Refusals.{refusal}
use Rattle.rules.specs.Run.{effect}
use Rattle.state.specs.Stored.{Stored, meaning}
use Rattle.unit.specs.Given.{Gives}
use Rattle.unit.proofs.Outcomes.{accepted_outcome, refused_outcome}

-- number 0, and the state after the effect
pub accepted : (s t : Stored) (e : Event) {n : ℕ} → n ≡ refusal (meaning s) e → n ≡ 0 → meaning t ≡ effect (meaning s) e → Gives s e n t
accepted s t e r z q = record { rules = accepted_outcome (meaning s) e r z q; left = λ some. absurd (some z) }

-- a number that is not 0, and every stored number as it was
pub turned_down : (s : Stored) (e : Event) {n : ℕ} → n ≡ refusal (meaning s) e → (n ≡ 0 → ⊥) → Gives s e n s
turned_down s e r z = record { rules = refused_outcome (meaning s) e r z; left = λ some. refl }

-- the same event
pub same_event : {s t : Stored} {n : ℕ} {e f : Event} → e ≡ f → Gives s e n t → Gives s f n t
same_event {s} {t} {n} p g = subst (λ (e : Event). Gives s e n t) p g
