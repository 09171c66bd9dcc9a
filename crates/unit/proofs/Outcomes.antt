-- An outcome by its two cases: the event is accepted, or turned down.
use Prim.Native.Nat.{ℕ}
use mathlib.Core.Path.{◌≡◌, refl, sym, ◌∙◌}
use borrow.Author.Tests.{ne_eqb}
use Rattle.rules.specs.Events.{Event}
use Rattle.rules.specs.State.{State}
use Rattle.rules.specs.Refusals.{refusal}
use Rattle.rules.specs.Run.{effect, next, Outcome, outcome}

next_accepted : (s : State) (e : Event) → refusal s e ≡ 0 → next s e ≡ effect s e
unfolding next
next_accepted s e r = rw r refl

next_refused : (s : State) (e : Event) → (refusal s e ≡ 0 → ⊥) → next s e ≡ s
unfolding next
next_refused s e r = rw (ne_eqb (refusal s e) 0 r) refl

-- number 0, and the state after the effect
pub accepted_outcome : (s : State) (e : Event) {n : ℕ} {t : State} → n ≡ refusal s e → n ≡ 0 → t ≡ effect s e
    → ◌≡◌ {A = Outcome} (record { refusal = n; state = t }) (outcome s e)
unfolding outcome
accepted_outcome s e r z q = λ i. record { refusal = r i; state = (q ∙ sym (next_accepted s e (sym r ∙ z))) i }

-- a number that is not 0, and the same state
pub refused_outcome : (s : State) (e : Event) {n : ℕ} → n ≡ refusal s e → (n ≡ 0 → ⊥) → ◌≡◌ {A = Outcome} (record { refusal = n; state = s }) (outcome s e)
unfolding outcome
refused_outcome s e r z = λ i. record { refusal = r i; state = sym (next_refused s e (λ w. z (r ∙ w))) i }
