-- The two ways that a call with an event's fields goes.
use Prim.Native.Nat.{ℕ}
use mathlib.Core.Path.{◌≡◌, refl, ap, ◌∙◌}
use Rattle.rules.specs.Events.{Event}
use Rattle.rules.specs.Sheet.{Decoded, event, bad, decoded_number}
use Rattle.state.specs.Stored.{Stored, meaning}
use Rattle.unit.specs.Given.{Leads, Gives, given}

-- the fields are no event
pub no_event : (u : Stored) (d : Decoded) {n : ℕ} → bad ≡ d → n ≡ decoded_number d → Leads u (given d) n u
no_event u d e is = record { rules = rw (is, ← e) refl; left = λ some. refl }

-- the fields are an event, which was handled
pub handled : (u v : Stored) (e : Event) (d : Decoded) {n : ℕ} → event e ≡ d → Gives u e n v → Leads u (given d) n v
handled u v e d is said = record { rules = said.rules ∙ ap (λ (x : Decoded). given x (meaning u)) is; left = said.left }
