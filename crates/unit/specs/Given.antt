-- What an event, a call or a table does to a unit.
use Rattle.std.specs.Prelude.{ℕ, ◌≡◌, Result, Ok, Err}
use Rattle.rules.specs.Events.{Event}
use Rattle.rules.specs.State.{State}
use Rattle.rules.specs.Run.{Outcome, outcome}
use Rattle.rules.specs.Sheet.{Decoded, event, bad, decoded_number}
use Rattle.refusals.specs.declared.Refusal.{Refusal}
use Rattle.state.specs.Stored.{Stored, meaning}
use Rattle.state.specs.declared.Core.{Core}

-- From unit s to number n and unit t, where `gives` is what the rules give: number and state are the rules', and what is turned down leaves every stored number
-- as it was.
pub record Leads (s : Stored) (gives : State → Outcome) (n : ℕ) (t : Stored) : Type 0 where
  pub rules : record { refusal = n; state = meaning t } ≡ gives (meaning s)
  pub left : (n ≡ 0 → ⊥) → t ≡ s

-- the same of an event
abbrev pub Gives : Stored → Event → ℕ → Stored → Type 0
Gives s e n t = Leads s (λ u. outcome u e) n t

-- what decoded fields give in state s: the event's outcome, or the number of no event and the state "as before"
abbrev pub given : Decoded → State → Outcome
given (event e) s = outcome s e
given bad s = record { refusal = decoded_number bad; state = s }

-- the core after an event that takes core k: the one that it gives, or k where it is turned down
abbrev pub core_after : Core → Result Core Refusal → Core
core_after k (Ok c) = c
core_after k (Err r) = k
