-- From the code's decoded fields to the rules'.
use Rattle.std.specs.Prelude.{Result, Ok, Err}
use Rattle.refusals.specs.declared.Refusal.{Refusal}
use Rattle.rules.specs.Sheet as rules
use Rattle.rules.specs.Sheet.{event, bad}
use Rattle.unit.specs.declared.Event.{Event}
use Rattle.unit.specs.Events.{event_of}

-- case by case; the number of each is `decoded_number`
abbrev pub decoded_of : Result Event Refusal → rules.Decoded
decoded_of (Ok e) = event (event_of e)
decoded_of (Err r) = bad
