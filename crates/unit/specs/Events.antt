-- From the code's events to the rules'.
use Rattle.rules.specs.Events as rules
use Rattle.rules.specs.Events.{tick_with, measurement, hit, write}
use Rattle.unit.specs.declared.Event.{Event}
use Rattle.unit.specs.declared.Event.TheVariants.{Tick, Measurement, Hit, Write}

-- the rules' event that an event of the code is
abbrev pub event_of : Event → rules.Event
event_of (Tick mask lock x) = tick_with mask lock x
event_of (Measurement i offset) = measurement i offset
event_of Hit = hit
event_of (Write a v) = write a v
