-- Request #102 of document 02: what the building history brings, against the rules before it. Two claims about every list of events from a fresh unit, the
-- standard one or a buyer's own, refused events included; a command that these rules accept may be refused under the old ones.
use Rattle.std.specs.Prelude.{◌≡◌, true, false, List, [], ◌∷◌, ◌++◌}
use Rattle.rules.specs.Events.{Event, write}
use Rattle.rules.specs.State.{State, Ready}
use Rattle.rules.specs.Refusals.{accepted}
use Rattle.rules.specs.Run.{run}
use Rattle.rules.specs.Loading.{Fresh}
use Rattle.rules.specs.OldHistory.{old_run}

-- "Over the same list from fresh, Ready stands after each event after which it stood under the old rules"
abbrev pub NeverLessReady : Type 0
NeverLessReady = (start : State) → Fresh start → (es : List Event) → Ready (old_run start es) ≡ true → Ready (run start es) ≡ true

-- "and once standing it ends only by command 3": an event after which it no longer stands is a write of 3 to 0x26, accepted
abbrev pub EndsByCommand3 : Type 0
EndsByCommand3 =
    (start : State) → Fresh start → (es : List Event) (e : Event) → Ready (run start es) ≡ true → Ready (run start (es ++ e ∷ [])) ≡ false
    → (e ≡ write 0x26 3) × (accepted (run start es) e ≡ true)
