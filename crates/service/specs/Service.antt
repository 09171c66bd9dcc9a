-- Document 01, demands 2 and 3, and requests #102 and #104 to #107, of the unit itself: what a host holds that makes a unit and lends it for each event and call.
use Rattle.std.specs.Prelude.{ℕ, ◌+◌, ◌-◌, ◌*◌, ◌^◌, ◌≤◌, max, ◌≡◌, ◌⊎◌, Bool, true, false, List, [], ◌∷◌, ◌++◌, map, leb, ℤ}
use Rattle.rules.specs.Events.{Event, write, set_bucket, assign_bucket, set_week, set_windows}
use Rattle.rules.specs.Settings.{delay}
use Rattle.rules.specs.Week.{longest, first_windows}
use Rattle.rules.specs.Buckets.{bucket_from, start_bucket, bucket_of}
use Rattle.rules.specs.State.{State, selected, Ready}
use Rattle.rules.specs.History.{ready_blocks}
use Rattle.rules.specs.Registers.{fresh}
use Rattle.rules.specs.Reading.{read}
use Rattle.rules.specs.Refusals.{accepted}
use Rattle.rules.specs.Run.{run}
use Rattle.rules.specs.Loading.{fresh_from, loading}
use Rattle.rules.specs.OldHistory.{old_run}
use Rattle.rules.specs.OldReadings.{coarse_run}
use Rattle.rules.specs.Sheet.{Decoded, event, bad, fields}
use Rattle.rules.specs.Laws.{LeastDelay}
use Rattle.rules.specs.FinerReadings.{finer}
use Rattle.rules.specs.Service.{Provisos, selected_ticks, ready_ticks, accepted_ticks}
use Rattle.state.specs.Stored.{Stored, meaning, Made}
use Rattle.unit.specs.Given.{Leads, given}
use Rattle.readout.specs.Shows.{word_of, Shows}

-- ---- the host

-- a call of a function that can change the unit, with what it passes
pub data Call : Type 0 where
  -- `unit_event`: kind, a, b, word
  of_event : ℕ → ℕ → ℕ → ℤ → Call
  -- `unit_set_bucket`: the set, size S, set level U, clear level L, and d
  of_set : ℕ → ℕ → ℕ → ℕ → ℕ → Call
  -- `unit_assign_bucket`: the input, and the set
  of_assign : ℕ → ℕ → Call
  -- `unit_set_week`: the place
  of_week : ℕ → Call
  -- `unit_set_windows`: the count, and the numbers
  of_windows : ℕ → List ℕ → Call
  -- `unit_load`, turned down: the table
  of_load : List ℕ → Call

-- the event that a call is, if any: a load that is turned down is none
abbrev pub decoded : Call → Decoded
decoded (of_event kind a b word) = fields kind a b word
decoded (of_set set size set_level clear_level d) = event (set_bucket set size set_level clear_level d)
decoded (of_assign input set) = event (assign_bucket input set)
decoded (of_week place) = event (set_week place)
decoded (of_windows count numbers) = event (set_windows (first_windows count numbers))
decoded (of_load table) = bad

-- the events of a list of calls: a call that is no event is not one of them
unfoldable pub with : Decoded → List Event → List Event
with (event e) es = e ∷ es
with bad es = es

unfoldable pub events_of : List Call → List Event
events_of [] = []
events_of (c ∷ cs) = with (decoded c) (events_of cs)

-- All that is known of a call that finds unit u, returns n and leaves unit w: what the contract of its function says, and of a load that n is not 0. A load
-- that returns 0 begins another history.
abbrev pub Answers : Stored → Call → ℕ → Stored → Type 0
Answers u (of_event kind a b word) n w = Leads u (given (fields kind a b word)) n w
Answers u (of_set set size set_level clear_level d) n w = Leads u (given (event (set_bucket set size set_level clear_level d))) n w
Answers u (of_assign input set) n w = Leads u (given (event (assign_bucket input set))) n w
Answers u (of_week place) n w = Leads u (given (event (set_week place))) n w
Answers u (of_windows count numbers) n w = Leads u (given (event (set_windows (first_windows count numbers)))) n w
Answers u (of_load table) n w = (n ≡ 0 → ⊥) × Leads u (loading table) n w

-- "each event gets the state that the one before it left, and nobody else writes that state in between": from unit u, call by call, to unit v
abbrev pub Lent : Stored → List Call → Stored → Type 0
Lent u [] v = u ≡ v
Lent u (c ∷ cs) v = (w : Stored) × ((n : ℕ) × (Answers u c n w × Lent w cs v))

-- "The list starts from a fresh unit", and u is that unit: `unit_make` made it, and `start` is the standard one; or any unit was lent to `unit_load` with
-- a table, it returned 0 and left u, and `start` is the one that the table makes. Both by their contracts alone.
abbrev pub Begins : State → Stored → Type 0
Begins start u =
    ((start ≡ fresh) × Made u) ⊎ ((table : List ℕ) × ((start ≡ fresh_from table) × ((lent : Stored) × Leads lent (loading table) 0 u)))

-- THE HOST HOLDS v AFTER THE LIST es FROM THE FRESH UNIT start: a unit that began there, then lent for each call.
pub record Holds (start : State) (es : List Event) (v : Stored) : Type 0 where
  pub first : Stored
  pub begun : Begins start first
  pub calls : List Call
  pub lent : Lent first calls v
  pub events : events_of calls ≡ es

-- ---- the unit's own fields

-- "the unit's own selected and Ready": the selected number in its choice; 43 blocks or more in use by its tally
abbrev pub own_selected : Stored → ℕ
own_selected u = u.core.choice.selected

abbrev pub own_ready : Stored → Bool
own_ready u = leb ready_blocks u.core.tally.count

-- ---- demand 2

-- After every list of events from a fresh unit its state and each register agree with the rules; "the unit's own selected and Ready equal them". #102:
-- "Agreement with the rules means these rules from now on."
pub record Agrees (start : State) (es : List Event) (u : Stored) : Type 0 where
  pub state : meaning u ≡ run start es
  pub selected_is : own_selected u ≡ selected (run start es)
  pub ready_is : own_ready u ≡ Ready (run start es)
  -- at each of the 256 addresses, what the published read returns
  pub register : (address n : ℕ) → Shows u address n → n ≡ word_of (read (run start es) address)

abbrev pub Agreement : Type 0
Agreement = (start : State) (es : List Event) (u : Stored) → Holds start es u → Agrees start es u

-- ---- demand 3

-- what is promised of the unit that the host holds, where s is the rules' state at the moment and `after`, or more events, have come since: r is selected if
-- `toSelected` accepted ticks stand in `after`, and Ready stands if `toReady` do
pub record UnitServed (toSelected toReady r : ℕ) (s : State) (after : List Event) (u : Stored) : Type 0 where
  pub selected_is : toSelected ≤ accepted_ticks s after → own_selected u ≡ r
  pub ready_is : toReady ≤ accepted_ticks s after → own_ready u ≡ true

-- THE PROMISE OF SERVICE OF THE UNIT. Take every list of events from a fresh unit, `before`, `after` and `later`, with the moment after `before`, every
-- reference r for which the provisos hold, and every unit u that the host holds after the list. After the accepted tick with number `selected_ticks`, counted
-- from the moment, and after every later event, r is the unit's own selected; after the one with number `ready_ticks`, and after every later event, Ready
-- stands too.
abbrev pub UnitPromise : Type 0
UnitPromise =
    (start : State) (before after later : List Event) (r : ℕ) (u : Stored)
    → Holds start (before ++ (after ++ later)) u
    → Provisos r (run start before) (after ++ later)
    → UnitServed (selected_ticks r (run start before)) (ready_ticks r (run start before)) r (run start before) after u

-- The same in figures: "n is the least whole number with 4n at least 1,875 times the reversion delay in minutes." #104: r's set at the moment
-- is S, U, L, d, and "78 + the larger of 782 and (S − L) times 2^d" stands "for its 860, with 5,519 more to Ready". #107: and the longest window.
abbrev pub UnitPromiseInFigures : Type 0
UnitPromiseInFigures =
    (start : State) (before after later : List Event) (r n size set_level clear_level d : ℕ) (u : Stored)
    → Holds start (before ++ (after ++ later)) u
    → bucket_of (run start before).buckets r ≡ bucket_from size set_level clear_level d
    → LeastDelay (delay (run start before).settings) n
    → Provisos r (run start before) (after ++ later)
    → let toSelected = 78 + max 782 ((size - clear_level) * 2 ^ d) + n + longest (run start before).week.windows in
    UnitServed toSelected (toSelected + 5_519) r (run start before) after u

-- In a unit without windows at the moment this is what it was before #107.
abbrev pub UnitPromiseWithoutWindows : Type 0
UnitPromiseWithoutWindows =
    (start : State) (before after later : List Event) (r n size set_level clear_level d : ℕ) (u : Stored)
    → Holds start (before ++ (after ++ later)) u
    → (run start before).week.windows ≡ []
    → bucket_of (run start before).buckets r ≡ bucket_from size set_level clear_level d
    → LeastDelay (delay (run start before).settings) n
    → Provisos r (run start before) (after ++ later)
    → let toSelected = 78 + max 782 ((size - clear_level) * 2 ^ d) + n in
    UnitServed toSelected (toSelected + 5_519) r (run start before) after u

-- And with r's set as the sets start this is document 01's: 860 + n, and 6,379 + n.
abbrev pub UnitPromiseAtStart : Type 0
UnitPromiseAtStart =
    (start : State) (before after later : List Event) (r n : ℕ) (u : Stored)
    → Holds start (before ++ (after ++ later)) u
    → (run start before).week.windows ≡ []
    → bucket_of (run start before).buckets r ≡ start_bucket
    → LeastDelay (delay (run start before).settings) n
    → Provisos r (run start before) (after ++ later)
    → UnitServed (860 + n) (6_379 + n) r (run start before) after u

-- ---- request #102: the building history, in the unit's own Ready

-- The unit that the host holds is Ready after each list of events after which Ready stood under the old rules.
abbrev pub UnitNeverLessReady : Type 0
UnitNeverLessReady = (start : State) (es : List Event) (u : Stored) → Holds start es u → Ready (old_run start es) ≡ true → own_ready u ≡ true

-- Once it stands, it ends only with an accepted write of 3 to 0x26: u is what the host holds after a list of events, and v after one event more.
abbrev pub UnitEndsByCommand3 : Type 0
UnitEndsByCommand3 =
    (start : State) (es : List Event) (e : Event) (u v : Stored)
    → Holds start es u
    → Holds start (es ++ e ∷ []) v
    → own_ready u ≡ true
    → own_ready v ≡ false
    → (e ≡ write 0x26 3) × (accepted (run start es) e ≡ true)

-- ---- request #106: the finer readings

-- After a list whose measurements are all of the old kind, the unit's state and each register are what the rules before #106 give: es has its offsets in 0.5
-- ppm, and the host has sent the same events as they are now, `map finer es`.
abbrev pub UnitAsBefore : Type 0
UnitAsBefore =
    (start : State) (es : List Event) (u : Stored)
    → Holds start (map finer es) u
    → (meaning u ≡ coarse_run start es) × ((address n : ℕ) → Shows u address n → n ≡ word_of (read (coarse_run start es) address))
