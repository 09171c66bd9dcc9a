-- Demands 2 and 3, and requests #102 and #104 to #107, of the unit itself, proved: what the host holds is the rules' run.
use Prim.Native.Nat.{ℕ}
use mathlib.Core.Path.{◌≡◌, refl, ap, sym, ◌∙◌}
use mathlib.Core.Logic.{inl, inr}
use mathlib.Core.List.{List, [], ◌∷◌, ◌++◌, map}
use Rattle.rules.specs.Events.{Event}
use Rattle.rules.specs.State.{State, Ready, selected}
use Rattle.rules.specs.History.{ready}
use Rattle.rules.specs.Reading.{read}
use Rattle.rules.specs.Loading.{fresh_from, loading, Fresh}
use Rattle.rules.specs.Run as rules
use Rattle.rules.specs.Run.{outcome, run}
use Rattle.rules.specs.FinerReadings.{finer}
use Rattle.rules.specs.Service.{Served}
use Rattle.rules.specs.Sheet.{Decoded, event, bad}
use Rattle.rules.proofs.Loading.{standard}
use Rattle.rules.proofs.Service.{promise, promise_in_figures, promise_without_windows, promise_at_start}
use Rattle.rules.proofs.Comparison.{never_less_ready}
use Rattle.rules.proofs.FinerReadings.{finer_readings}
use Rattle.rules.proofs.Standing.{ends_by_command_3}
use Rattle.history.proofs.Kept.{ready_kept}
use Rattle.state.specs.Stored.{Stored, meaning}
use Rattle.unit.specs.Given.{Leads, given}
use Rattle.loading.proofs.Checks.{loaded}
use Rattle.readout.specs.Shows.{word_of}
use Rattle.service.specs.Service.{Call, of_event, of_set, of_assign, of_week, of_windows, of_load, decoded, with, events_of, Answers, Lent, Begins, Holds, own_ready, Agreement, UnitServed, UnitPromise, UnitPromiseInFigures, UnitPromiseWithoutWindows, UnitPromiseAtStart, UnitNeverLessReady, UnitEndsByCommand3, UnitAsBefore}

-- one call: the rules go on from the state that it left
led_on : (u w : Stored) (d : Decoded) (n : ℕ) (es : List Event) → Leads u (given d) n w → run (meaning u) (with d es) ≡ run (meaning w) es
unfolding with run outcome
led_on u w (event e) n es l = ap (λ (s : rules.Outcome). run s.state es) (sym l.rules)
led_on u w bad n es l = ap (λ (s : rules.Outcome). run s.state es) (sym l.rules)

goes_on : (u w : Stored) (c : Call) (n : ℕ) (es : List Event) → Answers u c n w → run (meaning u) (with (decoded c) es) ≡ run (meaning w) es
unfolding with
goes_on u w (of_event kind a b word) n es l = led_on u w (decoded (of_event kind a b word)) n es l
goes_on u w (of_set set size set_level clear_level d) n es l = led_on u w (decoded (of_set set size set_level clear_level d)) n es l
goes_on u w (of_assign input set) n es l = led_on u w (decoded (of_assign input set)) n es l
goes_on u w (of_week place) n es l = led_on u w (decoded (of_week place)) n es l
goes_on u w (of_windows count numbers) n es l = led_on u w (decoded (of_windows count numbers)) n es l
goes_on u w (of_load table) n es (some, l) = ap (λ (x : Stored). run (meaning x) es) (sym (l.left some))

-- a list of calls
lent_run : (cs : List Call) (u v : Stored) → Lent u cs v → run (meaning u) (events_of cs) ≡ meaning v
unfolding events_of run
lent_run [] u v e = ap meaning e
lent_run (c ∷ cs) u v (w, (n, (l, more))) = goes_on u w c n (events_of cs) l ∙ lent_run cs w v more

-- a unit that begins a history
record Begun (start : State) (u : Stored) : Type 0 where
  pub is_fresh : Fresh start
  pub state_is : meaning u ≡ start

-- by a load that returned 0
by_load : (table : List ℕ) (start : State) (before u : Stored) → start ≡ fresh_from table → Leads before (loading table) 0 u → Begun start u
unfolding loading
by_load table start before u e l =
    let ok = loaded table (ap (λ (o : rules.Outcome). o.refusal) (sym l.rules)) in
    record {
      is_fresh = record { table = table; loaded = ok; made = sym e };
      state_is = ap (λ (o : rules.Outcome). o.state) l.rules ∙ rw ok (sym e);
    }

begun : (start : State) (u : Stored) → Begins start u → Begun start u
begun start u (inl (e, made)) = record { is_fresh = rw e standard.is_fresh; state_is = made ∙ sym e }
begun start u (inr (table, (e, (before, l)))) = by_load table start before u e l

-- what the host holds
held_fresh : (start : State) (es : List Event) (u : Stored) → Holds start es u → Fresh start
held_fresh start es u h = (begun start h.first h.begun).is_fresh

held_state : (start : State) (es : List Event) (u : Stored) → Holds start es u → meaning u ≡ run start es
held_state start es u h = sym (lent_run h.calls h.first u h.lent) ∙ rw ((begun start h.first h.begun).state_is, h.events) refl

own_ready_is : (u : Stored) → own_ready u ≡ Ready (meaning u)
unfolding ready
own_ready_is u = ready_kept u.history.sums u.core.tally.count

-- DEMAND 2 OF THE UNIT
pub agreement : Agreement
agreement start es u h =
    let is = held_state start es u h in
    record {
      state = is;
      selected_is = ap selected is;
      ready_is = own_ready_is u ∙ ap Ready is;
      register = λ address n shown. shown ∙ ap (λ (s : State). word_of (read s address)) is;
    }

-- what the rules serve, the unit serves
module _ (start : State) (before after later : List Event) (toSelected toReady r : ℕ) (u : Stored) (h : Holds start (before ++ (after ++ later)) u)
    (served : Fresh start → Served toSelected toReady r (run start before) after (run start (before ++ (after ++ later)))) where
  unit_served : UnitServed toSelected toReady r (run start before) after u
  unit_served =
      let now = agreement start (before ++ (after ++ later)) u h in
      let kept = served (held_fresh start (before ++ (after ++ later)) u h) in
      record { selected_is = λ ticks. now.selected_is ∙ kept.selected_is ticks; ready_is = λ ticks. now.ready_is ∙ kept.ready_is ticks }

-- DEMAND 3 OF THE UNIT
pub unit_promise : UnitPromise
unit_promise start before after later r u h p = unit_served start before after later _ _ r u h (λ f. promise start f before after later r p)

pub unit_promise_in_figures : UnitPromiseInFigures
unit_promise_in_figures start before after later r n size set_level clear_level d u h is delayed p =
    unit_served start before after later _ _ r u h (λ f. promise_in_figures start f before after later r n size set_level clear_level d is delayed p)

pub unit_promise_without_windows : UnitPromiseWithoutWindows
unit_promise_without_windows start before after later r n size set_level clear_level d u h none is delayed p =
    unit_served start before after later _ _ r u h (λ f. promise_without_windows start f before after later r n size set_level clear_level d none is delayed p)

pub unit_promise_at_start : UnitPromiseAtStart
unit_promise_at_start start before after later r n u h none is delayed p =
    unit_served start before after later _ _ r u h (λ f. promise_at_start start f before after later r n none is delayed p)

-- REQUEST #102 OF THE UNIT
pub unit_never_less_ready : UnitNeverLessReady
unit_never_less_ready start es u h old = (agreement start es u h).ready_is ∙ never_less_ready start (held_fresh start es u h) es old

pub unit_ends_by_command_3 : UnitEndsByCommand3
unit_ends_by_command_3 start es e u v before after was is =
    ends_by_command_3 start (held_fresh start es u before) es e (sym (agreement start es u before).ready_is ∙ was)
    (sym (agreement start (es ++ e ∷ []) v after).ready_is ∙ is)

-- REQUEST #106 OF THE UNIT
pub unit_as_before : UnitAsBefore
unit_as_before start es u h =
    let is = held_state start (map finer es) u h ∙ finer_readings.history_as_before start es in
    (is, (λ address n shown. shown ∙ ap (λ (s : State). word_of (read s address)) is))
