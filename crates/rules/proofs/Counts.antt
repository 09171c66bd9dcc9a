-- The counts of ticks: the delay of a reversion, and the hours in Holdover.
use Rattle.std.specs.Prelude.{if◌then◌else◌}
use Prim.Native.Nat.{ℕ, ◌+◌, ◌/◌, min}
use mathlib.Core.Path.{◌≡◌, refl}
use mathlib.Core.Bool.{true, ◌&&◌}
use mathlib.Core.List.{List, [], ◌∷◌}
use native.Mathlib.Omega.{arith}
use lib.Dec.{eqb}
use borrow.Author.Tests.{eqb-false, ne_eqb}
use Rattle.rules.specs.Words.{is_tracked}
use Rattle.rules.specs.Events.{Event, tick, measurement, hit, write, set_bucket, assign_bucket, set_week, set_windows}
use Rattle.rules.specs.Pll.{Mode, holdover, is, mode_number}
use Rattle.rules.specs.Settings.{delay_ticks}
use Rattle.rules.specs.State.{State, selected, mode}
use Rattle.rules.specs.Tick.{hour_ticks, holding_limit, holding_after, steps1to4, step5, ticked}
use Rattle.rules.specs.Registers.{fresh_with}
use Rattle.rules.specs.Reading.{hours}
use Rattle.rules.specs.Refusals.{refusal, accepted}
use Rattle.rules.specs.Run.{after_measurement, after_hit, after_write, after_set, after_assign, effect, next, run}
use Rattle.rules.specs.Loading.{Fresh}
use Rattle.rules.specs.Laws.{LeastDelay, Delays, Lawful, held_after, held_ticks, Hours}
use Rattle.rules.proofs.Tests.{if_case, by_test, zero_if}
use Rattle.rules.proofs.Loading.{each_fresh}
use Rattle.rules.proofs.Invariants.{lawful_next, lawful_fresh}

-- the delay in ticks is the least that is enough
pub delays : Delays
unfolding delay_ticks
delays = omega arith

-- and no other number is
pub least_delay : (minutes n : ℕ) → LeastDelay minutes n → delay_ticks minutes ≡ n
least_delay minutes n d =
    let most = d.least (delay_ticks minutes) (delays minutes).enough in
    let least = (delays minutes).least n d.enough in
    omega arith

-- the count that stops shows the hours that the count with no bound shows
hours_shown : (n : ℕ) → min 255 (min holding_limit n / hour_ticks) ≡ min 255 (n / hour_ticks)
hours_shown n = omega arith

-- one tick more on both counts
hours_step : (n : ℕ) → min holding_limit (min holding_limit n + 1) ≡ min holding_limit (n + 1)
hours_step n = omega arith

-- where an event leaves the state and the count as they are
held_same : (n : ℕ) (s : State) → Lawful s → s.holding ≡ min holding_limit n → s.holding ≡ min holding_limit (if is holdover (mode s) && is holdover (mode s) then n else 0)
held_same n s w e =
    by_test (is holdover (mode s)) (λ h. rw h e)
    (λ h. rw h (omega (arith, w.holding_none (eqb-false (mode_number (mode s)) (mode_number holdover) h))))

-- what the count is after an event that is no accepted tick and leaves state t
abbrev Held : ℕ → State → State → Type 0
Held n s t = t.holding ≡ min holding_limit (if is holdover (mode s) && is holdover (mode t) then n else 0)

held_tick : (m k : Mode) (h n : ℕ) → h ≡ min holding_limit n → holding_after m k h ≡ min holding_limit (if is holdover m && is holdover k then n + 1 else 0)
unfolding holding_after
held_tick m k h n e = by_test (is holdover m && is holdover k) (λ t. rw (t, e) (hours_step n)) (λ t. rw t refl)

-- a Hit comes in a tracking state
held_hit : (n : ℕ) (s : State) → is_tracked (selected s) ≡ true → Lawful s → Held n s (after_hit s)
unfolding after_hit mode_number
held_hit n s t w = rw (ne_eqb (mode_number (mode s)) 1 (λ z. omega (arith, w.loop.tracking t))) refl

-- each event keeps the count at the one with no bound, or at where it stops
held_next : (n : ℕ) (s : State) (e : Event) → Lawful s → s.holding ≡ min holding_limit n → (next s e).holding ≡ min holding_limit (held_after n s e)
unfolding held_after next effect refusal ticked step5 steps1to4 after_measurement after_write after_set after_assign
held_next n s (tick t) w h =
    by_test (accepted s (tick t)) (λ a. rw a (held_tick (mode s) (ticked t s).loop.mode s.holding n h)) (λ a. rw a (held_same n s w h))
held_next n s (measurement i x) w h = if_case (Held n s) (accepted s (measurement i x)) (λ a. held_same n s w h) (λ a. held_same n s w h)
held_next n s hit w h =
    if_case (Held n s) (accepted s hit) (λ a. held_hit n s (zero_if (is_tracked (selected s)) 4 a) w) (λ a. held_same n s w h)
held_next n s (write a v) w h = if_case (Held n s) (accepted s (write a v)) (λ t. if_case (Held n s) (eqb a 0x26) (λ c. held_same n s w h) (λ c. held_same n s w h)) (λ t. held_same n s w h)
held_next n s (set_bucket m size set_level clear_level d) w h =
    if_case (Held n s) (accepted s (set_bucket m size set_level clear_level d)) (λ t. held_same n s w h) (λ t. held_same n s w h)
held_next n s (assign_bucket i m) w h = if_case (Held n s) (accepted s (assign_bucket i m)) (λ t. held_same n s w h) (λ t. held_same n s w h)
held_next n s (set_week place) w h = if_case (Held n s) (accepted s (set_week place)) (λ t. held_same n s w h) (λ t. held_same n s w h)
held_next n s (set_windows windows) w h = if_case (Held n s) (accepted s (set_windows windows)) (λ t. held_same n s w h) (λ t. held_same n s w h)

held_run : (es : List Event) (n : ℕ) (s : State) → Lawful s → s.holding ≡ min holding_limit n → (run s es).holding ≡ min holding_limit (held_ticks n s es)
unfolding run held_ticks
held_run [] n s w h = h
held_run (e ∷ es) n s w h = held_run es (held_after n s e) (next s e) (lawful_next s e w) (held_next n s e w h)

-- a fresh unit has counted none
fresh_holding : (start : State) → Fresh start → start.holding ≡ 0
unfolding fresh_with
fresh_holding = each_fresh (λ (s : State). s.holding ≡ 0) (λ set. refl)

-- 0x27 shows the whole hours in Holdover after the entering event, at most 255
pub hours_held : Hours
unfolding hours
hours_held start f es =
    by_test (is holdover (mode (run start es)))
    (λ h. rw (h, held_run es 0 start (lawful_fresh start f) (fresh_holding start f)) (hours_shown (held_ticks 0 start es))) (λ h. rw h refl)
