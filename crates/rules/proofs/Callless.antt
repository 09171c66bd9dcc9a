-- The calls of the host's (#104, #107): a run sheet has none, and a list without one leaves the sets as they start, and sets no window.
use Prim.Native.Nat.{ℕ, zero, suc, ◌+◌}
use mathlib.Core.Path.{◌≡◌, refl, ap, ◌∙◌}
use mathlib.Core.Bool.{false, true≢false}
use mathlib.Core.List.{List, [], ◌∷◌, ◌++◌}
use lib.Dec.{eqb}
use lib.IntN.{ℤ}
use lib.ListN.{get_or, drop}
use Rattle.rules.specs.Events.{Event, tick, measurement, hit, write, set_bucket, assign_bucket, set_week, set_windows, is_call}
use Rattle.rules.specs.State.{State}
use Rattle.rules.specs.Week.{Window, fresh_week}
use Rattle.rules.specs.Tick.{week_after, steps1to4, step5, ticked}
use Rattle.rules.specs.Buckets.{Buckets, fresh_buckets}
use Rattle.rules.specs.Registers.{fresh_with}
use Rattle.rules.specs.Refusals.{accepted}
use Rattle.rules.specs.Run.{after_measurement, after_hit, after_write, effect, next, run}
use Rattle.rules.specs.Sheet.{word32, signed_word, Decoded, event, bad, fields, decode, settings_count, events_at, events_count, settings_of, before, events_of, sheet_events}
use Rattle.rules.specs.Laws.{Callless, Untouched, NoCalls}
use Rattle.rules.proofs.Tests.{if_case}
use Rattle.rules.proofs.Fields.{fields_case}
use Rattle.rules.proofs.Loading.{each_fresh}

-- ---- a run sheet

-- decoded fields that are no call
abbrev Plain : Decoded → Type 0
Plain (event e) = is_call e ≡ false
Plain bad = Unit {0}

plain_fields : (kind a b : ℕ) (w : ℤ) → Plain (fields kind a b w)
plain_fields kind a b w = fields_case Plain kind a b w tt (λ lock. refl) (λ e. refl) refl refl (λ e h. refl)

plain_decoded : (l : List ℕ) → Plain (decode l)
unfolding decode
plain_decoded l = if_case Plain (eqb (get_or l 3 0) 0) (λ e. plain_fields (get_or l 0 0) (get_or l 1 0) (get_or l 2 0) (signed_word (word32 l 4))) (λ e. tt)

pub callless_append : (xs ys : List Event) → Callless xs → Callless ys → Callless (xs ++ ys)
callless_append [] ys p q = q
callless_append (e ∷ es) ys p q = (p.0, callless_append es ys p.1 q)

-- the first part of a list without a call
pub callless_front : (xs ys : List Event) → Callless (xs ++ ys) → Callless xs
callless_front [] ys p = tt
callless_front (e ∷ es) ys p = (p.0, callless_front es ys p.1)

callless_settings : (k : ℕ) (l : List ℕ) → Callless (settings_of k l)
unfolding settings_of
callless_settings zero l = tt
callless_settings (suc k) l = (refl, callless_settings k (drop 2 l))

callless_before : (d : Decoded) (es : List Event) → Plain d → Callless es → Callless (before d es)
unfolding before
callless_before (event e) es p q = (p, q)
callless_before bad es p q = tt

callless_events : (k : ℕ) (l : List ℕ) → Callless (events_of k l)
unfolding events_of
callless_events zero l = tt
callless_events (suc k) l = callless_before (decode l) (events_of k (drop 8 l)) (plain_decoded l) (callless_events k (drop 8 l))

pub no_calls : NoCalls
unfolding sheet_events
no_calls s =
    callless_append (settings_of (settings_count s) (drop 2 s)) (events_of (events_count s) (drop (events_at s + 2) s))
    (callless_settings (settings_count s) (drop 2 s)) (callless_events (events_count s) (drop (events_at s + 2) s))

-- ---- the sets and the windows

abbrev Set : Type 0
Set = Buckets × List Window

abbrev set_in : State → Set
set_in s = (s.buckets, s.week.windows)

kept_next : (s : State) (e : Event) → is_call e ≡ false → set_in (next s e) ≡ set_in s
unfolding next effect ticked step5 steps1to4 week_after after_measurement after_hit after_write
kept_next s (tick t) p = if_case (λ (u : State). set_in u ≡ set_in s) (accepted s (tick t)) (λ e. refl) (λ e. refl)
kept_next s (measurement i x) p = if_case (λ (t : State). set_in t ≡ set_in s) (accepted s (measurement i x)) (λ e. refl) (λ e. refl)
kept_next s hit p = if_case (λ (t : State). set_in t ≡ set_in s) (accepted s hit) (λ e. refl) (λ e. refl)
kept_next s (write a v) p = if_case (λ (t : State). set_in t ≡ set_in s) (accepted s (write a v)) (λ e. if_case (λ (t : State). set_in t ≡ set_in s) (eqb a 0x26) (λ c. refl) (λ c. refl)) (λ e. refl)
kept_next s (set_bucket n size set_level clear_level d) p = absurd (true≢false p)
kept_next s (assign_bucket i n) p = absurd (true≢false p)
kept_next s (set_week place) p = absurd (true≢false p)
kept_next s (set_windows windows) p = absurd (true≢false p)

kept_run : (es : List Event) (s : State) → Callless es → set_in (run s es) ≡ set_in s
unfolding run
kept_run [] s p = refl
kept_run (e ∷ es) s p = kept_run es (next s e) p.1 ∙ kept_next s e p.0

pub untouched : Untouched
unfolding fresh_with fresh_week
untouched start f es p =
    let kept = kept_run es start p ∙ each_fresh (λ (s : State). set_in s ≡ (fresh_buckets, [])) (λ set. refl) start f in
    (ap (λ (x : Set). x.0) kept, ap (λ (x : Set). x.1) kept)
