-- Request #106: an offset and limits of which all are taken 32 times give the same alarm, and so the same state, records and check.
use Rattle.std.specs.Prelude.{if◌then◌else◌}
use Prim.Native.Nat.{ℕ, zero, suc, ◌+◌, ◌-◌, ◌*◌, ◌≤◌, ◌<◌}
use mathlib.Core.Path.{◌≡◌, refl, ap, sym, ◌∙◌, subst}
use mathlib.Core.Bool.{Bool, true, false, not}
use mathlib.Core.List.{List, [], ◌∷◌, ◌++◌, map}
use native.Mathlib.Omega.{arith}
use lib.Dec.{leb, ltb, eqb}
use lib.IntN.{ℤ, pos, negsuc, neg_ℤ, ◌*ℤ◌, nat_abs}
use lib.ListN.{get_or, drop}
use borrow.Author.Tests.{leb-true, leb-false, le-leb, lt-leb, ltb-true, ltb-false, lt-ltb, le-ltb, eqb-true, ne_eqb}
use Rattle.rules.specs.Events.{Event, tick, measurement, hit, write, set_bucket, assign_bucket, set_week, set_windows, half_ppm}
use Rattle.rules.specs.Monitors.{Input, frequency_after, measured}
use Rattle.rules.specs.Settings.{reject, qualification}
use Rattle.rules.specs.Inputs.{altered}
use Rattle.rules.specs.State.{State, with_inputs}
use Rattle.rules.specs.Registers.{fresh}
use Rattle.rules.specs.Refusals.{refusal, accepted}
use Rattle.rules.specs.Run.{after_measurement, effect, next, outcome, run}
use Rattle.rules.specs.Sheet.{word32, signed, signed_byte, signed_word, Decoded, event, bad, is_zero, is_offset, measurement_of, fields, decode, settings_count, events_at, events_count, settings_of, before, events_of, sheet_events, is_event, all_events, check_by, check, record_of, records, front}
use Rattle.rules.specs.OldReadings.{coarse_effect, coarse_outcome, coarse_run, coarse_records, coarse_fields, coarse_decode, coarse_events_of, coarse_all_events, coarse_sheet_events, coarse_check, coarse_front}
use Rattle.rules.specs.FinerReadings.{finer, EventAsBefore, HistoryAsBefore, ProvisoAsBefore, finer_decoded, FieldsAsBefore, without4, SheetAsBefore, SixteenBits, FinerReadings}
use Rattle.rules.proofs.Fields.{fields_case}
use Rattle.rules.proofs.Tests.{if_case, by_test, clash, not-true, and_left, and_right}

-- ---- the measurement

-- the magnitude of −k
nat_abs_minus : (k : ℕ) → nat_abs (neg_ℤ (pos k)) ≡ k
nat_abs_minus zero = refl
nat_abs_minus (suc k) = refl

-- 32 times a number has 32 times its magnitude
nat_abs_times : (x : ℤ) → nat_abs (pos half_ppm *ℤ x) ≡ half_ppm * nat_abs x
nat_abs_times (pos n) = refl
nat_abs_times (negsuc n) = nat_abs_minus (half_ppm * suc n)

-- a comparison of numbers that are both taken 32 times
leb_times : (m n : ℕ) → leb (half_ppm * m) (half_ppm * n) ≡ leb m n
leb_times m n =
    by_test (leb m n)
    (λ e. le-leb (32 * m) (32 * n) (omega (arith, leb-true m n e)) ∙ sym e)
    (λ e. lt-leb (32 * m) (32 * n) (omega (arith, leb-false m n e)) ∙ sym e)

ltb_times : (m n : ℕ) → ltb (half_ppm * m) (half_ppm * n) ≡ ltb m n
ltb_times m n =
    by_test (ltb m n)
    (λ e. lt-ltb (32 * m) (32 * n) (omega (arith, ltb-true m n e)) ∙ sym e)
    (λ e. le-ltb (32 * m) (32 * n) (omega (arith, ltb-false m n e)) ∙ sym e)

measured_times : (r q : ℕ) (x : ℤ) (i : Input) → measured (half_ppm * r) (half_ppm * q) (pos half_ppm *ℤ x) i ≡ measured r q x i
unfolding measured frequency_after
measured_times r q x i = rw (nat_abs_times x, ltb_times r (nat_abs x), leb_times (nat_abs x) q) refl

proviso_as_before : ProvisoAsBefore
proviso_as_before r i s x = ((λ fair e. omega (arith, nat_abs_times x, fair e)), (λ small e. omega (arith, nat_abs_times x, small e)))

-- ---- a history

event_as_before : EventAsBefore
unfolding outcome next refusal effect after_measurement coarse_outcome coarse_effect
event_as_before s (tick t) = refl
event_as_before s (measurement i x) =
    λ t.
    record {
      refusal = refusal s (measurement i x);
      state =
          if accepted s (measurement i x)
          then with_inputs (altered (λ input. measured_times (reject s.settings) (qualification s.settings) x input t) i s.inputs) s
          else s;
    }
event_as_before s hit = refl
event_as_before s (write a v) = refl
event_as_before s (set_bucket n size set_level clear_level d) = refl
event_as_before s (assign_bucket i n) = refl
event_as_before s (set_week place) = refl
event_as_before s (set_windows windows) = refl

history_as_before : HistoryAsBefore
unfolding run coarse_run outcome
history_as_before s [] = refl
history_as_before s (e ∷ es) =
    history_as_before (outcome s (finer e)).state es ∙ (λ t. coarse_run (event_as_before s e t).state es)

records_as_before : (s : State) (es : List Event) → records s (map finer es) ≡ coarse_records s es
unfolding records coarse_records
records_as_before s [] = refl
records_as_before s (e ∷ es) =
    ap (λ (l : List ℕ). record_of (outcome s (finer e)) ++ l) (records_as_before (outcome s (finer e)).state es)
    ∙ (λ t. record_of (event_as_before s e t) ++ coarse_records (event_as_before s e t).state es)

-- ---- fields, and a sheet

-- the fields of a kind that is neither 1 nor 4 have no offset
no_offset : (kind a b : ℕ) (w : ℤ) → eqb kind 1 ≡ false → eqb kind 4 ≡ false → fields kind a b w ≡ finer_decoded (fields kind a b w)
no_offset kind a b w not1 not4 =
    fields_case (λ d. d ≡ finer_decoded d) kind a b w refl (λ lock. refl) (λ e. clash e not1) refl refl (λ e h. clash e not4)

fields_as_before : FieldsAsBefore
unfolding fields measurement_of coarse_fields
fields_as_before kind a b w not4 =
    if_case Before (ltb 3 kind)
    (λ e. let above : 3 < kind = ltb-true 3 kind e in
    rw (ne_eqb kind 0 (λ z. omega arith), ne_eqb kind 1 (λ z. omega arith), ne_eqb kind 2 (λ z. omega arith), ne_eqb kind 3 (λ z. omega arith), not4) refl)
    (λ e. if_case Before (eqb kind 1)
    (λ t. rw (eqb-true kind 1 t) (if_case (λ d. measurement_of a b w ≡ finer_decoded d) (is_zero w) (λ z. rw z refl) (λ z. rw z refl)))
    (λ t. no_offset kind a b w t not4))
  where
    Before : Decoded → Type 0
    Before d = fields kind a b w ≡ finer_decoded d

decode_as_before : (l : List ℕ) → eqb (get_or l 0 0) 4 ≡ false → decode l ≡ finer_decoded (coarse_decode l)
unfolding decode coarse_decode
decode_as_before l not4 =
    by_test (eqb (get_or l 3 0) 0)
    (λ e. rw e (fields_as_before (get_or l 0 0) (get_or l 1 0) (get_or l 2 0) (signed_word (word32 l 4)) not4))
    (λ e. rw e refl)

is_event_finer : (d : Decoded) → is_event (finer_decoded d) ≡ is_event d
unfolding is_event
is_event_finer (event e) = refl
is_event_finer bad = refl

before_finer : (d : Decoded) (es : List Event) → before (finer_decoded d) (map finer es) ≡ map finer (before d es)
unfolding before
before_finer (event e) es = refl
before_finer bad es = refl

-- the first of k + 1 events, and the others, are not of kind 4
first_without : (k : ℕ) (l : List ℕ) → without4 (suc k) l ≡ true → eqb (get_or l 0 0) 4 ≡ false
unfolding without4
first_without k l w = not-true (eqb (get_or l 0 0) 4) (and_left (not (eqb (get_or l 0 0) 4)) (without4 k (drop 8 l)) w)

others_without : (k : ℕ) (l : List ℕ) → without4 (suc k) l ≡ true → without4 k (drop 8 l) ≡ true
unfolding without4
others_without k l w = and_right (not (eqb (get_or l 0 0) 4)) (without4 k (drop 8 l)) w

all_as_before : (k : ℕ) (l : List ℕ) → without4 k l ≡ true → all_events k l ≡ coarse_all_events k l
unfolding all_events coarse_all_events
all_as_before zero l w = refl
all_as_before (suc k) l w =
    rw (decode_as_before l (first_without k l w), is_event_finer (coarse_decode l), all_as_before k (drop 8 l) (others_without k l w)) refl

events_as_before : (k : ℕ) (l : List ℕ) → without4 k l ≡ true → events_of k l ≡ map finer (coarse_events_of k l)
unfolding events_of coarse_events_of
events_as_before zero l w = refl
events_as_before (suc k) l w =
    rw (decode_as_before l (first_without k l w), events_as_before k (drop 8 l) (others_without k l w))
    (before_finer (coarse_decode l) (coarse_events_of k (drop 8 l)))

settings_as_before : (k : ℕ) (l : List ℕ) (es : List Event) → settings_of k l ++ map finer es ≡ map finer (settings_of k l ++ es)
unfolding settings_of
settings_as_before zero l es = refl
settings_as_before (suc k) l es = ap (λ (rest : List Event). write (get_or l 0 0) (get_or l 1 0) ∷ rest) (settings_as_before k (drop 2 l) es)

sheet_as_before : SheetAsBefore
unfolding check sheet_events front coarse_check coarse_sheet_events coarse_front
sheet_as_before s room w =
    let checked = ap (λ (good : Bool). check_by good s room) (all_as_before (events_count s) (drop (events_at s + 2) s) w) in
    let events = ap (λ (es : List Event). settings_of (settings_count s) (drop 2 s) ++ es) (events_as_before (events_count s) (drop (events_at s + 2) s) w)
    ∙ settings_as_before (settings_count s) (drop 2 s) (coarse_events_of (events_count s) (drop (events_at s + 2) s)) in
    (checked, (λ t. if eqb (checked t) 0 then (ap (records fresh) events ∙ records_as_before fresh (coarse_sheet_events s)) t else []))

-- ---- the width

-- decoded fields whose offset, if they have one, is a number of 16 bits
abbrev Narrow : Decoded → Type 0
Narrow (event (tick t)) = Unit {0}
Narrow (event (measurement i offset)) = is_offset offset ≡ true
Narrow (event hit) = Unit {0}
Narrow (event (write a v)) = Unit {0}
Narrow (event (set_bucket n size set_level clear_level d)) = Unit {0}
Narrow (event (assign_bucket i n)) = Unit {0}
Narrow (event (set_week place)) = Unit {0}
Narrow (event (set_windows windows)) = Unit {0}
Narrow bad = Unit {0}

-- −k, for a k of 32,768 or less
minus_fits : (k : ℕ) → k ≤ 32_768 → is_offset (neg_ℤ (pos k)) ≡ true
minus_fits zero h = refl
minus_fits (suc k) h = le-leb k 32_767 (omega arith)

-- 32 times a byte
old_fits : (b : ℕ) → is_offset (pos half_ppm *ℤ signed_byte b) ≡ true
unfolding signed
old_fits b =
    if_case (λ z. is_offset (pos half_ppm *ℤ z) ≡ true) (ltb b 128)
    (λ e. le-leb (32 * b) 32_767 (omega (arith, ltb-true b 128 e)))
    (λ e. minus_fits (32 * suc (255 - b)) (omega (arith, ltb-false b 128 e)))

sixteen_bits : SixteenBits
sixteen_bits kind a b i w x e = subst Narrow e (fields_case Narrow kind a b w tt (λ lock. tt) (λ t. old_fits b) tt tt (λ t h. h))

-- ---- together

pub finer_readings : FinerReadings
finer_readings =
    record {
      event_as_before = event_as_before;
      history_as_before = history_as_before;
      proviso_as_before = proviso_as_before;
      fields_as_before = fields_as_before;
      sheet_as_before = sheet_as_before;
      sixteen_bits = sixteen_bits;
    }
