-- Run sheets: what a run writes.
use Prim.Native.Nat.{ℕ, zero, suc, ◌+◌, ◌*◌, ◌≤◌}
use mathlib.Core.Path.{◌≡◌, refl, ap, sym, ◌∙◌}
use mathlib.Core.Bool.{true, ◌||◌, false≢true}
use mathlib.Core.List.{List, [], ◌∷◌, ◌++◌}
use native.Mathlib.Omega.{arith}
use lib.Dec.{ltb}
use lib.ListN.{length, take, drop, length-append, length-drop}
use lib.Seq.{take_at}
use borrow.Author.Tests.{ltb-false, eq-eqb, ne_eqb, not-false}
use Rattle.rules.specs.Events.{Event}
use Rattle.rules.specs.History.{held}
use Rattle.rules.specs.State.{State, selected, mode, Ready}
use Rattle.rules.specs.Registers.{fresh, registers, slot, in_map, register, read_only}
use Rattle.rules.specs.Reading.{qualified_mask, state_byte, status_byte, shown, content, read}
use Rattle.rules.specs.Run.{outcome, run}
use Rattle.rules.specs.Sheet.{Decoded, event, bad, decode, settings_count, events_at, events_count, sheet_end, settings_of, before, events_of, sheet_events, is_event, all_events, record_count, check, record_of, records, front, output_after}
use Rattle.rules.specs.Laws.{Outputs, OutputKept}
use Rattle.rules.proofs.Tests.{and_left, and_right, or-false, unrefused}

pub length_settings : (k : ℕ) (l : List ℕ) → length (settings_of k l) ≡ k
unfolding settings_of
length_settings zero l = refl
length_settings (suc k) l = ap suc (length_settings k (drop 2 l))

-- where each is an event, there are as many as the count says
length_before : (d : Decoded) (es : List Event) → is_event d ≡ true → length (before d es) ≡ suc (length es)
unfolding before is_event
length_before (event e) es t = refl
length_before bad es t = absurd (false≢true t)

length_events : (k : ℕ) (l : List ℕ) → all_events k l ≡ true → length (events_of k l) ≡ k
unfolding events_of all_events
length_events zero l e = refl
length_events (suc k) l e =
    length_before (decode l) (events_of k (drop 8 l)) (and_left (is_event (decode l)) (all_events k (drop 8 l)) e)
    ∙ ap suc (length_events k (drop 8 l) (and_right (is_event (decode l)) (all_events k (drop 8 l)) e))

-- a record's bytes: the refusal, and what the rules read at 0x48, 0x46 and 0x49
pub record_is : (n : ℕ) (s : State) → record_of (record { refusal = n; state = s }) ≡ n ∷ state_byte (mode s) (selected s) ∷ qualified_mask s.inputs ∷ status_byte (mode s) (Ready s) (held s.history.backup) ∷ []
unfolding record_of read content shown registers slot in_map register read_only
record_is n s = refl

pub records_append : (s : State) (xs ys : List Event) → records s (xs ++ ys) ≡ records s xs ++ records (run s xs) ys
unfolding records record_of run outcome
records_append s [] ys = refl
records_append s (e ∷ es) ys = ap (λ (l : List ℕ). record_of (outcome s e) ++ l) (records_append (outcome s e).state es ys)

pub length_records : (s : State) (es : List Event) → length (records s es) ≡ 4 * length es
unfolding records record_of
length_records s [] = refl
length_records s (e ∷ es) = omega (arith, length_records (outcome s e).state es)

-- what a sheet that runs has passed
pub record Passed (s : List ℕ) (room : ℕ) : Type 0 where
  pub short : length s ≤ 65_535
  pub few : settings_count s ≤ 256
  pub whole : length s ≡ sheet_end s
  pub events : all_events (events_count s) (drop (events_at s + 2) s) ≡ true
  pub fits : 4 * record_count s ≤ room

pub passed : (s : List ℕ) (room : ℕ) → check s room ≡ 0 → Passed s room
unfolding check
passed s room e =
    let first = unrefused (ltb 65_535 (length s) || ltb 256 (settings_count s)) 8 _ e in
    let second = unrefused (ltb (length s) (sheet_end s)) 9 _ first.1 in
    let third = unrefused (ltb (sheet_end s) (length s)) 10 _ second.1 in
    let sized = or-false (ltb 65_535 (length s)) (ltb 256 (settings_count s)) first.0 in
    let whole : length s ≡ sheet_end s = omega (arith, ltb-false (length s) (sheet_end s) second.0, ltb-false (sheet_end s) (length s) third.0) in
    let fourth = unrefused _ 11 _ third.1 in
    record {
      short = ltb-false 65_535 (length s) sized.0;
      few = ltb-false 256 (settings_count s) sized.1;
      whole = whole;
      events = not-false (all_events (events_count s) (drop (events_at s + 2) s)) fourth.0;
      fits = ltb-false room (4 * record_count s) (unrefused _ 12 0 fourth.1).0;
    }

length_sheet : (s : List ℕ) → all_events (events_count s) (drop (events_at s + 2) s) ≡ true → length (sheet_events s) ≡ record_count s
unfolding sheet_events record_count
length_sheet s e =
    length-append (settings_of (settings_count s) (drop 2 s)) (events_of (events_count s) (drop (events_at s + 2) s))
    ∙ omega (arith, length_settings (settings_count s) (drop 2 s), length_events (events_count s) (drop (events_at s + 2) s) e)

-- a sheet that runs gives as many events as records
pub length_run : (s : List ℕ) (room : ℕ) → check s room ≡ 0 → length (sheet_events s) ≡ record_count s
length_run s room e = length_sheet s (passed s room e).events

pub outputs : Outputs
unfolding front output_after
outputs s output e =
    record {
      written = front_length;
      within = ok.fits;
      kept = simp (length-append, length-drop) (omega (arith, front_length, ok.fits));
    }
  where
    ok : Passed s (length output)
    ok = passed s (length output) e

    front_length : length (front s (length output)) ≡ 4 * record_count s
    front_length = rw (eq-eqb (check s (length output)) 0 e) (length_records fresh (sheet_events s) ∙ ap (λ n. 4 * n) (length_run s (length output) e))

pub output_kept : OutputKept
unfolding front output_after
output_kept s output n = rw (ne_eqb (check s (length output)) 0 n) refl

-- the written front part, taken from the output
pub front_part : (s output : List ℕ) (n : ℕ) → n ≡ length (front s (length output)) → take n (output_after s output) ≡ front s (length output)
unfolding output_after
front_part s output n e =
    let f = front s (length output) in
    take_at f (drop (length f) output) n (sym e)
