-- The promise in the records, proved: the record of an event shows the state that the rules' run has after it.
use Rattle.std.specs.Prelude.{if◌then◌else◌}
use Prim.Native.Nat.{ℕ, ◌+◌, ◌*◌, ◌%◌, ◌≤◌}
use mathlib.Core.Path.{◌≡◌, refl, ap, sym, subst, ◌∙◌}
use mathlib.Core.Bool.{Bool, true, false, ◌||◌}
use mathlib.Core.List.{List, [], ◌∷◌, ◌++◌, append_assoc, append-nil}
use native.Mathlib.Omega.{arith}
use borrow.Author.Tests.{eq-eqb}
use lib.ListN.{length, get_or}
use lib.Seq.{get_or-append-add}
use Rattle.rules.specs.Words.{bit}
use Rattle.rules.specs.Events.{Event}
use Rattle.rules.specs.Pll.{Mode, holdover, free_run, locked, is}
use Rattle.rules.specs.Settings.{delay, reversion}
use Rattle.rules.specs.Buckets.{start_bucket, bucket_of}
use Rattle.rules.specs.State.{selected, mode, Ready}
use Rattle.rules.specs.History.{held}
use Rattle.rules.specs.Registers.{fresh}
use Rattle.rules.specs.Reading.{state_byte, status_byte}
use Rattle.rules.specs.Refusals.{refusal}
use Rattle.rules.specs.Run.{next, run, outcome}
use Rattle.rules.specs.Sheet.{sheet_events, check, record_of, records, front}
use Rattle.rules.proofs.Counts.{delays}
use Rattle.rules.proofs.SoundBuckets.{start_bucket_assigned}
use Rattle.rules.proofs.Callless.{callless_front, no_calls, untouched}
use Rattle.rules.proofs.Loading.{standard}
use Rattle.rules.proofs.Service.{run_append, promise_at_start}
use Rattle.rules.proofs.Sheets.{record_is, records_append, length_records}
use Rattle.rules.specs.Laws.{Callless}
use Rattle.rules.specs.Service.{Provisos}
use Rattle.rules.specs.Records.{byte_of, RecordsPromise}

-- an element behind a list
get_d_behind : (l m : List ℕ) (n k : ℕ) → length l ≡ n → get_or (l ++ m) (n + k) 0 ≡ get_or m k 0
get_d_behind l m n k e = rw (← e) (get_or-append-add l m k 0)

-- Ready is bit 2 of 0x49
ready_bit : (a b h : Bool) → bit ((if a then 1 else 0) + (if b then 0 else 2) + 4 + (if h then 8 else 0)) 2 ≡ true
unfolding bit
ready_bit true true true = refl
ready_bit true true false = refl
ready_bit true false true = refl
ready_bit true false false = refl
ready_bit false true true = refl
ready_bit false true false = refl
ready_bit false false true = refl
ready_bit false false false = refl

shows_ready : (m : Mode) (isReady is_held : Bool) → isReady ≡ true → bit (status_byte m isReady is_held) 2 ≡ true
unfolding status_byte
shows_ready m isReady is_held e = rw e (ready_bit (is holdover m || is free_run m) (is locked m) is_held)

shows_selected : (m : Mode) (selected r : ℕ) → r ≤ 8 → selected ≡ r → state_byte m selected % 16 ≡ r
unfolding state_byte
shows_selected m selected r h e = omega (arith, h, e)

-- the record of the event e, which comes after xs
bytes_are : (sheet : List ℕ) (room : ℕ) (xs : List Event) (e : Event) (rest : List Event) (k : ℕ)
    → check sheet room ≡ 0 → sheet_events sheet ≡ xs ++ (e ∷ rest)
    → byte_of (front sheet room) (length xs) k ≡ get_or (record_of (outcome (run fresh xs) e) ++ records (outcome (run fresh xs) e).state rest) k 0
unfolding front records
bytes_are sheet room xs e rest k zero events =
    rw (eq-eqb (check sheet room) 0 zero, events)
    (ap (λ (l : List ℕ). get_or l (4 * length xs + k) 0) (records_append fresh xs (e ∷ rest))
    ∙ get_d_behind (records fresh xs) (records (run fresh xs) (e ∷ rest)) (4 * length xs) k (length_records fresh xs))

-- the state after e, by the whole list
state_after : (before after : List Event) (e : Event) → next (run fresh (before ++ after)) e ≡ run fresh (before ++ ((after ++ (e ∷ [])) ++ []))
unfolding run
state_after before after e =
    sym (run_append (before ++ after) (e ∷ []) fresh)
    ∙ ap (run fresh) (append_assoc before after (e ∷ []) ∙ ap (λ (l : List Event). before ++ l) (sym (append-nil (after ++ (e ∷ [])))))

-- THE PROMISE IN THE RECORDS
pub records_promise : RecordsPromise
unfolding outcome
records_promise sheet room before after e rest r zero events p =
    let xs = before ++ after in
    let now = next (run fresh xs) e in
    let bytes = record_is (refusal (run fresh xs) e) now in
    let same = state_after before after e in
    let plain = callless_front before after (callless_front xs (e ∷ rest) (subst Callless events (no_calls sheet))) in
    let set = untouched fresh standard.is_fresh before plain in
    let start : bucket_of (run fresh before).buckets r ≡ start_bucket = rw set.0 (start_bucket_assigned r) in
    let met = subst (Provisos r (run fresh before)) (sym (append-nil (after ++ (e ∷ [])))) p in
    let served = promise_at_start fresh standard.is_fresh before (after ++ (e ∷ [])) [] r (reversion (run fresh before).settings) set.1 start (delays (delay (run fresh before).settings)) met in
    let state = bytes_are sheet room xs e rest 1 zero events ∙ ap (λ (l : List ℕ). get_or (l ++ records now rest) 1 0) bytes in
    let status = bytes_are sheet room xs e rest 3 zero events ∙ ap (λ (l : List ℕ). get_or (l ++ records now rest) 3 0) bytes in
    record {
      selected_is = λ ticks. ap (λ (n : ℕ). n % 16) state ∙ shows_selected (mode now) (selected now) r p.high (ap selected same ∙ served.selected_is ticks);
      ready_is = λ ticks. ap (λ (n : ℕ). bit n 2) status ∙ shows_ready (mode now) (Ready now) (held now.history.backup) (ap Ready same ∙ served.ready_is ticks);
    }
