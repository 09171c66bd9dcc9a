-- What the bytes of a record can be.
use Prim.Native.Nat.{ℕ, zero, suc, ◌*◌, ◌≤◌, ◌<◌}
use mathlib.Core.Path.{◌≡◌, ap}
use mathlib.Core.Bool.{false, not, ◌&&◌, true≢false}
use mathlib.Core.List.{List, [], ◌∷◌, ◌++◌}
use native.Mathlib.Omega.{arith}
use lib.Dec.{leb, ltb, eqb}
use lib.IntN.{nat_abs}
use lib.ListN.{length, drop}
use borrow.Author.Tests.{eq-eqb}
use Rattle.rules.specs.Words.{is_input, is_tracked}
use Rattle.rules.specs.Events.{Event, tick, measurement, hit, write, set_bucket, assign_bucket, set_week, set_windows, is_call, sample_limit}
use Rattle.rules.specs.State.{State, selected, mode, Ready}
use Rattle.rules.specs.History.{held}
use Rattle.rules.specs.Registers.{in_map, read_only, largest, fresh}
use Rattle.rules.specs.Refusals.{limits_refused, command_refused, write_refusal, refusal}
use Rattle.rules.specs.Run.{next, outcome}
use Rattle.rules.specs.Sheet.{check, record_of, records, sheet_events, front}
use Rattle.rules.specs.Laws.{Callless, RecordBytes, EachRecord}
use Rattle.rules.proofs.Tests.{if_le}
use Rattle.rules.proofs.Bytes.{state_digit, status_bits}
use Rattle.rules.proofs.Sheets.{record_is, length_run}
use Rattle.rules.proofs.Callless.{no_calls}

-- the numbers of events that are no calls are 1 to 8
refusal_le : (s : State) (e : Event) → is_call e ≡ false → refusal s e ≤ 8
unfolding refusal write_refusal
refusal_le s (tick t) p = if_le (leb (nat_abs t.sample) sample_limit) (omega arith) (omega arith)
refusal_le s (measurement i offset) p = if_le (is_input i) (omega arith) (omega arith)
refusal_le s hit p = if_le (is_tracked (selected s)) (omega arith) (omega arith)
refusal_le s (write a v) p =
    if_le (not (in_map a)) (omega arith)
    (if_le (read_only a) (omega arith)
    (if_le (ltb (largest a) v) (omega arith)
    (if_le (limits_refused s.settings a v) (omega arith)
    (if_le (eqb a 0x26 && command_refused (Ready s) (held s.history.backup) v) (omega arith) (omega arith)))))
refusal_le s (set_bucket n size set_level clear_level d) p = absurd (true≢false p)
refusal_le s (assign_bucket i n) p = absurd (true≢false p)
refusal_le s (set_week place) p = absurd (true≢false p)
refusal_le s (set_windows windows) p = absurd (true≢false p)

first_bytes : (s : State) (e : Event) (rest : List ℕ) → is_call e ≡ false → RecordBytes (record_of (outcome s e) ++ rest)
unfolding outcome
first_bytes s e rest p =
    let now = next s e in
    rw (record_is (refusal s e) now)
    (record { refusal_le = refusal_le s e p; state_le = state_digit (mode now) (selected now); status_lt = status_bits (mode now) (Ready now) (held now.history.backup) })

-- the records after the first
past_first : (s : State) (e : Event) (es : List Event) (i : ℕ) → drop (4 * suc i) (records s (e ∷ es)) ≡ drop (4 * i) (records (outcome s e).state es)
unfolding records record_of
past_first s e es i =
    let four : 4 * suc i ≡ suc (suc (suc (suc (4 * i)))) = omega arith in
    ap (λ n. drop n (records s (e ∷ es))) four

bytes_at : (s : State) (es : List Event) (i : ℕ) → Callless es → i < length es → RecordBytes (drop (4 * i) (records s es))
unfolding records
bytes_at s [] i p h = absurd (omega arith)
bytes_at s (e ∷ es) zero p h = first_bytes s e (records (outcome s e).state es) p.0
bytes_at s (e ∷ es) (suc i) p h = rw (past_first s e es i) (bytes_at (outcome s e).state es i p.1 (omega arith))

pub each_record : EachRecord
unfolding front
each_record s room i e h = rw (eq-eqb (check s room) 0 e) (bytes_at fresh (sheet_events s) i (no_calls s) (omega (arith, length_run s room e)))
