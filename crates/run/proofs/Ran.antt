-- What a sheet's run writes: the records of the settings, and behind them those of the events.
use Prim.Native.Nat.{ℕ, ◌+◌, ◌-◌, ◌*◌}
use mathlib.Core.Path.{◌≡◌, refl, ap, sym, ◌∙◌}
use mathlib.Core.List.{List, [], ◌++◌}
use borrow.Author.Tests.{eq-eqb, ne_eqb}
use lib.ListN.{length, take, drop, length-append}
use lib.Seq.{take_at, drop-append-add, drop-drop}
use Rattle.rules.specs.State.{State}
use Rattle.rules.specs.Registers.{fresh}
use Rattle.rules.specs.Run.{run}
use Rattle.rules.specs.Sheet.{settings_count, events_at, events_count, settings_of, events_of, sheet_events, check, records, front, over, output_after}
use Rattle.rules.proofs.Sheets.{length_settings, records_append, length_records}
use Rattle.rules.proofs.Parts.{part_all, came_back}

-- a refused sheet gives nothing
pub refused : (s : List ℕ) (room : ℕ) → (check s room ≡ 0 → ⊥) → front s room ≡ []
unfolding front
refused s room h = rw (ne_eqb (check s room) 0 h) refl

-- the two parts of what a sheet that will run gives
parts : (s : List ℕ) (room : ℕ) → check s room ≡ 0
    → let first = settings_of (settings_count s) (drop 2 s) in
    front s room ≡ records fresh first ++ records (run fresh first) (events_of (events_count s) (drop (events_at s + 2) s))
unfolding front sheet_events
parts s room h =
    rw (eq-eqb (check s room) 0 h)
    (records_append fresh (settings_of (settings_count s) (drop 2 s)) (events_of (events_count s) (drop (events_at s + 2) s)))

-- Two runs of records into one output: the first from its front, the second behind it.
both : (a : ℕ) (p q l m w : List ℕ) → length p ≡ a → m ≡ over p l → w ≡ over q (take (length m - a) (drop a m))
    → take a m ++ (w ++ drop (length m - a) (drop a m)) ≡ over (p ++ q) l
both a p q l m w n e f =
    let t : take a m ≡ p = ap (take a) e ∙ take_at p (drop (length p) l) a n in
    let d : drop (a + length q) m ≡ drop (length (p ++ q)) l =
    ap (drop (a + length q)) e
    ∙ ap (λ (k : ℕ). drop (k + length q) (over p l)) (sym n)
    ∙ drop-append-add p (drop (length p) l) (length q)
    ∙ drop-drop (length q) (length p) l
    ∙ ap (λ (k : ℕ). drop k l) (sym (length-append p q)) in
    ap (λ (v : List ℕ). take a m ++ (v ++ drop (length m - a) (drop a m))) f
    ∙ came_back a q m
    ∙ ap (λ (v : List ℕ). (v ++ q) ++ drop (a + length q) m) t
    ∙ ap (λ (v : List ℕ). (p ++ q) ++ v) d

-- The output of a whole run: m after the settings' records, from the state u to v, and w in the place of its part from 4 * n on after the events'.
pub all_written :
    (s out m w : List ℕ) (n k : ℕ) (u v : State)
    → check s (length out) ≡ 0
    → n ≡ settings_count s
    → k ≡ events_count s
    → u ≡ fresh
    → v ≡ run u (settings_of n (take (length s - 2) (drop 2 s)))
    → m ≡ over (records u (settings_of n (take (length s - 2) (drop 2 s)))) out
    → w ≡ over (records v (events_of k (take (length s - (2 + 2 * n + 2)) (drop (2 + 2 * n + 2) s)))) (take (length m - 4 * n) (drop (4 * n) m))
    → take (4 * n) m ++ (w ++ drop (length m - 4 * n) (drop (4 * n) m)) ≡ output_after s out
unfolding output_after events_at settings_count
all_written s out m w n k u v z first second a b p q =
    let S = settings_of (settings_count s) (drop 2 s) in
    let E = events_of (events_count s) (drop (events_at s + 2) s) in
    let settings : settings_of n (take (length s - 2) (drop 2 s)) ≡ S =
    ap (settings_of n) (part_all 2 s) ∙ ap (λ (i : ℕ). settings_of i (drop 2 s)) first in
    let events : events_of k (take (length s - (2 + 2 * n + 2)) (drop (2 + 2 * n + 2) s)) ≡ E =
    ap (events_of k) (part_all (2 + 2 * n + 2) s)
    ∙ ap (λ (i : ℕ). events_of k (drop (2 + 2 * i + 2) s)) first
    ∙ ap (λ (i : ℕ). events_of i (drop (events_at s + 2) s)) second in
    let left : v ≡ run fresh S = b ∙ ap (run u) settings ∙ ap (λ (x : State). run x S) a in
    both (4 * n) (records fresh S) (records (run fresh S) E) out m w
    (length_records fresh S ∙ ap (λ (i : ℕ). 4 * i) (length_settings (settings_count s) (drop 2 s) ∙ sym first))
    (p ∙ ap (λ (l : List ℕ). over l out) (ap (records u) settings ∙ ap (λ (x : State). records x S) a))
    (q ∙ ap (λ (l : List ℕ). over l (take (length m - 4 * n) (drop (4 * n) m))) (ap (records v) events ∙ ap (λ (x : State). records x E) left))
    ∙ ap (λ (l : List ℕ). over l out) (sym (parts s (length out) z))
