-- The turns of the loops that run a sheet's settings and events.
use Prim.Native.Nat.{ℕ, suc, ◌+◌, ◌-◌, ◌*◌, ◌≤◌, ◌<◌}
use mathlib.Core.Path.{◌≡◌, refl, ap, sym, ◌∙◌, subst}
use mathlib.Core.List.{List, [], ◌∷◌, ◌++◌, append_assoc, append-nil}
use native.Mathlib.Nat.{add-zero}
use native.Mathlib.Omega.{arith}
use lib.ListN.{length, take, drop, get_or, length-drop, length-append, take-append-drop}
use lib.Seq.{length-take-le, take_at, drop_at, drop-drop, get_or-drop}
use Rattle.rules.specs.Events.{Event, write}
use Rattle.rules.specs.State.{State}
use Rattle.rules.specs.Run.{Outcome, outcome}
use Rattle.rules.specs.Sheet.{event, bad, decode, settings_of, before, events_of, record_of, records, over}
use Rattle.rules.proofs.Parts.{came_back}

one_less : (n i : ℕ) → i < n → n - i ≡ suc (n - (i + 1))
one_less n i h = omega arith

-- the step from element i to i + 1, in a list of elements of k bytes
next : (k a b : ℕ) (l : List ℕ) → a + k ≡ b → drop k (drop a l) ≡ drop b l
next k a b l h = drop-drop k a l ∙ ap (λ (m : ℕ). drop m l) h

module _ (n i : ℕ) (l : List ℕ) (h : i < n) where
  pub events_more : (e : Event) → decode (drop (8 * i) l) ≡ event e → events_of (n - i) (drop (8 * i) l) ≡ e ∷ events_of (n - (i + 1)) (drop (8 * (i + 1)) l)
  unfolding events_of before
  events_more e d = rw (one_less n i h, d, next 8 (8 * i) (8 * (i + 1)) l (omega arith)) refl

  pub events_stop : decode (drop (8 * i) l) ≡ bad → events_of (n - i) (drop (8 * i) l) ≡ []
  unfolding events_of before
  events_stop d = rw (one_less n i h, d) refl

  pub settings_more : settings_of (n - i) (drop (2 * i) l) ≡ write (get_or l (2 * i) 0) (get_or l (2 * i + 1) 0) ∷ settings_of (n - (i + 1)) (drop (2 * (i + 1)) l)
  unfolding settings_of
  settings_more = rw (one_less n i h, next 2 (2 * i) (2 * (i + 1)) l (omega arith)) (simp (get_or-drop, add-zero))

-- Part of the records are written: those of the first `written` bytes. What is left is `rest`, from the state s.
pub record Going (all before : List ℕ) (written : ℕ) (s : State) (rest : List Event) (out : List ℕ) : Type 0 where
  pub same : length out ≡ length before
  pub front : take written out ++ records s rest ≡ all
  pub back : drop written out ≡ drop written before

pub going_start : (s : State) (es : List Event) (out : List ℕ) → Going (records s es) out 0 s es out
going_start s es out = record { same = refl; front = refl; back = refl }

going_more :
    (all before : List ℕ) (written : ℕ) (s : State) (e : Event) (es : List Event) (out : List ℕ)
    → written + 4 ≤ length before → Going all before written s (e ∷ es) out
    → Going all before (written + 4) (outcome s e).state es ((take written out ++ record_of (outcome s e)) ++ drop (written + 4) out)
unfolding records record_of
going_more all before written s e es out h g =
    let r = record_of (outcome s e) in
    let t : length (take written out) ≡ written = length-take-le written out (omega (arith, g.same)) in
    let f : length (take written out ++ r) ≡ written + 4 = length-append (take written out) r ∙ ap (λ (k : ℕ). k + 4) t in
    record {
      same = length-append (take written out ++ r) (drop (written + 4) out) ∙ omega (arith, length-drop (written + 4) out, g.same);
      front =
          ap (λ (l : List ℕ). l ++ records (outcome s e).state es) (take_at (take written out ++ r) (drop (written + 4) out) (written + 4) f)
          ∙ append_assoc (take written out) r (records (outcome s e).state es) ∙ g.front;
      back = drop_at (take written out ++ r) (drop (written + 4) out) (written + 4) f ∙ sym (drop-drop 4 written out) ∙ ap (drop 4) g.back ∙ drop-drop 4 written before;
    }

-- One turn of a loop: the event e gave o, and the part of the output from `written` on came back as w.
pub going_put :
    (all before : List ℕ) (written further : ℕ) (s : State) (e : Event) (rest es : List Event) (out w : List ℕ) (o : Outcome)
    → written + 4 ≡ further → further ≤ length before
    → rest ≡ e ∷ es → o ≡ outcome s e
    → w ≡ over (record_of o) (take (length out - written) (drop written out))
    → Going all before written s rest out
    → Going all before further o.state es (take written out ++ (w ++ drop (length out - written) (drop written out)))
unfolding record_of
going_put all before written further s e rest es out w o f h r q p g =
    rw (p, q, ← f)
    (subst (λ (t : List ℕ). Going all before (written + 4) (outcome s e).state es t)
    (sym (came_back written (record_of (outcome s e)) out))
    (going_more all before written s e es out (omega arith) (subst (λ (k : List Event). Going all before written s k out) r g)))

-- Nothing is left to run.
pub going_done :
    (all before : List ℕ) (written : ℕ) (s : State) (rest : List Event) (out : List ℕ)
    → written ≤ length before → rest ≡ [] → Going all before written s rest out → out ≡ over all before
unfolding records
going_done all before written s rest out h r g =
    let t : length (take written out) ≡ written = length-take-le written out (omega (arith, g.same)) in
    let a : take written out ≡ all = sym (append-nil (take written out)) ∙ ap (λ (l : List Event). take written out ++ records s l) (sym r) ∙ g.front in
    let n : written ≡ length all = sym t ∙ ap length a in
    sym (take-append-drop written out)
    ∙ ap (λ (l : List ℕ). take written out ++ l) g.back
    ∙ ap (λ (l : List ℕ). l ++ drop written before) a
    ∙ ap (λ (k : ℕ). all ++ drop k before) n
