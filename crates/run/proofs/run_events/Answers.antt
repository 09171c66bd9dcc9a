-- After i events their records are written, and the rest, run from the state so far, gives the rest of them. What is handed to the ticks suits the unit.
use Rattle.std.proofs.Common.{rules, refl, arith, ◌≡◌, ◌≤◌, ◌<◌, ◌+◌, ◌-◌, ◌*◌, ℕ, sym, ap, ◌∙◌, List, [], length, take, drop, length-drop}
use Rattle.rules.specs.Sheet as rules
use Rattle.rules.specs.Sheet.{bad, decode, events_of}
use Rattle.rules.proofs.Parts.{part_all}
use Rattle.state.specs.Stored.{meaning, unit_of}
use Rattle.fields.specs.Bridge.{decoded_of}
use Rattle.unit.specs.Given.{core_after}
use Rattle.run.proofs.Turns.{going_put, going_done, events_more, events_stop}
use Rattle.run.proofs.run_events.Goals as goal

-- the part from an event's place on has its eight bytes
eight_there : (l : List ℕ) (n i : ℕ) → i < n → 8 * n ≤ length l → 8 ≤ length (take (length l - 8 * i) (drop (8 * i) l))
eight_there l n i h few = rw part_all (rw (length-drop (8 * i) l) (omega (arith, h, few)))

pub returns-in_default : goal.returns-in_default
returns-in_default c =
    let a = c.args in
    let i = c.loop-i.i in
    let part = a.part.now in
    let read = ap decode (sym (part_all (8 * i) part)) ∙ sym (c.in_default.ensures.value (eight_there part a.n i c.loop-i-test.true c.requires.0)) in
    going_done _ _ (4 * i) _ _ _ (omega (arith, c.loop-i-test.true, c.requires.1)) (events_stop _ _ _ c.loop-i-test.true read) c.loop-i.invariant.1

pub loop-i-preserved : goal.loop-i-preserved
loop-i-preserved c =
    let a = c.args in
    let l = c.loop-i in
    let i = l.i in
    let part = a.part.now in
    let last = c.step-given.new in
    let suits = l.invariant.0 in
    let core : c.unwrap_or-k.result ≡ core_after l.k c.step-given.result = search rules in
    let told = (λ j. record { refusal = c.number-refusal.ensures j; state = meaning (unit_of (core j) last.m a.u.buckets last.h a.u.windows last.regs) })
    ∙ (c.step-given.ensures.gives a.u.buckets suits).rules in
    let read = ap decode (sym (part_all (8 * i) part)) ∙ sym (c.in-Ok.ensures.value (eight_there part a.n i c.loop-i-test.true c.requires.0)) in (
      record { lanes = suits.lanes; follows = c.step-given.ensures.follows suits.follows },
      going_put _ _ (4 * i) (4 * (i + 1)) _ _ _ _ _ _ _ (omega arith) (omega (arith, c.loop-i-test.true, c.requires.1))
          (events_more _ _ _ c.loop-i-test.true _ read)
          told
          (c.put_record.ensures a.u.buckets last.h a.u.windows last.regs) l.invariant.1,
    )

pub returns : goal.returns
unfolding events_of
returns c =
    let a = c.args in
    let i = c.loop-i.i in
    let e : a.n - i ≡ 0 = omega arith in
    going_done _ _ (4 * i) _ _ _ (omega (arith, c.loop-i.auto.i-end, c.requires.1)) (ap (λ (k : ℕ). events_of k (drop (8 * i) a.part.now)) e)
    c.loop-i.invariant.1
