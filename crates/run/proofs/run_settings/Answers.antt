-- After i settings their records are written, and the rest, run from the state so far, gives the rest of them and the same state. What is handed to the ticks
-- follows from the registers.
use Rattle.std.proofs.Common.{rules, refl, arith, ◌≡◌, ◌+◌, ◌-◌, ◌*◌, ℕ, sym, ap, ◌∙◌, List, [], drop}
use Rattle.rules.specs.Run as rules
use Rattle.rules.specs.Run.{run, outcome}
use Rattle.rules.specs.Sheet.{settings_of}
use Rattle.buckets.specs.declared.Buckets.{Buckets}
use Rattle.state.specs.Stored.{meaning, unit_of}
use Rattle.unit.specs.Given.{core_after}
use Rattle.run.proofs.Turns.{going_put, going_done, settings_more}
use Rattle.run.proofs.run_settings.Goals as goal

pub loop-i-preserved : goal.loop-i-preserved
unfolding run outcome
loop-i-preserved c =
    let a = c.args in
    let l = c.loop-i in
    let i = l.i in
    let m = a.m.now in
    let last = c.write-given.new in
    let rest = settings_of (a.n - (i + 1)) (drop (2 * (i + 1)) a.part.now) in
    let more = settings_more a.n i a.part.now c.loop-i-test.true in
    let core : c.unwrap_or-k.result ≡ core_after l.k c.write-given.result = search rules in
    let told : (b : Buckets) (w : List ℕ) → _ = λ b w.
    (λ j. record { refusal = c.number-refusal.ensures j; state = meaning (unit_of (core j) m b last.h w last.regs) })
    ∙ (c.write-given.ensures.gives m b w).rules in
    let going : (b : Buckets) (w : List ℕ) → _ = λ b w.
    going_put _ _ (4 * i) (4 * (i + 1)) _ _ _ _ _ _ _ (omega arith) (omega (arith, c.loop-i-test.true, c.requires.1)) more (told b w)
    (c.put_record.ensures b last.h w last.regs) (l.invariant.2 b w) in (
      (going (record { sets = []; assigned = [] }) []).same,
      c.write-given.ensures.follows l.invariant.1,
      going,
      (λ b w.
          ap (λ (o : rules.Outcome). run o.state rest) (told b w)
          ∙ sym (ap (run (meaning (unit_of l.k m b l.h w l.regs))) more)
          ∙ l.invariant.3 b w),
    )

-- nothing is left
none_left : (n i : ℕ) (l : List ℕ) → n ≡ i → settings_of (n - i) (drop (2 * i) l) ≡ []
unfolding settings_of
none_left n i l e = let z : n - i ≡ 0 = omega (arith, e) in ap (λ (k : ℕ). settings_of k (drop (2 * i) l)) z

pub returns-clause-rule : goal.returns-clause-rule
unfolding run
returns-clause-rule c b w =
    let l = c.loop-i in
    let s = meaning (unit_of l.k c.args.m.now b l.h w l.regs) in
    sym (ap (run s) (none_left c.args.n l.i c.args.part.now (omega (arith, c.loop-i-test.false, l.auto.i-end)))) ∙ l.invariant.3 b w

pub returns-clause-out_after : goal.returns-clause-out_after
returns-clause-out_after c b w =
    let l = c.loop-i in
    let e : c.args.n ≡ l.i = omega (arith, c.loop-i-test.false, l.auto.i-end) in
    going_done _ _ (4 * l.i) _ _ _ (omega (arith, e, c.requires.1)) (none_left c.args.n l.i c.args.part.now e) (l.invariant.2 b w)
