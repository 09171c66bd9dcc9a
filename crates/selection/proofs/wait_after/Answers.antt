-- The wait: one that counts for another best, or for none, is a wait of 0 that rises (`by_waited`).
use Rattle.std.proofs.Common.{refl, arith, ℕ, ◌≡◌, ◌+◌, min, Bool, ◌&&◌, if◌then◌else◌, ap, sym, ◌∙◌, eqb, ltb, leb}
use borrow.Author.Tests.{ltb-true, ltb-false, le-leb, lt-leb, eqb-true}
use Rattle.rules.specs.Selection.{Choice, wait_limit, wait_after}
use Rattle.rules.proofs.Tests.{if_case, by_test, or_true, and_false}
use Rattle.selection.specs.Bridge.{choice_of}
use Rattle.selection.proofs.wait_after.Goals as goal

-- the wait with a tick, of one that stands at w
abbrev risen : Bool → ℕ → ℕ → ℕ
risen blocked n w = min wait_limit (if blocked && leb (n + 1) w then w else w + 1)

-- a wait of 0 rises, in a window too
from_none : (blocked : Bool) (n : ℕ) → 1 ≡ risen blocked n 0
from_none blocked n = rw (lt-leb (n + 1) 0 (omega arith), and_false blocked) refl

-- the rule, by the ticks waited for the same best
by_waited : (blocked : Bool) (n b : ℕ) (c : Choice) → wait_after blocked n b c ≡ risen blocked n (if eqb c.awaited b then c.wait else 0)
unfolding wait_after
by_waited blocked n b c =
    by_test (eqb c.awaited b)
    (λ same. rw same
    (by_test (eqb c.wait 0)
    (λ none. rw (none, eqb-true c.wait 0 none) (from_none blocked n))
    (λ some. rw some refl)))
    (λ other. rw (other, or_true (eqb c.wait 0)) (from_none blocked n))

-- "below n + 1"
above : (n w : ℕ) → leb (n + 1) w ≡ ltb n w
above n w =
    by_test (ltb n w) (λ e. le-leb (n + 1) w (omega (arith, ltb-true n w e)) ∙ sym e) (λ e. lt-leb (n + 1) w (omega (arith, ltb-false n w e)) ∙ sym e)

-- the rule, by what the code has waited and tested
rule : (blocked : Bool) (n b w : ℕ) (c : Choice) {t : Bool} → w ≡ (if eqb c.awaited b then c.wait else 0) → (blocked && ltb n w) ≡ t
    → wait_after blocked n b c ≡ min wait_limit (if t then w else w + 1)
rule blocked n b w c e t =
    by_waited blocked n b c ∙ ap (risen blocked n) (sym e) ∙ (λ i. min wait_limit (if blocked && above n w i then w else w + 1))
    ∙ (λ i. min wait_limit (if t i then w else w + 1))

pub returns-then-blocked-n : goal.returns-then-blocked-n
returns-then-blocked-n c =
    let stays : min wait_limit c.waited-so_far.result ≡ c.waited-so_far.result = omega (arith, c.if-so_far-lt-WAIT_LIMIT.true) in
    sym (rule c.args.blocked c.args.n c.args.b _ (choice_of c.args.c) c.waited-so_far.ensures c.if-blocked-n.true ∙ stays)

pub returns-then-so_far-lt-WAIT_LIMIT : goal.returns-then-so_far-lt-WAIT_LIMIT
returns-then-so_far-lt-WAIT_LIMIT c =
    let rises : min wait_limit (c.waited-so_far.result + 1) ≡ c.waited-so_far.result + 1 = omega (arith, c.if-so_far-lt-WAIT_LIMIT.true) in
    sym (rule c.args.blocked c.args.n c.args.b _ (choice_of c.args.c) c.waited-so_far.ensures c.if-blocked-n.false ∙ rises)

pub returns : goal.returns
returns c =
    let a = c.args in
    let w = c.waited-so_far.result in
    sym (rule a.blocked a.n a.b w (choice_of a.c) c.waited-so_far.ensures refl
    ∙ if_case (λ m. min wait_limit m ≡ wait_limit) (a.blocked && ltb a.n w) (λ _. omega (arith, c.if-so_far-lt-WAIT_LIMIT.false)) (λ _. omega (arith, c.if-so_far-lt-WAIT_LIMIT.false)))
