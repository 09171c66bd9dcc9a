-- The column Fresh, put into registers slot by slot.
use Rattle.std.proofs.Common.{ℕ, zero, suc, ◌+◌, ◌<◌, ◌≤◌, ◌≡◌, refl, ◌∙◌, List, length, get_or, set, replicate, get_or-set_same, get_or-set_other, if◌then◌else◌, arith}
use lib.Dec.{eqb, ltb}
use borrow.Author.Tests.{lt-ltb, le-ltb, ltb-true, ltb-false, eqb-true, eqb-false}
use Rattle.rules.specs.Registers as rules
use Rattle.rules.proofs.Tests.{by_test}

-- the bytes before slot k are those of the column, and the others 0
abbrev pub Put : List ℕ → ℕ → Type 0
Put regs k = (j : ℕ) → get_or regs j 0 ≡ (if ltb j k then get_or rules.fresh_table j 0 else 0)

zeros : (n j : ℕ) → get_or {A = ℕ} (replicate n 0) j 0 ≡ 0
zeros zero j = refl
zeros (suc n) zero = refl
zeros (suc n) (suc j) = zeros n j

pub none_put : Put (replicate 32 0) 0
none_put j = rw (le-ltb j 0 (omega arith)) (zeros 32 j)

pub one_put : (regs : List ℕ) (k v : ℕ) → length regs ≡ 32 → k < 27 → v ≡ get_or rules.fresh_table k 0 → Put regs k → Put (set regs k v) (k + 1)
one_put regs k v long here e was j =
    by_test (eqb j k)
    (λ t. rw (eqb-true j k t, lt-ltb k (k + 1) (omega arith)) (get_or-set_same regs k v 0 (omega arith) ∙ e))
    (λ t.
    let other : j ≡ k → ⊥ = eqb-false j k t in
    get_or-set_other regs k j v 0 other ∙ was j
    ∙ by_test (ltb j k)
    (λ b. rw (b, lt-ltb j (k + 1) (omega (arith, ltb-true j k b))) refl)
    (λ b. rw (b, le-ltb j (k + 1) (omega (arith, ltb-false j k b, other))) refl))

pub all_put : (regs : List ℕ) (k j : ℕ) → k ≡ 27 → j ≤ 27 → Put regs k → get_or regs j 0 ≡ get_or rules.fresh_table j 0
unfolding rules.fresh_table rules.registers
all_put regs k j e le was =
    was j ∙ rw e (by_test (ltb j 27)
    (λ b. rw b refl)
    (λ b. let last : j ≡ 27 = omega (arith, ltb-false j 27 b) in rw (b, last) refl))
