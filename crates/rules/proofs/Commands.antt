-- Which commands are accepted, and what that says of the history.
use Prim.Native.Nat.{ℕ, ◌≤◌}
use mathlib.Core.Path.{◌≡◌, refl, sym, ap, ◌∙◌}
use mathlib.Core.Logic.{◌⊎◌, inl, inr}
use mathlib.Core.Bool.{Bool, true, false, not, ◌&&◌, true≢false}
use mathlib.Core.List.{List, [], ◌∷◌}
use native.Mathlib.Omega.{arith}
use lib.Dec.{eqb}
use lib.IntN.{ℤ}
use lib.ListN.{length}
use borrow.Author.Tests.{eqb-true, leb-true}
use Rattle.rules.specs.Events.{write}
use Rattle.rules.specs.Settings.{Settings}
use Rattle.rules.specs.History.{History, ready_blocks, ready, held}
use Rattle.rules.specs.State.{State, Ready}
use Rattle.rules.specs.Refusals.{limits_refused, command_refused, accepted}
use Rattle.rules.specs.Laws.{SoundHistory}
use Rattle.rules.proofs.Tests.{by_test, clash, and_left, or_cases, or-false}
use Rattle.rules.proofs.Invariants.{WriteAllowed, write_allowed, write_accepted}

-- what is asked of a command: 1 needs Ready, and 2 a backup, which has 43 blocks
pub record Allowed (c : ℕ) (h : History) : Type 0 where
  pub one : c ≡ 1 → ready_blocks ≤ length h.kept
  pub two : c ≡ 2 → ready_blocks ≤ length h.backup

pub some_held : (l : List ℤ) → ready_blocks ≤ length l → held l ≡ true
unfolding held
some_held [] h = absurd (omega arith)
some_held (x ∷ xs) h = refl

-- a backup that is held has 43 blocks
held_full : (h : History) → SoundHistory h → held h.backup ≡ true → ready_blocks ≤ length h.backup
unfolding held
held_full h w e = go w.backup_full
  where
    go : (h.backup ≡ []) ⊎ (ready_blocks ≤ length h.backup) → ready_blocks ≤ length h.backup
    go (inl z) = clash e (ap held z)
    go (inr l) = l

-- what one unit accepts, another with the same settings accepts, but for number 8
pub same_allowed : (s t : State) (a v : ℕ) → s.settings ≡ t.settings → WriteAllowed s a v
    → (eqb a 0x26 && command_refused (Ready t) (held t.history.backup) v) ≡ false → accepted t (write a v) ≡ true
same_allowed s t a v e ok command =
    write_accepted t a v
    (record {
      known = ok.known;
      writable = ok.writable;
      small = ok.small;
      limits = ap (λ (set : Settings). limits_refused set a v) (sym e) ∙ ok.limits;
      command = command;
    })

-- more Ready and more backup: no command more is turned down
pub less_refused : (x : Bool) (r h r' h' : Bool) (v : ℕ) → (r ≡ true → r' ≡ true) → (h ≡ true → h' ≡ true) → (x && command_refused r h v) ≡ false
    → (x && command_refused r' h' v) ≡ false
unfolding command_refused
less_refused false r h r' h' v f g e = refl
less_refused true r h r' h' v f g e =
    let both = or-false (eqb v 1 && not r) (eqb v 2 && not h) e in
    rw (less (eqb v 1) r r' f both.0, less (eqb v 2) h h' g both.1) refl
  where
    less : (a b c : Bool) → (b ≡ true → c ≡ true) → (a && not b) ≡ false → (a && not c) ≡ false
    less false b c f z = refl
    less true true c f z = rw (f refl) refl
    less true false c f z = absurd (true≢false z)

-- the commands that number 8 concerns
pub one_or_two : (r h : Bool) (v : ℕ) → command_refused r h v ≡ true → (v ≡ 1) ⊎ (v ≡ 2)
unfolding command_refused
one_or_two r h v e = go (or_cases (eqb v 1 && not r) (eqb v 2 && not h) e)
  where
    go : ((eqb v 1 && not r) ≡ true) ⊎ ((eqb v 2 && not h) ≡ true) → (v ≡ 1) ⊎ (v ≡ 2)
    go (inl z) = inl (eqb-true v 1 (and_left (eqb v 1) (not r) z))
    go (inr z) = inr (eqb-true v 2 (and_left (eqb v 2) (not h) z))

-- what an accepted command has passed
pub allowed : (s : State) (a v : ℕ) → SoundHistory s.history → accepted s (write a v) ≡ true → eqb a 0x26 ≡ true → Allowed v s.history
unfolding command_refused ready
allowed s a v w e is =
    record {
      one = λ z. leb-true ready_blocks (length s.history.kept) (by_test (Ready s) (λ r. r) (λ r. clash {b = test} (rw (is, z, r) refl) passed));
      two = λ z. held_full s.history w (by_test (held s.history.backup) (λ r. r) (λ r. clash {b = test} (rw (is, z, r) refl) passed));
    }
  where
    test : Bool
    test = eqb a 0x26 && command_refused (Ready s) (held s.history.backup) v

    passed : test ≡ false
    passed = (write_allowed s a v e).command
