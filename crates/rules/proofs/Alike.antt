-- The PLL of two units, of which the second is Ready at least where the first is: Holdover for Free Run, and so Pre-locked 2 for Pre-locked; all else is the same.
use Rattle.std.specs.Prelude.{if◌then◌else◌}
use Prim.Native.Nat.{ℕ, ◌+◌, min}
use mathlib.Core.Path.{◌≡◌, refl, ap}
use mathlib.Core.Bool.{Bool, true, false, not, ◌&&◌, ◌||◌, true≢false, false≢true}
use lib.Dec.{eqb}
use Rattle.rules.specs.Pll.{Mode, free_run, holdover, pre_locked, locked, pre_locked2, mode_number, is, Loop, lock_ticks, unlock_ticks, unlocked, looped}
use Rattle.rules.specs.Settings.{Settings, automatic, op_mode}
use Rattle.rules.specs.Selection.{unselected_mode, mode_after, steered}

pub data Alike : Mode → Mode → Type 0 where
  same : {m : Mode} → Alike m m
  held_over : Alike free_run holdover
  again : Alike pre_locked pre_locked2

pub record LoopAlike (p q : Loop) : Type 0 where
  pub modes : Alike p.mode q.mode
  pub lock_is : p.lock_run ≡ q.lock_run
  pub unlock_is : p.unlock_run ≡ q.unlock_run

pub alike_locked : (m k : Mode) → Alike m k → is locked m ≡ is locked k
unfolding mode_number
alike_locked m k same = refl
alike_locked m k held_over = refl
alike_locked m k again = refl

alike_unlocked : (m k : Mode) → Alike m k → Alike (unlocked m) (unlocked k)
unfolding unlocked mode_number
alike_unlocked m k same = same
alike_unlocked m k held_over = held_over
alike_unlocked m k again = again

-- step 3
pub alike_looped : (b lock : Bool) (p q : Loop) → LoopAlike p q → LoopAlike (if b then looped lock p else p) (if b then looped lock q else q)
unfolding looped
alike_looped false lock p q a = a
alike_looped true true p q a =
    record {
      modes = go (eqb (min lock_ticks (p.lock_run + 1)) lock_ticks) (eqb (min lock_ticks (q.lock_run + 1)) lock_ticks) (ap (λ (n : ℕ). eqb (min lock_ticks (n + 1)) lock_ticks) a.lock_is);
      lock_is = ap (λ (n : ℕ). min lock_ticks (n + 1)) a.lock_is;
      unlock_is = refl;
    }
  where
    go : (b c : Bool) → b ≡ c → Alike (if b then locked else p.mode) (if c then locked else q.mode)
    go true true e = same
    go true false e = absurd (true≢false e)
    go false true e = absurd (false≢true e)
    go false false e = a.modes
alike_looped true false p q a =
    record {
      modes = alike_unlocked p.mode q.mode a.modes;
      lock_is = refl;
      unlock_is = ap (λ (n : ℕ). min unlock_ticks (n + 1)) a.unlock_is;
    }

-- step 4: nothing is selected, or another reference is
pub alike_none : (a b : Bool) → (a ≡ true → b ≡ true) → Alike (unselected_mode a) (unselected_mode b)
unfolding unselected_mode
alike_none true true h = same
alike_none true false h = absurd (false≢true (h refl))
alike_none false true h = held_over
alike_none false false h = same

alike_taken : (m k : Mode) → Alike m k → Alike (if is free_run m then pre_locked else pre_locked2) (if is free_run k then pre_locked else pre_locked2)
unfolding mode_number
alike_taken m k same = same
alike_taken m k held_over = again
alike_taken m k again = same

alike_steered : (set : Settings) (a b : Bool) (before after : ℕ) (p q : Loop) → (a ≡ true → b ≡ true) → LoopAlike p q
    → LoopAlike (steered (automatic set) (op_mode set) a before after p) (steered (automatic set) (op_mode set) b before after q)
unfolding steered mode_after
alike_steered set a b before after p q h l =
    record {
      modes = go ((not (automatic set) && eqb (op_mode set) 0) || eqb after 9) (eqb after 0) (eqb after before);
      lock_is = ap (λ (n : ℕ). if eqb after before then n else 0) l.lock_is;
      unlock_is = ap (λ (n : ℕ). if eqb after before then n else 0) l.unlock_is;
    }
  where
    M : Bool → Bool → Bool → Bool → Mode → Mode
    M x y z r m = if x then free_run else (if y then unselected_mode r else (if z then m else (if is free_run m then pre_locked else pre_locked2)))

    go : (x y z : Bool) → Alike (M x y z a p.mode) (M x y z b q.mode)
    go true y z = same
    go false true z = alike_none a b h
    go false false true = l.modes
    go false false false = alike_taken p.mode q.mode l.modes

-- where settings and selections are known to be the same
pub alike_at : (set set' : Settings) (a b : Bool) (before before' after after' : ℕ) (p q : Loop) → set ≡ set' → before ≡ before' → after ≡ after'
    → (a ≡ true → b ≡ true) → LoopAlike p q
    → LoopAlike (steered (automatic set) (op_mode set) a before after p) (steered (automatic set') (op_mode set') b before' after' q)
alike_at set set' a b before before' after after' p q es eb ea h l = rw (es, eb, ea) (alike_steered set' a b before' after' p q h l)
