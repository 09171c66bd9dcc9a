-- The history under the old rules and under the new ones: the new one is Ready, or the history that fills has no fewer blocks than the old one, and as many open
-- samples. Every step and command keeps this.
use Rattle.std.specs.Prelude.{if◌then◌else◌}
use Prim.Native.Nat.{ℕ, ◌+◌, ◌≤◌}
use mathlib.Core.Path.{◌≡◌, refl, sym, ap, ◌∙◌}
use mathlib.Core.Logic.{◌⊎◌, inl, inr}
use mathlib.Core.Bool.{Bool, true, false, not, ◌&&◌, true≢false, false≢true}
use mathlib.Core.List.{[], ◌∷◌}
use native.Mathlib.Omega.{arith}
use lib.Dec.{leb, eqb}
use lib.IntN.{ℤ, ◌+ℤ◌}
use lib.ListN.{length, take, length-take}
use borrow.Author.Tests.{eqb-true, leb-true, le-leb}
use Rattle.rules.specs.Words.{is_counted}
use Rattle.rules.specs.History.{History, block_samples, kept_blocks, ready_blocks, ready, held, refilled, with_blocks, open_emptied, saturated, filling, completed, sampled, starts_building, with_last, noted, recorded, backed_up, replaced, with_command, commanded}
use Rattle.rules.specs.Laws.{SoundHistory}
use Rattle.rules.specs.OldHistory.{old_blocks, old_sampled, old_noted, old_recorded, old_commanded}
use Rattle.rules.proofs.Tests.{if_case}
use Rattle.rules.proofs.Blocks.{joined_length, completed_fills, sampled_ready, filled_ready}
use Rattle.rules.proofs.Commands.{Allowed, some_held}

abbrev pub Level : History → History → Type 0
Level o n = (length o.kept ≤ length (filling n)) × (o.open_count ≡ n.open_count)

pub record Behind (o n : History) : Type 0 where
  pub last_is : o.last ≡ n.last
  pub backup_too : held o.backup ≡ true → held n.backup ≡ true
  pub ahead : (ready_blocks ≤ length n.kept) ⊎ Level o n

-- Ready under the old rules, so Ready
pub behind_ready : (o n : History) → Behind o n → SoundHistory n → ready o ≡ true → ready n ≡ true
unfolding ready
behind_ready o n b w e = le-leb ready_blocks (length n.kept) (go b.ahead)
  where
    go : (ready_blocks ≤ length n.kept) ⊎ Level o n → ready_blocks ≤ length n.kept
    go (inl h) = h
    go (inr l) = filled_ready n w.building (omega (arith, l.0, leb-true ready_blocks (length o.kept) e))

-- a selection
behind_noted : (pol sel : ℕ) (o n : History) → Behind o n → Behind (old_noted pol sel o) (noted pol sel n)
unfolding noted old_noted with_last starts_building old_blocks with_blocks filling
behind_noted pol sel o n b =
    go (is_counted sel) (eqb pol 0 && not (eqb sel o.last)) (eqb pol 0 && not (eqb sel n.last))
    (ap (λ (l : ℕ). eqb pol 0 && not (eqb sel l)) b.last_is) b.ahead
  where
    O : Bool → Bool → History
    O r t = if r then with_last sel (if t then old_blocks [] o else o) else o

    N : Bool → Bool → History
    N r t = if r then with_last sel (if t then starts_building n else n) else n

    go : (r t u : Bool) → t ≡ u → (ready_blocks ≤ length n.kept) ⊎ Level o n → Behind (O r t) (N r u)
    go false t u e a = record { last_is = b.last_is; backup_too = b.backup_too; ahead = a }
    go true true false e a = absurd (true≢false e)
    go true false true e a = absurd (false≢true e)
    go true false false e a = record { last_is = refl; backup_too = b.backup_too; ahead = a }
    go true true true e (inl a) = record { last_is = refl; backup_too = b.backup_too; ahead = inl a }
    go true true true e (inr a) = record { last_is = refl; backup_too = b.backup_too; ahead = inr (omega arith, refl) }

-- what leaves the last reference and the backup as they were
abbrev Rests : History → History → Type 0
Rests h g = (g.last ≡ h.last) × (g.backup ≡ h.backup)

behind_rests : (o n p q : History) → Behind o n → Rests o p → Rests n q → (ready_blocks ≤ length q.kept) ⊎ Level p q → Behind p q
behind_rests o n p q b ro rn a =
    record {
      last_is = ro.0 ∙ b.last_is ∙ sym rn.0;
      backup_too = λ e. rw rn.1 (b.backup_too (ap held (sym ro.1) ∙ e));
      ahead = a;
    }

-- a sample: a block is completed under both rules or under neither, unless Ready stands
completed_rests : (sum : ℤ) (h : History) → Rests h (completed sum h) × ((completed sum h).open_count ≡ 0)
unfolding completed with_blocks
completed_rests sum h =
    if_case (λ (g : History). Rests h g × (g.open_count ≡ 0)) (h.builds && not (leb ready_blocks (length (take kept_blocks (sum ∷ filling h)))))
    (λ e. ((refl, refl), refl)) (λ e. ((refl, refl), refl))

behind_sampled : (x : ℤ) (o n : History) → Behind o n → Behind (old_sampled x o) (sampled x n)
unfolding sampled old_sampled old_blocks with_blocks filling
behind_sampled x o n b = behind_rests o n (old_sampled x o) (sampled x n) b old_rests new_rests (go b.ahead)
  where
    y : ℤ
    y = saturated (o.open_sum +ℤ x)

    z : ℤ
    z = saturated (n.open_sum +ℤ x)

    old_rests : Rests o (old_sampled x o)
    old_rests = if_case (Rests o) (leb block_samples (o.open_count + 1)) (λ e. (refl, refl)) (λ e. (refl, refl))

    new_rests : Rests n (sampled x n)
    new_rests = if_case (Rests n) (leb block_samples (n.open_count + 1)) (λ e. (completed_rests z n).0) (λ e. (refl, refl))

    both : (c d : Bool) → c ≡ d → Level o n
        → Level (if c then old_blocks (take kept_blocks (y ∷ o.kept)) o else refilled o.kept false [] y (o.open_count + 1) o)
        (if d then completed z n else refilled n.kept n.builds n.building z (n.open_count + 1) n)
    both true true e l =
        (omega (arith, l.0, length-take kept_blocks (y ∷ o.kept), joined_length z n, ap length (completed_fills z n)), sym (completed_rests z n).1)
    both true false e l = absurd (true≢false e)
    both false true e l = absurd (false≢true e)
    both false false e l = (l.0, ap (λ (m : ℕ). m + 1) l.1)

    go : (ready_blocks ≤ length n.kept) ⊎ Level o n → (ready_blocks ≤ length (sampled x n).kept) ⊎ Level (old_sampled x o) (sampled x n)
    go (inl h) = inl (sampled_ready x n h)
    go (inr l) = inr (both (leb block_samples (o.open_count + 1)) (leb block_samples (n.open_count + 1)) (ap (λ (m : ℕ). leb block_samples (m + 1)) l.1) l)

pub behind_emptied : (o n : History) → Behind o n → Behind (open_emptied o) (open_emptied n)
unfolding open_emptied with_blocks filling
behind_emptied o n b = behind_rests o n (open_emptied o) (open_emptied n) b (refl, refl) (refl, refl) (go b.ahead)
  where
    go : (ready_blocks ≤ length n.kept) ⊎ Level o n → (ready_blocks ≤ length n.kept) ⊎ Level (open_emptied o) (open_emptied n)
    go (inl h) = inl h
    go (inr l) = inr (l.0, refl)

-- step 5
behind_recorded : (pol sel : ℕ) (l k : Bool) (x : ℤ) (o n : History) → l ≡ k → Behind o n → Behind (old_recorded pol sel l x o) (recorded pol sel k x n)
unfolding recorded old_recorded
behind_recorded pol sel true true x o n e b = behind_sampled x (old_noted pol sel o) (noted pol sel n) (behind_noted pol sel o n b)
behind_recorded pol sel true false x o n e b = absurd (true≢false e)
behind_recorded pol sel false true x o n e b = absurd (false≢true e)
behind_recorded pol sel false false x o n e b = behind_emptied (old_noted pol sel o) (noted pol sel n) (behind_noted pol sel o n b)

pub behind_at : (pol pol' sel sel' : ℕ) (l k : Bool) (x : ℤ) (o n : History) → pol ≡ pol' → sel ≡ sel' → l ≡ k → Behind o n
    → Behind (old_recorded pol sel l x o) (recorded pol' sel' k x n)
behind_at pol pol' sel sel' l k x o n ep es el b = rw (ep, es) (behind_recorded pol' sel' l k x o n el b)

-- ---- the commands

module _ (c : ℕ) (o n : History) (b : Behind o n) (ok : Allowed c n) where
  -- both rules carry the command out
  pub behind_both : Behind (old_commanded c o) (commanded c n)
  unfolding commanded old_commanded with_command backed_up replaced old_blocks with_blocks filling
  behind_both = go (eqb c 1) refl (eqb c 2) refl (eqb c 3)
    where
      O : Bool → Bool → Bool → History
      O x y z = with_command c (if x then backed_up o else (if y then old_blocks o.backup o else (if z then old_blocks [] o else o)))

      N : Bool → Bool → Bool → History
      N x y z = with_command c (if x then backed_up n else (if y then replaced n.backup n else (if z then replaced [] n else n)))

      go : (x : Bool) → eqb c 1 ≡ x → (y : Bool) → eqb c 2 ≡ y → (z : Bool) → Behind (O x y z) (N x y z)
      go true e y f z =
          let full = ok.one (eqb-true c 1 e) in
          record { last_is = b.last_is; backup_too = λ h. some_held n.kept full; ahead = inl full }
      go false e true f z = record { last_is = b.last_is; backup_too = b.backup_too; ahead = inl (ok.two (eqb-true c 2 f)) }
      go false e false f true = record { last_is = b.last_is; backup_too = b.backup_too; ahead = inr (omega arith, refl) }
      go false e false f false = record { last_is = b.last_is; backup_too = b.backup_too; ahead = b.ahead }

  -- the new rules alone do: it is 1 or 2
  pub behind_alone : (c ≡ 1) ⊎ (c ≡ 2) → Behind o (commanded c n)
  unfolding commanded with_command backed_up replaced with_blocks
  behind_alone (inl e) =
      let full = ok.one e in
      rw e (record { last_is = b.last_is; backup_too = λ h. some_held n.kept full; ahead = inl full })
  behind_alone (inr e) = rw e (record { last_is = b.last_is; backup_too = b.backup_too; ahead = inl (ok.two e) })
