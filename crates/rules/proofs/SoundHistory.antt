-- The history stays sound: over a sample, a selection and a command.
use Rattle.std.specs.Prelude.{if◌then◌else◌}
use Prim.Native.Nat.{ℕ, zero, suc, ◌+◌, ◌*◌, ◌≤◌, ◌<◌}
use mathlib.Core.Path.{◌≡◌, refl, ◌∙◌}
use mathlib.Core.Logic.{◌⊎◌, inr}
use mathlib.Core.Bool.{Bool, true, false, not, ◌&&◌}
use mathlib.Core.List.{List, [], ◌∷◌}
use native.Mathlib.Omega.{arith}
use lib.Dec.{leb, eqb}
use lib.IntN.{ℤ, pos, nat_abs, ◌+ℤ◌}
use lib.ListN.{length, take, length-take}
use borrow.Author.Tests.{eqb-true, leb-true, leb-false}
use Rattle.rules.specs.Events.{sample_limit}
use Rattle.rules.specs.Words.{is_counted}
use Rattle.rules.specs.History.{History, block_samples, kept_blocks, ready_blocks, sum_limit, ready, refilled, annotated, with_blocks, open_emptied, saturated, filling, completed, sampled, starts_building, with_last, noted, recorded, backed_up, replaced, with_command, commanded}
use Rattle.rules.specs.Laws.{Within, SoundBlocks, SoundBuilding, SoundHistory}
use Rattle.rules.proofs.Tests.{if_case, clash, and_right, not-true}
use Rattle.rules.proofs.Integers.{natAbs-+, saturated_within}

within_take : (n : ℕ) (l : List ℤ) → Within l → Within (take n l)
within_take zero l w = tt
within_take (suc n) [] w = tt
within_take (suc n) (x ∷ l) w = (w.0, within_take n l w.1)

pub no_blocks : SoundBlocks []
no_blocks = record { count_le = omega arith; within = tt }

pub none_building : (b : Bool) → SoundBuilding b []
none_building b = record { few = omega arith; within = tt; idle = λ e. refl }

-- other blocks, and another open block
module _ (kept : List ℤ) (b : Bool) (building : List ℤ) (h : History) (k : SoundBlocks kept) (l : SoundBuilding b building) (w : SoundHistory h) where
  sound_refilled : (sum : ℤ) (count : ℕ) → count < block_samples → nat_abs sum ≤ sample_limit * count → SoundHistory (refilled kept b building sum count h)
  sound_refilled sum count few small =
      record {
        kept = k;
        building = l;
        open_lt = few;
        open_within = small;
        command_le = w.command_le;
        backup = w.backup;
        backup_full = w.backup_full;
      }

  sound_blocks : SoundHistory (with_blocks kept b building h)
  unfolding with_blocks
  sound_blocks = sound_refilled (pos 0) 0 (omega arith) (omega arith)

-- another last reference, command and backup
sound_annotated : (last c : ℕ) (backup : List ℤ) (h : History) → c ≤ 3 → SoundBlocks backup → (backup ≡ []) ⊎ (ready_blocks ≤ length backup) → SoundHistory h
    → SoundHistory (annotated last c backup h)
sound_annotated last c backup h small b full w =
    record {
      kept = w.kept;
      building = w.building;
      open_lt = w.open_lt;
      open_within = w.open_within;
      command_le = small;
      backup = b;
      backup_full = full;
    }

pub sound_emptied : (h : History) → SoundHistory h → SoundHistory (open_emptied h)
unfolding open_emptied
sound_emptied h w = sound_blocks h.kept h.builds h.building h w.kept w.building w

-- ---- a sample

-- it leaves the open sum within what its samples can have
open_sum_bounded : (x : ℤ) (h : History) → nat_abs x ≤ sample_limit → SoundHistory h → nat_abs (h.open_sum +ℤ x) ≤ sample_limit * (h.open_count + 1)
open_sum_bounded x h small w = omega (arith, natAbs-+ h.open_sum x, w.open_within)

pub sum_kept : (x : ℤ) (h : History) → nat_abs x ≤ sample_limit → SoundHistory h → saturated (h.open_sum +ℤ x) ≡ h.open_sum +ℤ x
sum_kept x h small w = saturated_within (h.open_sum +ℤ x) (omega (arith, open_sum_bounded x h small w, w.open_lt))

sound_completed : (sum : ℤ) (h : History) → nat_abs sum ≤ sum_limit → SoundHistory h → SoundHistory (completed sum h)
unfolding completed filling
sound_completed sum h small w =
    if_case SoundHistory (h.builds && not (leb ready_blocks (length blocks)))
    (λ e. sound_blocks h.kept true blocks h w.kept (more (not-true (leb ready_blocks (length blocks)) (and_right h.builds _ e))) w)
    (λ e. sound_blocks blocks false [] h sound (none_building false) w)
  where
    blocks : List ℤ
    blocks = take kept_blocks (sum ∷ (if h.builds then h.building else h.kept))

    filled : Within (if h.builds then h.building else h.kept)
    filled = if_case Within h.builds (λ e. w.building.within) (λ e. w.kept.within)

    sound : SoundBlocks blocks
    sound =
        record {
          count_le = omega (arith, length-take kept_blocks (sum ∷ (if h.builds then h.building else h.kept)));
          within = within_take kept_blocks (sum ∷ (if h.builds then h.building else h.kept)) (small, filled);
        }

    more : leb ready_blocks (length blocks) ≡ false → SoundBuilding true blocks
    more e = record { few = leb-false ready_blocks (length blocks) e; within = sound.within; idle = λ t. clash refl t }

sound_sampled : (x : ℤ) (h : History) → nat_abs x ≤ sample_limit → SoundHistory h → SoundHistory (sampled x h)
unfolding sampled
sound_sampled x h small w =
    rw (sum_kept x h small w)
    (if_case SoundHistory (leb block_samples (h.open_count + 1))
    (λ e. sound_completed (h.open_sum +ℤ x) h (omega (arith, open_sum_bounded x h small w, w.open_lt)) w)
    (λ e. sound_refilled h.kept h.builds h.building h w.kept w.building w (h.open_sum +ℤ x) (h.open_count + 1)
    (leb-false block_samples (h.open_count + 1) e) (open_sum_bounded x h small w)))

-- ---- a selection

sound_noted : (pol sel : ℕ) (h : History) → SoundHistory h → SoundHistory (noted pol sel h)
unfolding noted with_last starts_building
sound_noted pol sel h w =
    if_case SoundHistory (is_counted sel) (λ e. last _ (if_case SoundHistory (eqb pol 0 && not (eqb sel h.last)) (λ t. starts) (λ t. w))) (λ e. w)
  where
    starts : SoundHistory (with_blocks h.kept true [] h)
    starts = sound_blocks h.kept true [] h w.kept (none_building true) w

    last : (g : History) → SoundHistory g → SoundHistory (annotated sel g.command g.backup g)
    last g v = sound_annotated sel g.command g.backup g v.command_le v.backup v.backup_full v

pub sound_recorded : (pol sel : ℕ) (ends : Bool) (x : ℤ) (h : History) → nat_abs x ≤ sample_limit → SoundHistory h → SoundHistory (recorded pol sel ends x h)
unfolding recorded
sound_recorded pol sel ends x h small w =
    if_case SoundHistory ends (λ e. sound_sampled x (noted pol sel h) small (sound_noted pol sel h w)) (λ e. sound_emptied (noted pol sel h) (sound_noted pol sel h w))

-- ---- a command

pub sound_commanded : (c : ℕ) (h : History) → c ≤ 3 → (c ≡ 1 → ready h ≡ true) → SoundHistory h → SoundHistory (commanded c h)
unfolding commanded with_command backed_up replaced ready
sound_commanded c h l r w =
    command _
    (if_case SoundHistory (eqb c 1)
    (λ e. sound_annotated h.last h.command h.kept h w.command_le w.kept (inr (leb-true ready_blocks (length h.kept) (r (eqb-true c 1 e)))) w)
    (λ e. if_case SoundHistory (eqb c 2) (λ t. other h.backup w.backup) (λ t. if_case SoundHistory (eqb c 3) (λ u. other [] no_blocks) (λ u. w))))
  where
    other : (blocks : List ℤ) → SoundBlocks blocks → SoundHistory (with_blocks blocks h.builds [] h)
    other blocks b = sound_blocks blocks h.builds [] h b (none_building h.builds) w

    command : (g : History) → SoundHistory g → SoundHistory (annotated g.last c g.backup g)
    command g v = sound_annotated g.last c g.backup g l v.backup v.backup_full v

-- ---- the reference that the history counts as selected last

last_noted : (pol sel : ℕ) (h : History) → is_counted sel ≡ true → (noted pol sel h).last ≡ sel
unfolding noted with_last
last_noted pol sel h e = rw e refl

last_completed : (sum : ℤ) (h : History) → (completed sum h).last ≡ h.last
unfolding completed with_blocks
last_completed sum h =
    if_case (λ (g : History). g.last ≡ h.last) (h.builds && not (leb ready_blocks (length (take kept_blocks (sum ∷ filling h))))) (λ e. refl) (λ e. refl)

pub last_recorded : (pol sel : ℕ) (ends : Bool) (x : ℤ) (h : History) → is_counted sel ≡ true → (recorded pol sel ends x h).last ≡ sel
unfolding recorded open_emptied sampled with_blocks
last_recorded pol sel ends x h e =
    if_case (λ (g : History). g.last ≡ sel) ends
    (λ t. if_case (λ (g : History). g.last ≡ sel) (leb block_samples ((noted pol sel h).open_count + 1))
    (λ u. last_completed _ (noted pol sel h) ∙ last_noted pol sel h e) (λ u. last_noted pol sel h e))
    (λ t. last_noted pol sel h e)

pub last_commanded : (c : ℕ) (h : History) → (commanded c h).last ≡ h.last
unfolding commanded with_command backed_up replaced with_blocks
last_commanded c h =
    if_case Same (eqb c 1) (λ e. refl) (λ e. if_case Same (eqb c 2) (λ t. refl) (λ t. if_case Same (eqb c 3) (λ u. refl) (λ u. refl)))
  where
    Same : History → Type 0
    Same g = g.last ≡ h.last
