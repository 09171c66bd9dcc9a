-- A completed block: the history that fills has one more, 43 of them are in use, and Ready stands on.
use Rattle.std.specs.Prelude.{if◌then◌else◌}
use Prim.Native.Nat.{suc, ◌+◌, ◌≤◌, ◌<◌, min}
use mathlib.Core.Path.{◌≡◌, refl, ap}
use mathlib.Core.Bool.{Bool, true, false, not, ◌&&◌, true≢false}
use mathlib.Core.List.{List, [], ◌∷◌}
use native.Mathlib.Omega.{arith}
use lib.Dec.{leb}
use lib.IntN.{ℤ, ◌+ℤ◌}
use lib.ListN.{length, take, length-take}
use borrow.Author.Tests.{leb-true, le-leb, lt-leb}
use Rattle.rules.specs.History.{History, block_samples, kept_blocks, ready_blocks, with_blocks, saturated, filling, completed, sampled}
use Rattle.rules.specs.Laws.{SoundBuilding}
use Rattle.rules.proofs.Tests.{if_case, and_false}

module _ (sum : ℤ) (h : History) where
  -- the blocks of the history that fills, with the new one
  abbrev pub joined : List ℤ
  joined = take kept_blocks (sum ∷ filling h)

  pub joined_length : length joined ≡ min kept_blocks (suc (length (filling h)))
  joined_length = length-take kept_blocks (sum ∷ filling h)

  pub completed_fills : filling (completed sum h) ≡ joined
  unfolding completed filling with_blocks
  completed_fills =
      if_case (λ (g : History). (if g.builds then g.building else g.kept) ≡ joined) (h.builds && not (leb ready_blocks (length joined))) (λ e. refl) (λ e. refl)

  -- 43 of them are in use
  pub completed_replaces : ready_blocks ≤ length joined → (completed sum h).kept ≡ joined
  unfolding completed with_blocks
  completed_replaces l = rw (le-leb ready_blocks (length joined) l, and_false h.builds) refl

  pub completed_ready : ready_blocks ≤ length h.kept → ready_blocks ≤ length (completed sum h).kept
  unfolding completed with_blocks filling
  completed_ready l =
      if_case (λ (g : History). ready_blocks ≤ length g.kept) (h.builds && not (leb ready_blocks (length joined))) (λ e. l)
      (λ e. new h.builds refl (leb ready_blocks (length joined)) refl e)
    where
      new : (b : Bool) → h.builds ≡ b → (c : Bool) → leb ready_blocks (length joined) ≡ c → (b && not c) ≡ false → ready_blocks ≤ length joined
      new true e true t u = leb-true ready_blocks (length joined) t
      new true e false t u = absurd (true≢false u)
      new false e c t u = omega (arith, joined_length, ap (λ (b : Bool). length (if b then h.building else h.kept)) e)

-- a completed block, where nothing builds; where a history builds; and where it then has 43
pub completed_idle : (sum : ℤ) (h : History) → h.builds ≡ false → completed sum h ≡ with_blocks (take kept_blocks (sum ∷ h.kept)) false [] h
unfolding completed filling
completed_idle sum h e = rw e refl

pub completed_more : (sum : ℤ) (h : History) → h.builds ≡ true → length (take kept_blocks (sum ∷ h.building)) < ready_blocks
    → completed sum h ≡ with_blocks h.kept true (take kept_blocks (sum ∷ h.building)) h
unfolding completed filling
completed_more sum h e l = rw (e, lt-leb ready_blocks (length (take kept_blocks (sum ∷ h.building))) l) refl

pub completed_full : (sum : ℤ) (h : History) → h.builds ≡ true → ready_blocks ≤ length (take kept_blocks (sum ∷ h.building))
    → completed sum h ≡ with_blocks (take kept_blocks (sum ∷ h.building)) false [] h
unfolding completed filling
completed_full sum h e l = rw (e, le-leb ready_blocks (length (take kept_blocks (sum ∷ h.building))) l) refl

-- a sample
pub sampled_ready : (x : ℤ) (h : History) → ready_blocks ≤ length h.kept → ready_blocks ≤ length (sampled x h).kept
unfolding sampled
sampled_ready x h l =
    if_case (λ (g : History). ready_blocks ≤ length g.kept) (leb block_samples (h.open_count + 1))
    (λ e. completed_ready (saturated (h.open_sum +ℤ x)) h l) (λ e. l)

-- where the history that fills has 43 blocks, those in use are 43
pub filled_ready : (h : History) → SoundBuilding h.builds h.building → ready_blocks ≤ length (filling h) → ready_blocks ≤ length h.kept
unfolding filling
filled_ready h w l = go h.builds l
  where
    go : (b : Bool) → ready_blocks ≤ length (if b then h.building else h.kept) → ready_blocks ≤ length h.kept
    go true m = omega (arith, w.few)
    go false m = m
