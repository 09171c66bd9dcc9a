-- Once Ready stands, it ends only by command 3.
use Rattle.std.specs.Prelude.{if◌then◌else◌}
use Prim.Native.Nat.{ℕ, ◌≤◌}
use mathlib.Core.Path.{◌≡◌, refl, sym, ap, ◌∙◌}
use mathlib.Core.Logic.{◌⊎◌, inl, inr}
use mathlib.Core.Bool.{Bool, true, false, not, ◌&&◌}
use mathlib.Core.List.{[], ◌∷◌, ◌++◌}
use lib.Dec.{eqb}
use lib.IntN.{ℤ}
use lib.ListN.{length}
use borrow.Author.Tests.{eqb-true, leb-true, le-leb}
use Rattle.rules.specs.Words.{is_counted}
use Rattle.rules.specs.Events.{Event, tick, measurement, hit, write, set_bucket, assign_bucket, set_week, set_windows}
use Rattle.rules.specs.History.{History, ready_blocks, ready, with_blocks, open_emptied, starts_building, with_last, noted, recorded, backed_up, replaced, with_command, commanded}
use Rattle.rules.specs.State.{State, Ready, with_settings, with_history}
use Rattle.rules.specs.Tick.{steps1to4, step5, ticked}
use Rattle.rules.specs.Registers.{written}
use Rattle.rules.specs.Refusals.{accepted}
use Rattle.rules.specs.Run.{after_measurement, after_hit, after_write, after_set, after_assign, effect, next, run}
use Rattle.rules.specs.Laws.{SoundHistory}
use Rattle.rules.specs.Comparison.{EndsByCommand3}
use Rattle.rules.proofs.Tests.{if_case, clash}
use Rattle.rules.proofs.Blocks.{sampled_ready}
use Rattle.rules.proofs.Invariants.{invariants}
use Rattle.rules.proofs.Service.{run_append}
use Rattle.rules.proofs.Commands.{Allowed, allowed}

-- step 5 leaves it standing
recorded_ready : (pol sel : ℕ) (l : Bool) (x : ℤ) (h : History) → ready_blocks ≤ length h.kept → ready_blocks ≤ length (recorded pol sel l x h).kept
unfolding recorded open_emptied with_blocks noted with_last starts_building
recorded_ready pol sel l x h k =
    if_case Kept l (λ e. sampled_ready x (noted pol sel h) now) (λ e. now)
  where
    Kept : History → Type 0
    Kept g = ready_blocks ≤ length g.kept

    now : Kept (noted pol sel h)
    now = if_case Kept (is_counted sel) (λ e. if_case (λ (g : History). Kept (with_last sel g)) (eqb pol 0 && not (eqb sel h.last)) (λ t. k) (λ t. k)) (λ e. k)

-- an accepted command but 3 does
commanded_ready : (c : ℕ) (h : History) → Allowed c h → ready_blocks ≤ length h.kept → (ready_blocks ≤ length (commanded c h).kept) ⊎ (c ≡ 3)
unfolding commanded with_command backed_up replaced with_blocks
commanded_ready c h ok k =
    if_case Or (eqb c 1) (λ e. inl k)
    (λ e. if_case Or (eqb c 2) (λ t. inl (ok.two (eqb-true c 2 t))) (λ t. if_case Or (eqb c 3) (λ u. inr (eqb-true c 3 u)) (λ u. inl k)))
  where
    Or : History → Type 0
    Or g = (ready_blocks ≤ length g.kept) ⊎ (c ≡ 3)

Stands : State → Event → Type 0
Stands s e = (ready_blocks ≤ length (next s e).history.kept) ⊎ ((e ≡ write 0x26 3) × (accepted s e ≡ true))

stands : (s : State) (e : Event) → SoundHistory s.history → ready_blocks ≤ length s.history.kept → Stands s e
unfolding Stands next effect ticked step5 steps1to4 after_measurement after_hit after_write after_set after_assign open_emptied with_blocks
stands s (tick t) w k =
    inl (if_case (λ (z : State). ready_blocks ≤ length z.history.kept) (accepted s (tick t)) (λ e. recorded_ready _ _ _ t.sample s.history k) (λ e. k))
stands s (measurement i x) w k = inl (if_case (λ (z : State). ready_blocks ≤ length z.history.kept) (accepted s (measurement i x)) (λ e. k) (λ e. k))
stands s hit w k = inl (if_case (λ (z : State). ready_blocks ≤ length z.history.kept) (accepted s hit) (λ e. k) (λ e. k))
stands s (set_bucket n size set_level clear_level d) w k =
    inl (if_case (λ (z : State). ready_blocks ≤ length z.history.kept) (accepted s (set_bucket n size set_level clear_level d)) (λ e. k) (λ e. k))
stands s (assign_bucket i n) w k = inl (if_case (λ (z : State). ready_blocks ≤ length z.history.kept) (accepted s (assign_bucket i n)) (λ e. k) (λ e. k))
stands s (set_week place) w k = inl (if_case (λ (z : State). ready_blocks ≤ length z.history.kept) (accepted s (set_week place)) (λ e. k) (λ e. k))
stands s (set_windows windows) w k = inl (if_case (λ (z : State). ready_blocks ≤ length z.history.kept) (accepted s (set_windows windows)) (λ e. k) (λ e. k))
stands s (write a v) w k = if_case Or (accepted s (write a v)) (λ e. yes e (eqb a 0x26) refl) (λ e. inl k)
  where
    Or : State → Type 0
    Or z = (ready_blocks ≤ length z.history.kept) ⊎ ((write a v ≡ write 0x26 3) × (accepted s (write a v) ≡ true))

    yes : accepted s (write a v) ≡ true → (b : Bool) → eqb a 0x26 ≡ b
        → (ready_blocks ≤ length (if b then with_history (commanded v s.history) s else with_settings (written a v s.settings) s).history.kept) ⊎ ((write a v ≡ write 0x26 3) × (accepted s (write a v) ≡ true))
    yes e false is = inl k
    yes e true is = three (commanded_ready v s.history (allowed s a v w e is) k)
      where
        three : (ready_blocks ≤ length (commanded v s.history).kept) ⊎ (v ≡ 3)
            → (ready_blocks ≤ length (commanded v s.history).kept) ⊎ ((write a v ≡ write 0x26 3) × (accepted s (write a v) ≡ true))
        three (inl l) = inl l
        three (inr z) = inr (rw (eqb-true a 0x26 is, z) refl, e)

-- IT ENDS ONLY WITH AN ACCEPTED WRITE OF 3 TO 0x26
pub ends_by_command_3 : EndsByCommand3
unfolding run ready Stands
ends_by_command_3 start f es e before after = go (stands s e (invariants start f es).history (leb-true ready_blocks (length s.history.kept) before))
  where
    s : State
    s = run start es

    is : run start (es ++ e ∷ []) ≡ next s e
    is = run_append es (e ∷ []) start

    go : Stands s e → (e ≡ write 0x26 3) × (accepted s e ≡ true)
    go (inl l) = clash (le-leb ready_blocks (length (next s e).history.kept) l) (ap Ready (sym is) ∙ after)
    go (inr z) = z
