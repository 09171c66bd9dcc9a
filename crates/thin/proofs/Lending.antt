-- The call that a function makes which is lent a unit: arrays of the unit, those that are marked, are lent on where they lie, and come back at their last lists.
use mathlib.Core.Path.{◌≡◌, refl}
use Prim.Native.Nat.{ℕ, zero, suc, ◌+◌}
use mathlib.Core.List.{[], ◌∷◌, List}
use lib.ListN.{get_or}
use seplogic.Ra.Ura.{Ura}
use base.Fraction.{full_share}
use mir.Syntax.{Ty, Place, Opd as Operand, Body as Code, seq, call, Callee}
use mir.Val.{Val, vptr}
use base.Fml.{Share, fat}
use prog.Wp.{Env, Calls, Loops, no_local}
use types.Logic.{Logic}
use contract.Lifetimes.{Lfts, Shares, toks}
use types.Kit.{Item, Seq, Post as Aim, runs, lands, ‵, raw, ◌⊛◌, ◌$◌, move, use1, split, join}
use types.Run.{Opds, Reads, Writes}
use types.Part.{whole, sub, look_in, store_in}
use sound.WpLaws.{FmC}
use denote.RattleType.{RattleType, Denots}
use denote.Laws.{Typed, Is}
use denote.Struct.Laws as LL
use denote.Triple.Statement.{Triple}
use Rattle.lend.proofs.Row.{Blocks, copies, Stand, cells as row-cells, rooms, read_row}
use Rattle.lend.proofs.Params.{Param, lifetimes, values, tys, Picks, Types, data_of, Owned, Had}
use Rattle.lend.proofs.Loan.{Stretch}
use Rattle.lend.proofs.Loans.{Loan, Lists, AllFit, Offsets, Changes, after, pointers, cells, ref_tys}
use Rattle.lend.proofs.Fields.{Places, arrays, places, paths, all_cells, others, apart, joined, leads}
use Rattle.lend.proofs.Chosen.{Mark, loans, chosen, changed, offsets, steps, staying, lent_apart, all_again, AllSound, sound_chosen, sound_changed, takes, take_row, led, ref_copies, read_refs}
use Rattle.lend.proofs.Copied.{Small, Values, copied, Are}
use Rattle.lend.proofs.Callee as callee
use Rattle.state.specs.declared.Unit.{Unit as State}
use Rattle.state.specs.declared.Core.{Core}
use Rattle.state.specs.contracts.Core as CO
use Rattle.state.proofs.Core.TheLaws as CO'
use Rattle.state.specs.contracts.Unit as T
use Rattle.state.proofs.Unit.TheLaws as T'
use Rattle.thin.proofs.Exported.{its}
use Rattle.thin.proofs.Lent.{lies, Arrays, arrays_of, make, val_t, val_c, kept_of, sound_of}

-- the core, as it is passed
abbrev pub core : Small
core = record { row = CO.the_row; val = val_c; plain = λ 𝓛. LL.makes CO.the_type CO'.the_plain 𝓛 }

-- the unit's arrays, and where they lie in it
abbrev pub all_arrays : List Stretch
all_arrays = arrays lies []

abbrev pub at_all : ℕ → Places all_arrays
at_all o = places lies [] zero o tt

module _ (ms : List Mark) where
  abbrev pub fs : List Loan
  fs = loans all_arrays ms

  abbrev pub at : ℕ → Offsets fs
  at o = offsets all_arrays ms (at_all o)

  -- what comes of the lists that are lent, of all of the unit's lists, and of the unit
  abbrev pub lists_after : State → Changes fs → Lists fs
  lists_after h zs = after fs (chosen all_arrays ms (arrays_of h)) zs

  abbrev pub arrays_after : State → Changes fs → Arrays
  arrays_after h zs = changed all_arrays ms (arrays_of h) (lists_after h zs)

  abbrev pub with : State → Core → Changes fs → State
  with h c zs = make c (arrays_after h zs)

-- ---- the core in the unit's cell: read, and stored anew
module _ {M : Type 1} {𝓤 : Ura M} {𝓛 : Logic 𝓤} {K : Type 0} {Γ : List (Item 𝓤)} where
  pub core_read : K → (q : Share) (c : Core) (ls : Arrays) (b o : ℕ) → Reads K 𝓛 (‵ (fat q T'.mir b o (val_t (make c ls))) ∷ Γ) CO'.mir b (o + 0) (val_c c)
  core_read t q c ls b o = look_in t 0 (sub t 0 refl (whole t))

  pub core_stored : K → (c c' : Core) (ls : Arrays) (b o : ℕ) → Is CO.the_row c' (val_c c' ∷ [])
      → Writes K 𝓛 (‵ (fat full_share T'.mir b o (val_t (make c ls))) ∷ Γ) CO'.mir b (o + 0) (val_c c') (‵ (fat full_share T'.mir b o (val_t (make c' ls))) ∷ Γ)
  core_stored t c c' ls b o g = store_in t 0 (sub t 0 refl (whole t)) ((LL.lawful CO.the_type CO'.the_laws 𝓛).typed c' _ g).0

-- ---- the call: the unit's arrays are lent where they lie, and come back
module _ (ms : List Mark) (cs : List Small) (ps : List Param) (R : RattleType) {M : Type 1} {𝓤 : Ura M} (φ : callee.Clause cs (fs ms) ps R) (𝓛 : Logic 𝓤)
    (n₀ : ℕ) (κs₀ : Lfts n₀) (j₀ : ℕ) (pick₀ : Picks n₀ ps) (qs : Shares (lifetimes ps)) (a : Denots (Types n₀ κs₀ ps j₀ pick₀)) (b o : ℕ) (xs : Values cs) where
  open 𝓛 use {H}

  module _ {K : Type 0} {Γ : List (Item 𝓤)} {E : Env 𝓤 H} {C : Calls 𝓤 H} {Λ : Loops 𝓤 H} {aim : Aim 𝓤 H} {f : Callee} {os : List Operand} {d : Place} {rest : Code} where
    pub unit_calls : K → FmC 𝓤 H 𝓛.laws C → Triple 𝓤 (C f) (callee.Known cs (fs ms) ps R 𝓤 φ 𝓛) → (q : Share) → AllFit q (fs ms) → Are cs xs
        → (h : State) → Is T.the_row h (val_t h ∷ [])
        → ((i₁ i₂ i₃ i₄ i₅ : Item 𝓤) → Opds K 𝓛 (i₁ ∷ i₂ ∷ i₃ ∷ i₄ ∷ i₅ ∷ Γ) E os (copied cs xs (pointers (fs ms) b (at ms o) (values ps (data_of n₀ κs₀ ps j₀ pick₀ a)))))
        → ((v : Val) (r : R.Denot) (zs : Changes (fs ms)) → φ xs (chosen all_arrays ms (arrays_of h)) (data_of n₀ κs₀ ps j₀ pick₀ a) r (lists_after ms h zs) → Is R r (v ∷ [])
        → AllSound all_arrays (arrays_after ms h zs)
        → Seq K 𝓛 (‵ (R.own_val r (v ∷ [])) ∷ ‵ (fat q T'.mir b o (val_t (with ms h h.core zs))) ∷ raw (toks 𝓛 (lifetimes ps) (pick₀ κs₀) qs)
        ∷ ‵ (Had n₀ κs₀ ps j₀ pick₀ a) ∷ Γ) (lands C Λ E d v rest aim))
        → Seq K 𝓛 (‵ (fat q T'.mir b o (val_t h)) ∷ raw (toks 𝓛 (lifetimes ps) (pick₀ κs₀) qs) ∷ ‵ (Owned n₀ κs₀ ps j₀ pick₀ a) ∷ Γ)
        (runs C Λ E (seq (call f os d) rest) aim)
    unit_calls t fm met q fit are h g operands next =
        use1 𝓛 (all_cells 𝓛 q b all_arrays (at_all o) (arrays_of h) ⊛ others 𝓛 q b (T.the_type).name lies o (kept_of h.core))
        (apart 𝓛 q b (T.the_type).name lies o (kept_of h.core) (arrays_of h)) $ split t $
        use1 𝓛 (cells q (fs ms) b (at ms o) (chosen all_arrays ms (arrays_of h)) ⊛ staying 𝓛 q b all_arrays ms (at_all o) (arrays_of h))
        (lent_apart 𝓛 q b all_arrays ms (at_all o) (arrays_of h)) $ split t $ move t (0 ∷ 3 ∷ 4 ∷ []) $
        callee.calls_lending cs (fs ms) ps R 𝓤 φ 𝓛 n₀ κs₀ j₀ pick₀ qs a b (at ms o) xs (chosen all_arrays ms (arrays_of h)) t fm met q fit are
        (sound_chosen all_arrays ms (arrays_of h) (sound_of h g)) (λ i j k. operands i j k _ _) (λ v r zs e is gs.
        -- [the result; the cells that were lent; the tokens; what is had; those that stayed; what is beside the arrays]
        move t (1 ∷ 4 ∷ []) $ join t $
        use1 𝓛 (all_cells 𝓛 q b all_arrays (at_all o) (arrays_after ms h zs)) (all_again 𝓛 q b all_arrays ms (at_all o) (arrays_of h) (lists_after ms h zs)) $
        move t (0 ∷ 4 ∷ []) $ join t $
        use1 𝓛 (‵ (fat q T'.mir b o (val_t (with ms h h.core zs))))
        (joined 𝓛 q b (T.the_type).name lies o (kept_of h.core) (arrays_after ms h zs)) $ move t (1 ∷ []) $
        next v r zs e is (sound_changed all_arrays ms (arrays_of h) (lists_after ms h zs) (sound_of h g) gs))

-- with the code that takes the addresses before it: the other parameters lie in a row of locals from the second on, the references from the n-th on
module _ (ms : List Mark) (cs : List Small) (ps : List Param) (R : RattleType) {M : Type 1} {𝓤 : Ura M} (φ : callee.Clause cs (fs ms) ps R) (𝓛 : Logic 𝓤)
    (κs : Lfts (suc (lifetimes ps))) (qs : Shares (lifetimes ps)) (a : Denots (Types (suc (lifetimes ps)) κs ps 1 (its ps))) (typed : Typed (tys ps 1) (values ps (data_of (suc (lifetimes ps)) κs ps 1 (its ps) a)))
    (b o : ℕ) (xs : Values cs) where
  open 𝓛 use {H}

  abbrev τs : List Ty
  τs = tys ps 1

  abbrev vs : List Val
  vs = values ps (data_of (suc (lifetimes ps)) κs ps 1 (its ps) a)

  abbrev ρs : List Ty
  ρs = ref_tys (fs ms)

  abbrev us : List Val
  us = pointers (fs ms) b (at ms o) []

  abbrev tokens : Item 𝓤
  tokens = raw (toks 𝓛 (lifetimes ps) κs.1 qs)

  module _ {K : Type 0} {Γ : List (Item 𝓤)} {E : Env 𝓤 H} {C : Calls 𝓤 H} {Λ : Loops 𝓤 H} {aim : Aim 𝓤 H} {f : Callee} {d : Place} {rest : Code} where
    pub lends_on : K → FmC 𝓤 H 𝓛.laws C → Triple 𝓤 (C f) (callee.Known cs (fs ms) ps R 𝓤 φ 𝓛) → (q : Share) → AllFit q (fs ms) → Are cs xs
        → (h : State) → Is T.the_row h (val_t h ∷ [])
        → (ρ : Ty) (l : ℕ) → get_or E 1 (no_local 𝓤 H) ≡ (ρ, l) → (bs : Blocks τs) → Stand E (no_local 𝓤 H) 2 τs bs → (n : ℕ) (ds : Blocks ρs) → Stand E (no_local 𝓤 H) n ρs ds
        → (small : List Operand → List Operand)
        → ((i₁ i₂ i₃ i₄ i₅ i₆ i₇ i₈ : Item 𝓤) (os : List Operand) (ws : List Val) → Opds K 𝓛 (i₁ ∷ i₂ ∷ i₃ ∷ i₄ ∷ i₅ ∷ i₆ ∷ i₇ ∷ i₈ ∷ Γ) E os ws
        → Opds K 𝓛 (i₁ ∷ i₂ ∷ i₃ ∷ i₄ ∷ i₅ ∷ i₆ ∷ i₇ ∷ i₈ ∷ Γ) E (small os) (copied cs xs ws))
        → ((v : Val) (r : R.Denot) (zs : Changes (fs ms)) → φ xs (chosen all_arrays ms (arrays_of h)) (data_of (suc (lifetimes ps)) κs ps 1 (its ps) a) r (lists_after ms h zs) → Is R r (v ∷ [])
        → AllSound all_arrays (arrays_after ms h zs)
        → Seq K 𝓛 (‵ (R.own_val r (v ∷ [])) ∷ ‵ (fat q T'.mir b o (val_t (with ms h h.core zs))) ∷ tokens ∷ ‵ (Had (suc (lifetimes ps)) κs ps 1 (its ps) a)
        ∷ row-cells ρs us ds ∷ ‵ (fat full_share ρ l zero (vptr b o)) ∷ row-cells τs vs bs ∷ Γ) (lands C Λ E d v rest aim))
        → Seq K 𝓛 (‵ (fat q T'.mir b o (val_t h)) ∷ tokens ∷ ‵ (Owned (suc (lifetimes ps)) κs ps 1 (its ps) a)
        ∷ rooms ρs ds ∷ ‵ (fat full_share ρ l zero (vptr b o)) ∷ row-cells τs vs bs ∷ Γ)
        (runs C Λ E (takes (fs ms) (steps all_arrays ms (paths lies [] (λ st. st) zero tt)) T'.mir n (seq (call f (small (ref_copies (fs ms) n (copies 2 τs))) d) rest)) aim)
    lends_on t fm met q fit are h g ρ l one bs row n ds refs small operands next =
        move t (3 ∷ 4 ∷ []) $ take_row t (fs ms) (steps all_arrays ms (paths lies [] (λ st. st) zero tt)) T'.mir ρ l b o one (at ms o) ds n refs
        (λ Γ. led K 𝓛 Γ E (T'.mir, b, o) b all_arrays ms (paths lies [] (λ st. st) zero tt) (at_all o) (leads K 𝓛 Γ E t (T.the_type).name lies b o)) $
        move t (2 ∷ 3 ∷ 4 ∷ []) $ unit_calls ms cs ps R φ 𝓛 (suc (lifetimes ps)) κs 1 (its ps) qs a b o xs t fm met q fit are h g
        (λ i₁ i₂ i₃ i₄ i₅. operands i₁ i₂ i₃ i₄ i₅ _ _ _ (ref_copies (fs ms) n (copies 2 τs)) _ (read_refs t (fs ms) b (at ms o) ds n refs (λ τ l' v back p. look_in t 5 p)
        (read_row t τs vs bs 2 typed row (λ τ l' v back p. look_in t 7 p)))) next
