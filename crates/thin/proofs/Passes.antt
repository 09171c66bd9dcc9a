-- A function over a lent unit that stores nothing itself: a walk of its MIR, by hand. The borrow is opened, the arrays that are marked are lent to another function
-- where they lie, and come back; its number is returned; and the borrow is closed at the new unit.
-- All that the proof knows of the callee is that it meets its contract.
use mathlib.Core.Path.{◌≡◌, refl}
use Prim.Native.Nat.{ℕ, zero, suc}
use mathlib.Core.List.{[], ◌∷◌, List}
use seplogic.Ra.Ura.{Ura}
use base.Fraction.{full_share}
use mir.Syntax.{Ty, ty_int, w8, place, seq, call, return, local, value_local, Fn, Callee}
use mir.Val.{Val, vptr}
use base.Logic.{ent}
use base.Fml.{fat, flft, fobs, fbor, froom, fdies}
use prog.Model.{Model}
use prog.Routine.{Routine, Env as Binds}
use prog.Wp.{Env, Calls, Loops, Closed, no_local}
use types.Logic.{Logic}
use contract.Lifetimes.{Lfts, Shares, toks}
use contract.Running.{Running, tables}
use types.Kit.{Sq, runs, at_ret, ‵, raw, ⋆, ◌$◌, ◌∵◌, !, qed, by, move, drop, use1, fsplit3}
use types.Run.{look, init, forget, stop, from, land, returns, enter, alloc1, alloc0, params1, pass1, free1, free0}
use types.SemTy.{Body}
use sound.WpLaws.{FmC}
use denote.Laws.{Typed, Is}
use denote.Memory.{mem, cell_at}
use denote.Plain.{uint_Lawful}
use denote.Builtin.{u8}
use denote.Steps.{opens, closes, owned}
use denote.Struct.Laws as LL
use denote.Triple.Statement.{Triple}
use denote.Triple.Entry.{Args}
use Rattle.lend.proofs.Row.{Blocks, declared, placed, after, copies, Stand, shift, stands, stand_after, cells as row-cells, rooms, alloc_row, pass_row, free_row}
use Rattle.lend.proofs.Params.{Param, lifetimes, Data, values, tys, Owned}
use Rattle.lend.proofs.Loans.{all_of_the_whole, Changes, pointers, ref_tys}
use Rattle.lend.proofs.Fields.{paths}
use Rattle.lend.proofs.Chosen.{Mark, chosen, steps, takes, pointers_typed, ref_copies}
use Rattle.lend.proofs.Callee as callee
use Rattle.state.specs.declared.Unit.{Unit as State}
use Rattle.state.specs.contracts.Unit as T
use Rattle.state.proofs.Unit.TheLaws as T'
use Rattle.thin.proofs.Thin.{unit_spelt}
use Rattle.thin.proofs.Exported.{its, reference, lent, Clause, Shown, x, Post, begun, ends, Runs, exported}
use Rattle.thin.proofs.Lending.{all_arrays, fs, at, lists_after, arrays_after, with, lends_on}
use Rattle.thin.proofs.Lent.{lies, arrays_of, val_t, core_of, made}

module _ (ms : List Mark) (τs : List Ty) where
  abbrev the_refs : ℕ
  the_refs = suc (suc (after τs 0))

  abbrev pub passed_on : ℕ → Callee → Fn
  passed_on lifetimes f = record {
    lifetimes = lifetimes;
    outlives = [];
    ty_params = [];
    givens = 0;
    params = suc (after τs 0);
    locals = local (ty_int w8) value_local ∷ local reference value_local ∷ declared τs (declared (ref_tys (fs ms)) []);
    body = takes (fs ms) (steps all_arrays ms (paths lies [] (λ st. st) zero tt)) T'.mir the_refs
        (seq (call f (ref_copies (fs ms) the_refs (copies 2 τs)) (place 0 [])) return);
  }

-- ψ is what the function's contract says, φ what its callee's does
module _ (ms : List Mark) (ps : List Param) (φ : callee.Clause [] (fs ms) ps u8) (ψ : Clause ps u8) where
  abbrev pub Tells : Type 0
  Tells = (h : State) (x : Data ps) (r : ℕ) (zs : Changes (fs ms)) → φ tt (chosen all_arrays ms (arrays_of h)) x r (lists_after ms h zs) → ψ h x r (with ms h h.core zs)

module _ (ms : List Mark) (ps : List Param) (φ : callee.Clause [] (fs ms) ps u8) (ψ : Clause ps u8) (tells : Tells ms ps φ ψ)
    {M : Type 1} {𝓤 : Ura M} (𝓛 : Logic 𝓤) (C : Calls 𝓤 𝓛.H) (Λ : Loops 𝓤 𝓛.H) (fm : FmC 𝓤 𝓛.H 𝓛.laws C)
    (f : Callee) (met : Triple 𝓤 (C f) (callee.Known [] (fs ms) ps u8 𝓤 φ 𝓛))
    (κs : Lfts (suc (lifetimes ps))) (qs : Shares (suc (lifetimes ps))) (a : Args (lent ps u8).signature κs)
    (typed : Typed (tys ps 1) (values ps (x ps u8 𝓤 ψ 𝓛 κs qs a))) where
  open 𝓛 use {H}

  abbrev h : State
  h = a.0.now

  abbrev b : ℕ
  b = a.0.ref_ptr.0

  abbrev o : ℕ
  o = a.0.ref_ptr.1

  abbrev τs : List Ty
  τs = tys ps 1

  abbrev vs : List Val
  vs = values ps (x ps u8 𝓤 ψ 𝓛 κs qs a)

  abbrev ρs : List Ty
  ρs = ref_tys (fs ms)

  module _ (l₀ l₁ : ℕ) (bs : Blocks τs) (cs : Blocks ρs) where
    abbrev E₁ : Env 𝓤 H
    E₁ = placed ρs cs []

    abbrev E : Env 𝓤 H
    E = (ty_int w8, l₀) ∷ (reference, l₁) ∷ placed τs bs E₁

    at_row : Stand E (no_local 𝓤 H) 2 τs bs
    at_row = shift (ty_int w8, l₀) ((reference, l₁) ∷ placed τs bs E₁) (no_local 𝓤 H) 1 τs bs (shift (reference, l₁) (placed τs bs E₁) (no_local 𝓤 H) 0 τs bs (stands τs bs E₁ (no_local 𝓤 H)))

    at_refs : Stand E (no_local 𝓤 H) (the_refs ms τs) ρs cs
    at_refs = shift (ty_int w8, l₀) ((reference, l₁) ∷ placed τs bs E₁) (no_local 𝓤 H) (suc (after τs 0)) ρs cs (shift (reference, l₁) (placed τs bs E₁) (no_local 𝓤 H) (after τs 0) ρs cs
        (stand_after τs bs E₁ (no_local 𝓤 H) 0 ρs cs (stands ρs cs [] (no_local 𝓤 H))))

    runs_on : Sq 𝓛 (‵ (fobs a.0.ghost_name ((T.the_row).coded.code h)) ∷ ‵ (fbor κs.0 (Body (mem T.the_row) b o a.0.ghost_name)) ∷ ‵ (flft κs.0 qs.0)
        ∷ raw (toks 𝓛 (lifetimes ps) κs.1 qs.1) ∷ ‵ (Owned (suc (lifetimes ps)) κs ps 1 (its ps) a.1) ∷ rooms ρs cs
        ∷ ‵ (fat full_share reference l₁ 0 (vptr b o)) ∷ row-cells τs vs bs ∷ ‵ (fdies reference l₁) ∷ ‵ (froom (ty_int w8) l₀ 0) ∷ ‵ (fdies (ty_int w8) l₀) ∷ [])
        (runs C Λ E (passed_on ms τs (suc (lifetimes ps)) f).body (at_ret E (Post ps u8 𝓤 ψ 𝓛 κs qs a)))
    runs_on =
        -- the borrow is opened
        opens ! tt T.the_row {h = h} b o (λ ws. unit_spelt ! full_share h ws b o (λ g.
        use1 𝓛 (‵ (fat full_share T'.mir b o (val_t h))) (𝓛.laws.raw_at full_share T'.mir b o (val_t h)) $ move ! (1 ∷ []) $ drop ! $
        -- [the unit's cell; the open borrow; obs; auth; the tokens; what the parameters own; room for the references; the reference; the row at 8; …; the result
        -- at 10; …]: the addresses are taken, and the call
        move ! (0 ∷ 4 ∷ 5 ∷ 6 ∷ 7 ∷ 8 ∷ []) $ lends_on ms [] ps u8 φ 𝓛 κs qs.1 a.1 typed b o tt ! fm met full_share (all_of_the_whole (fs ms)) tt h g
        reference l₁ refl bs at_row (the_refs ms τs) cs at_refs (λ os. os) (λ i₁ i₂ i₃ i₄ i₅ i₆ i₇ i₈ os ws others. others) (λ v r zs e is gs.
        -- [what the number owns; the unit's cell; the tokens; what is had; the references; the reference at 5; the row; the open borrow; obs; auth; …; the result
        -- at 11; …]
        land ! (from ! (stop !)) (init ! 11 refl ((uint_Lawful 𝓛 w8).typed r _ is).0) $
        -- the borrow is closed at the new unit
        move ! (1 ∷ []) $
        use1 𝓛 (‵ (cell_at full_share (T.the_row).mir (val_t (with ms h h.core zs) ∷ []) b o)) (𝓛.laws.at_raw full_share T'.mir b o (val_t (with ms h h.core zs))) $
        owned ! T.the_row (Is T.the_row) (LL.makes T.the_type T'.the_plain 𝓛) (with ms h h.core zs) _
        (made h.core (arrays_after ms h zs) (core_of h g) gs) $
        move ! (1 ∷ 0 ∷ 8 ∷ 9 ∷ 10 ∷ []) $ closes ! tt T.the_row (with ms h h.core zs) (val_t (with ms h h.core zs) ∷ []) b o $
        -- [obs; the borrow; the token; what the number owns; the tokens; what is had; the references; the reference at 7; the row at 8; …; the result at 10; …]
        returns ! (look ! 10 refl) $ forget ! 10 refl $ move ! (10 ∷ 11 ∷ []) $ free1 ! $ forget ! 7 refl $ move ! (7 ∷ 9 ∷ []) $ free1 ! $
        move ! (7 ∷ []) $ free_row ! τs vs bs E₁ typed $ move ! (6 ∷ []) $ free_row ! ρs (pointers (fs ms) b (at ms o) []) cs [] (pointers_typed (fs ms) b (at ms o)) $ free0 ! $
        move ! (0 ∷ 1 ∷ 2 ∷ 4 ∷ 5 ∷ 3 ∷ []) $ by ! (ends ps u8 𝓤 ψ 𝓛 κs qs a (with ms h h.core zs) r v (tells h (x ps u8 𝓤 ψ 𝓛 κs qs a) r zs e)))))

  walk : ent 𝓤 (⋆ 𝓛 (begun ps u8 𝓤 ψ 𝓛 κs qs a)) (Runs ps u8 𝓤 ψ 𝓛 κs qs a C Λ (passed_on ms τs (suc (lifetimes ps)) f))
  walk =
      qed 𝓛 (begun ps u8 𝓤 ψ 𝓛 κs qs a) ∵ enter ! C Λ (passed_on ms τs (suc (lifetimes ps)) f) (vptr b o ∷ vs) (Post ps u8 𝓤 ψ 𝓛 κs qs a) $
      alloc1 ! (λ l₀. alloc1 ! (λ l₁. alloc_row ! τs (λ bs. alloc_row ! ρs (λ cs. alloc0 ! $ params1 ! $
      -- [room for the references; room for the row; the reference at 2; …; the result at 4; …]
      pass1 ! (init ! 2 refl (tt, tt)) $ move ! (1 ∷ []) $ pass_row ! τs vs bs (E₁ l₀ l₁ bs cs) typed $
      move ! (7 ∷ []) $ fsplit3 ! $ drop ! $ move ! (0 ∷ 1 ∷ 8 ∷ 9 ∷ 10 ∷ 3 ∷ 4 ∷ 2 ∷ []) $ runs_on l₀ l₁ bs cs))))

pub passes_on : {M : Type 1} {𝓤 : Ura M} (𝓛 : Logic 𝓤) (𝓜 : Model 𝓤 𝓛.H) (𝓡 : Running 𝓤 𝓛.H 𝓜) (γ : Binds) (ms : List Mark) (ps : List Param)
    (φ : callee.Clause [] (fs ms) ps u8) (ψ : Clause ps u8) → Tells ms ps φ ψ
    → (self f : Callee) (r : Routine)
    → γ f ≡ r
    → Triple 𝓤 (𝓡.run r) (callee.Known [] (fs ms) ps u8 𝓤 φ 𝓛)
    → Closed 𝓤 𝓛.H (tables 𝓤 𝓛.H 𝓜 𝓡 γ).C (tables 𝓤 𝓛.H 𝓜 𝓡 γ).Λ self (passed_on ms (tys ps 1) (suc (lifetimes ps)) f)
    → Triple 𝓤 ((tables 𝓤 𝓛.H 𝓜 𝓡 γ).C self) (Shown ps u8 𝓤 ψ 𝓛)
passes_on {𝓤 = 𝓤} 𝓛 𝓜 𝓡 γ ms ps φ ψ tells self f r is met closed =
    exported ps u8 𝓛 𝓜 𝓡 γ ψ (passed_on ms (tys ps 1) (suc (lifetimes ps)) f) self f r (callee.Known [] (fs ms) ps u8 𝓤 φ 𝓛) is met
    (λ C Λ fm known. walk ms ps φ ψ tells 𝓛 C Λ fm f known) closed
