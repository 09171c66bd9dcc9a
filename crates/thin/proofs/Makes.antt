-- A function over a lent unit that makes it anew: a walk of its MIR, by hand. The borrow is opened, the arrays that are marked are lent to another function where
-- they lie, and come back; the core that it returned is stored; and the borrow is closed at the new unit. Nothing is returned.
-- All that the proof knows of the callee is that it meets its contract.
use mathlib.Core.Path.{◌≡◌, refl, ap, subst}
use Prim.Native.Nat.{ℕ, zero}
use mathlib.Core.List.{[], ◌∷◌, List}
use seplogic.Ra.Ura.{Ura}
use base.Fraction.{full_share}
use mir.Syntax.{Ty, ty_unit, place, deref, field, copy, opd_unit, rv_opd, seq, assign, call, return, local, value_local, Fn, Callee}
use mir.Val.{Val, vunit, vptr}
use base.Logic.{ent}
use base.Fml.{fat, flft, fobs, fbor, froom, fdies}
use prog.Model.{Model}
use prog.Routine.{Routine, Env as Binds}
use prog.Wp.{Env, Calls, Loops, Closed, no_local}
use types.Logic.{Logic}
use contract.Lifetimes.{Lfts, Shares, toks}
use contract.Running.{Running, tables}
use types.Kit.{Sq, runs, at_ret, ‵, raw, ⋆, ◌$◌, ◌∵◌, !, qed, by, move, drop, rewrite, use1, fsplit3}
use types.Run.{look, init, forget, stop, hop, fld, from, load, unit_lit, of_opd, assigns, land, returns, enter, alloc1, alloc0, params1, pass1, pass0, free1, free0}
use types.SemTy.{Body}
use sound.WpLaws.{FmC}
use denote.Laws.{Is}
use denote.Memory.{mem, cell_at}
use denote.Plain.{Nothing-Makes}
use denote.Builtin.{unit}
use denote.Steps.{only, opens, closes, owned, nothing}
use denote.Struct.Laws as LL
use denote.Triple.Statement.{Triple}
use denote.Triple.Entry.{Args}
use Rattle.lend.proofs.Row.{Blocks, declared, placed, copies, Stand, shift, stands, rooms, alloc_row, free_row}
use Rattle.lend.proofs.Params.{Owned}
use Rattle.lend.proofs.Loans.{all_of_the_whole, Changes, pointers, ref_tys}
use Rattle.lend.proofs.Fields.{paths}
use Rattle.lend.proofs.Chosen.{Mark, chosen, steps, takes, pointers_typed, ref_copies}
use Rattle.lend.proofs.Callee as callee
use Rattle.state.specs.declared.Unit.{Unit as State}
use Rattle.state.specs.declared.Core.{Core}
use Rattle.state.specs.contracts.Core as CO
use Rattle.state.proofs.Core.TheLaws as CO'
use Rattle.state.specs.contracts.Unit as T
use Rattle.state.proofs.Unit.TheLaws as T'
use Rattle.thin.proofs.Thin.{unit_spelt}
use Rattle.thin.proofs.Exported.{its, reference, lent, Clause, Shown, Post, begun, ends, Runs, exported}
use Rattle.thin.proofs.Lending.{all_arrays, fs, at, lists_after, arrays_after, with, core_stored, lends_on}
use Rattle.thin.proofs.Lent.{lies, arrays_of, val_t, val_c, made}

abbrev pub makes : List Mark → Callee → Fn
makes ms f = record {
  lifetimes = 1;
  outlives = [];
  ty_params = [];
  givens = 0;
  params = 1;
  locals = local ty_unit value_local ∷ local reference value_local ∷ local CO'.mir value_local ∷ declared (ref_tys (fs ms)) [];
  body = takes (fs ms) (steps all_arrays ms (paths lies [] (λ st. st) zero tt)) T'.mir 3
      (seq (call f (ref_copies (fs ms) 3 (copies 2 [])) (place 2 []))
      (seq (assign (place 1 (deref T'.mir ∷ field 0 ∷ [])) (rv_opd (copy (place 2 [])))) (seq (assign (place 0 []) (rv_opd opd_unit)) return)));
}

-- ψ is what the function's contract says, φ what its callee's does
module _ (ms : List Mark) (φ : callee.Clause [] (fs ms) [] CO.the_row) (ψ : Clause [] unit) where
  abbrev pub Tells : Type 0
  Tells = (h : State) (c : Core) (zs : Changes (fs ms)) → φ tt (chosen all_arrays ms (arrays_of h)) tt c (lists_after ms h zs) → ψ h tt tt (with ms h c zs)

module _ (ms : List Mark) (φ : callee.Clause [] (fs ms) [] CO.the_row) (ψ : Clause [] unit) (tells : Tells ms φ ψ)
    {M : Type 1} {𝓤 : Ura M} (𝓛 : Logic 𝓤) (C : Calls 𝓤 𝓛.H) (Λ : Loops 𝓤 𝓛.H) (fm : FmC 𝓤 𝓛.H 𝓛.laws C)
    (f : Callee) (met : Triple 𝓤 (C f) (callee.Known [] (fs ms) [] CO.the_row 𝓤 φ 𝓛))
    (κs : Lfts 1) (qs : Shares 1) (a : Args (lent [] unit).signature κs) where
  open 𝓛 use {H}

  abbrev h : State
  h = a.0.now

  abbrev b : ℕ
  b = a.0.ref_ptr.0

  abbrev o : ℕ
  o = a.0.ref_ptr.1

  abbrev ρs : List Ty
  ρs = ref_tys (fs ms)

  module _ (l₀ l₁ lₖ : ℕ) (cs : Blocks ρs) where
    abbrev E : Env 𝓤 H
    E = (ty_unit, l₀) ∷ (reference, l₁) ∷ (CO'.mir, lₖ) ∷ placed ρs cs []

    at_refs : Stand E (no_local 𝓤 H) 3 ρs cs
    at_refs = shift (ty_unit, l₀) ((reference, l₁) ∷ (CO'.mir, lₖ) ∷ placed ρs cs []) (no_local 𝓤 H) 2 ρs cs
        (shift (reference, l₁) ((CO'.mir, lₖ) ∷ placed ρs cs []) (no_local 𝓤 H) 1 ρs cs (shift (CO'.mir, lₖ) (placed ρs cs []) (no_local 𝓤 H) 0 ρs cs (stands ρs cs [] (no_local 𝓤 H))))

    runs_on : Sq 𝓛 (‵ (fobs a.0.ghost_name ((T.the_row).coded.code h)) ∷ ‵ (fbor κs.0 (Body (mem T.the_row) b o a.0.ghost_name)) ∷ ‵ (flft κs.0 qs.0)
        ∷ raw (toks 𝓛 0 κs.1 qs.1) ∷ ‵ (Owned 1 κs [] 1 (its []) a.1) ∷ rooms ρs cs
        ∷ ‵ (fat full_share reference l₁ 0 (vptr b o)) ∷ ‵ (fdies reference l₁) ∷ ‵ (froom CO'.mir lₖ 0) ∷ ‵ (fdies CO'.mir lₖ) ∷ ‵ (froom ty_unit l₀ 0) ∷ ‵ (fdies ty_unit l₀) ∷ [])
        (runs C Λ E (makes ms f).body (at_ret E (Post [] unit 𝓤 ψ 𝓛 κs qs a)))
    runs_on =
        -- the borrow is opened
        opens ! tt T.the_row {h = h} b o (λ ws. unit_spelt ! full_share h ws b o (λ g.
        use1 𝓛 (‵ (fat full_share T'.mir b o (val_t h))) (𝓛.laws.raw_at full_share T'.mir b o (val_t h)) $ move ! (1 ∷ []) $ drop ! $ nothing ! $
        -- [an empty row; the unit's cell; the open borrow; obs; auth; the tokens; what the parameters own; room for the references; the reference at 8; …; the core
        -- at 10; …; the result at 12; …]: the addresses are taken, and the call
        move ! (1 ∷ 5 ∷ 6 ∷ 7 ∷ 8 ∷ 0 ∷ []) $ lends_on ms [] [] CO.the_row φ 𝓛 κs qs.1 a.1 tt b o tt ! fm met full_share (all_of_the_whole (fs ms)) tt h g
        reference l₁ refl tt tt 3 cs at_refs (λ os. os) (λ i₁ i₂ i₃ i₄ i₅ i₆ i₇ i₈ os ws others. others) (λ v c zs e is gs.
        -- [what the core owns; the unit's cell; the tokens; what is had; the references; the reference at 5; the row; the open borrow; obs; auth; …; the core at
        -- 11; …; the result at 13; …]: the core lands, is spelt out, and is stored
        land ! (from ! (stop !)) (init ! 11 refl ((LL.lawful CO.the_type CO'.the_laws 𝓛).typed c _ is).0) $
        rewrite ! 11 (λ (u : Val). ‵ (fat full_share CO'.mir lₖ 0 u)) (ap only (LL.tells CO.the_type CO'.the_laws c (v ∷ []) is)) refl $ drop ! $
        assigns ! (of_opd ! (load ! (from ! (stop !)) (look ! 10 refl))) (from ! (hop ! (look ! 4 refl) (fld ! refl (stop !)))) (core_stored ! h.core c (arrays_after ms h zs) b o (core_spelt c v is)) $
        assigns ! (of_opd ! (unit_lit !)) (from ! (stop !)) (init ! 12 refl (tt, tt)) $
        -- the borrow is closed at the new unit
        use1 𝓛 (‵ (cell_at full_share (T.the_row).mir (val_t (with ms h c zs) ∷ []) b o)) (𝓛.laws.at_raw full_share T'.mir b o (val_t (with ms h c zs))) $
        owned ! T.the_row (Is T.the_row) (LL.makes T.the_type T'.the_plain 𝓛) (with ms h c zs) _
        (made c (arrays_after ms h zs) (core_spelt c v is) gs) $
        move ! (1 ∷ 0 ∷ 7 ∷ 8 ∷ 9 ∷ []) $ closes ! tt T.the_row (with ms h c zs) (val_t (with ms h c zs) ∷ []) b o $
        -- [obs; the borrow; the token; the tokens; what is had; the references; the reference at 6; the row; …; the core at 9; …; the result at 11; …]
        returns ! (look ! 11 refl) $ forget ! 11 refl $ move ! (11 ∷ 12 ∷ []) $ free1 ! $ forget ! 6 refl $ move ! (6 ∷ 8 ∷ []) $ free1 ! $
        forget ! 7 refl $ move ! (7 ∷ 8 ∷ []) $ free1 ! $ move ! (5 ∷ []) $
        free_row ! ρs (pointers (fs ms) b (at ms o) []) cs [] (pointers_typed (fs ms) b (at ms o)) $ free0 ! $ move ! (5 ∷ []) $ drop ! $
        owned ! unit (Is unit) (Nothing-Makes 𝓛) tt _ refl $ move ! (1 ∷ 2 ∷ 3 ∷ 4 ∷ 5 ∷ 0 ∷ []) $
        by ! (ends [] unit 𝓤 ψ 𝓛 κs qs a (with ms h c zs) tt vunit (tells h c zs e)))))
      where
        core_spelt : (c : Core) (v : Val) → Is CO.the_row c (v ∷ []) → Is CO.the_row c (val_c c ∷ [])
        core_spelt c v is = subst (λ (us : List Val). Is CO.the_row c us) (LL.tells CO.the_type CO'.the_laws c (v ∷ []) is) is

  walk : ent 𝓤 (⋆ 𝓛 (begun [] unit 𝓤 ψ 𝓛 κs qs a)) (Runs [] unit 𝓤 ψ 𝓛 κs qs a C Λ (makes ms f))
  walk =
      qed 𝓛 (begun [] unit 𝓤 ψ 𝓛 κs qs a) ∵ enter ! C Λ (makes ms f) (vptr b o ∷ []) (Post [] unit 𝓤 ψ 𝓛 κs qs a) $
      alloc1 ! (λ l₀. alloc1 ! (λ l₁. alloc1 ! (λ lₖ. alloc_row ! ρs (λ cs. alloc0 ! $ params1 ! $
      -- [room for the references; the core at 1; …; the reference at 3; …; the result at 5; …]
      pass1 ! (init ! 3 refl (tt, tt)) $ pass0 ! $ move ! (8 ∷ []) $ fsplit3 ! $ drop ! $ move ! (0 ∷ 1 ∷ 9 ∷ 10 ∷ 11 ∷ 2 ∷ 5 ∷ 6 ∷ 3 ∷ 4 ∷ 7 ∷ 8 ∷ []) $
      runs_on l₀ l₁ lₖ cs))))

pub makes_anew : {M : Type 1} {𝓤 : Ura M} (𝓛 : Logic 𝓤) (𝓜 : Model 𝓤 𝓛.H) (𝓡 : Running 𝓤 𝓛.H 𝓜) (γ : Binds) (ms : List Mark)
    (φ : callee.Clause [] (fs ms) [] CO.the_row) (ψ : Clause [] unit) → Tells ms φ ψ
    → (self f : Callee) (r : Routine)
    → γ f ≡ r
    → Triple 𝓤 (𝓡.run r) (callee.Known [] (fs ms) [] CO.the_row 𝓤 φ 𝓛)
    → Closed 𝓤 𝓛.H (tables 𝓤 𝓛.H 𝓜 𝓡 γ).C (tables 𝓤 𝓛.H 𝓜 𝓡 γ).Λ self (makes ms f)
    → Triple 𝓤 ((tables 𝓤 𝓛.H 𝓜 𝓡 γ).C self) (Shown [] unit 𝓤 ψ 𝓛)
makes_anew {𝓤 = 𝓤} 𝓛 𝓜 𝓡 γ ms φ ψ tells self f r is met closed =
    exported [] unit 𝓛 𝓜 𝓡 γ ψ (makes ms f) self f r (callee.Known [] (fs ms) [] CO.the_row 𝓤 φ 𝓛) is met
    (λ C Λ fm known κs qs a typed. walk ms φ ψ tells 𝓛 C Λ fm f known κs qs a) closed
