-- A function over a lent unit that stores: a walk of its MIR, by hand. The borrow is opened, the core is copied out, the arrays that are marked are lent to another
-- function where they lie, and come back; if its number is 0 the new core is stored over the old one; and the borrow is closed at the new unit. If the number is
-- not 0 no core is stored: the old one is the one that was returned.
-- All that the proof knows of the callee is that it meets its contract.
use mathlib.Core.Path.{◌≡◌, refl, ap, sym, subst, ◌∙◌}
use mathlib.Core.Bool.{Bool, not}
use Prim.Native.Nat.{ℕ, zero, suc, ◌<◌, ◌^◌}
use mathlib.Core.List.{[], ◌∷◌, List}
use lib.Dec.{T, eqb, T_not}
use lib.ListN.{get_or}
use seplogic.Ra.Ura.{Ura}
use base.Fraction.{full_share}
use mir.Syntax.{Ty, ty_int, ty_bool, w8, Place, Rv as Rvalue, place, deref, field, Opd as Operand, copy, int, rv_opd, op2, eq, Body as Code, seq, assign, call, cond, skip, return, local, value_local, Fn, Callee}
use mir.Val.{Val, vbool, vint, vptr}
use base.Fml.{fat}
use prog.Model.{Model}
use prog.Routine.{Routine, Env as Binds}
use prog.Wp.{Env, Calls, Loops, Closed, no_local}
use types.Logic.{Logic}
use contract.Running.{Running, tables}
use types.Kit.{Item, Step, Post as Aim, runs, step, ‵, ◌$◌, ◌∵◌, !, qed, by, move, drop, rewrite, use1, fsplit3}
use types.Run.{Opd, look, init, forget, stop, hop, fld, from, load, lit, bin, of_opd, and_then, assigns, first, branches, skips, land, returns, enter, alloc1, alloc0, params1, pass1, free1, free0}
use types.Part.{whole, sub, look_in}
use denote.Laws.{Is}
use denote.Memory.{cell_at}
use denote.Plain.{uint_Makes}
use denote.Builtin.{u8}
use denote.Steps.{only, opens, closes, owned}
use denote.Struct.Laws as LL
use denote.Triple.Statement.{Triple}
use Rattle.lend.proofs.Row.{Blocks, declared, placed, after, after_row, copies, Stand, shift, stands, stand_after, alloc_row, pass_row, free_row, found}
use Rattle.lend.proofs.Params.{Param, lifetimes, Data, values, tys}
use Rattle.lend.proofs.Loans.{all_of_the_whole, Changes, pointers, ref_tys}
use Rattle.lend.proofs.Fields.{paths}
use Rattle.lend.proofs.Chosen.{Mark, chosen, steps, takes, pointers_typed, ref_copies}
use Rattle.lend.proofs.Callee as callee
use Rattle.state.specs.declared.Unit.{Unit as State}
use Rattle.state.specs.declared.Core.{Core}
use Rattle.thin.specs.declared.Stepped.{Stepped}
use Rattle.state.specs.contracts.Core as CO
use Rattle.state.proofs.Core.TheLaws as CO'
use Rattle.thin.specs.contracts.Stepped as S
use Rattle.thin.proofs.Stepped.TheLaws as S'
use Rattle.state.specs.contracts.Unit as T
use Rattle.state.proofs.Unit.TheLaws as T'
use Rattle.thin.proofs.Thin.{unit_spelt}
use Rattle.thin.proofs.Exported.{reference, Clause, Shown, x, Post, begun, ends, exported}
use Rattle.thin.proofs.Lending.{core, all_arrays, fs, at, lists_after, arrays_after, with, core_read, core_stored, lends_on}
use Rattle.thin.proofs.Lent.{lies, arrays_of, val_t, val_c, core_of, made}

-- what whoever holds a step's result knows of its two fields
refusal_fits : (r : Stepped) (v : Val) → Is S.the_row r (v ∷ []) → r.refusal < 2 ^ 8
refusal_fits r v is = (LL.owed S.the_type S'.the_laws r (v ∷ []) is).0.1

core_is : (r : Stepped) (v : Val) → Is S.the_row r (v ∷ []) → Is CO.the_row r.core (val_c r.core ∷ [])
core_is r v is = (LL.owed S.the_type S'.the_laws r (v ∷ []) is).1.0

-- the number is not 0, as the test says it
not_0 : (n : ℕ) → T (not (eqb n 0)) → n ≡ 0 → ⊥
not_0 n t e = T_not (eqb n 0) t (subst (λ (m : ℕ). T (eqb m 0)) (sym e) tt)

-- an `if` of two assignments with no `else`, where both ways leave the same: what follows it is walked once
module _ {M : Type 1} {𝓤 : Ura M} {𝓛 : Logic 𝓤} {K : Type 0} {Γ Γ' : List (Item 𝓤)}
    {C : Calls 𝓤 𝓛.H} {Λ : Loops 𝓤 𝓛.H} {E : Env 𝓤 𝓛.H} {q : Aim 𝓤 𝓛.H} where
  stores_if : K → {c : Operand} {p p' : Place} {r r' : Rvalue} {rest : Code} {y : Bool} → Opd K 𝓛 Γ E c (vbool y)
      → (T y → Step K 𝓛 Γ' (runs C Λ E rest q) Γ (runs C Λ E (seq (assign p r) (seq (assign p' r') rest)) q)) → (T (not y) → Step K 𝓛 Γ' (runs C Λ E rest q) Γ (runs C Λ E rest q))
      → Step K 𝓛 Γ' (runs C Λ E rest q) Γ (runs C Λ E (seq (cond c (seq (assign p r) (assign p' r')) skip) rest) q)
  stores_if t test held failed =
      step (λ s. first t $ branches t test (λ h. record { prf = (held h $ s).prf }) (λ h. skips t $ record { prf = (failed h $ s).prf }))

module _ (ms : List Mark) where
  -- the numbers of the locals: the outcome, the core that is passed, the first reference, the test, the core that is stored
  module _ (τs : List Ty) where
    abbrev the_outcome : ℕ
    the_outcome = suc (suc (after τs 0))

    abbrev the_core : ℕ
    the_core = suc (suc (after τs 1))

    abbrev the_refs : ℕ
    the_refs = suc (suc (after τs 2))

    abbrev the_test : ℕ
    the_test = suc (suc (after τs (suc (suc (after (ref_tys (fs ms)) 0)))))

    abbrev the_new : ℕ
    the_new = suc (suc (after τs (suc (suc (after (ref_tys (fs ms)) 1)))))

    abbrev pub code : Callee → Code
    code f =
        seq (assign (place the_core []) (rv_opd (copy (place 1 (deref T'.mir ∷ field 0 ∷ [])))))
        (takes (fs ms) (steps all_arrays ms (paths lies [] (λ st. st) zero tt)) T'.mir the_refs
        (seq (call f (copy (place the_core []) ∷ ref_copies (fs ms) the_refs (copies 2 τs)) (place the_outcome []))
        (seq (assign (place the_test []) (op2 eq (copy (place the_outcome (field 0 ∷ []))) (int w8 0)))
        (seq (cond (copy (place the_test []))
        (seq (assign (place the_new []) (rv_opd (copy (place the_outcome (field 1 ∷ []))))) (assign (place 1 (deref T'.mir ∷ field 0 ∷ [])) (rv_opd (copy (place the_new []))))) skip)
        (seq (assign (place 0 []) (rv_opd (copy (place the_outcome (field 0 ∷ []))))) return)))))

    abbrev pub stored : ℕ → Callee → Fn
    stored lifetimes f = record {
      lifetimes = lifetimes;
      outlives = [];
      ty_params = [];
      givens = 0;
      params = suc (after τs 0);
      locals = local (ty_int w8) value_local ∷ local reference value_local
          ∷ declared τs (local S'.mir value_local ∷ local CO'.mir value_local ∷ declared (ref_tys (fs ms)) (local ty_bool value_local ∷ local CO'.mir value_local ∷ []));
      body = code f;
    }

-- ψ is what the function's contract says, φ what its callee's does: the core goes in by value, and comes back with the number
module _ (ms : List Mark) (ps : List Param) (φ : callee.Clause (core ∷ []) (fs ms) ps S.the_row) (ψ : Clause ps u8) where
  abbrev pub Tells : Type 0
  Tells = (h : State) (x : Data ps) (r : Stepped) (zs : Changes (fs ms)) → φ (h.core, tt) (chosen all_arrays ms (arrays_of h)) x r (lists_after ms h zs) → ψ h x r.refusal (with ms h r.core zs)

  -- what is turned down leaves the unit
  abbrev pub Leaves : Type 0
  Leaves = (h : State) (x : Data ps) (n : ℕ) (h' : State) → ψ h x n h' → (n ≡ 0 → ⊥) → h' ≡ h

-- where the locals lie, of which two rows are of any length
module _ (ms : List Mark) (τs : List Ty) {M : Type 1} {𝓤 : Ura M} (𝓛 : Logic 𝓤) (l₀ l₁ lₛ lₖ lₜ lₙ : ℕ) (bs : Blocks τs) (cs : Blocks (ref_tys (fs ms))) where
  open 𝓛 use {H}

  abbrev ρs : List Ty
  ρs = ref_tys (fs ms)

  abbrev E₂ : Env 𝓤 H
  E₂ = (ty_bool, lₜ) ∷ (CO'.mir, lₙ) ∷ []

  abbrev E₁ : Env 𝓤 H
  E₁ = (S'.mir, lₛ) ∷ (CO'.mir, lₖ) ∷ placed ρs cs E₂

  abbrev E : Env 𝓤 H
  E = (ty_int w8, l₀) ∷ (reference, l₁) ∷ placed τs bs E₁

  at_outcome : get_or E (the_outcome ms τs) (no_local 𝓤 H) ≡ (S'.mir, lₛ)
  at_outcome = after_row τs bs E₁ 0 (no_local 𝓤 H)

  at_core : get_or E (the_core ms τs) (no_local 𝓤 H) ≡ (CO'.mir, lₖ)
  at_core = after_row τs bs E₁ 1 (no_local 𝓤 H)

  at_test : get_or E (the_test ms τs) (no_local 𝓤 H) ≡ (ty_bool, lₜ)
  at_test = after_row τs bs E₁ (suc (suc (after ρs 0))) (no_local 𝓤 H) ∙ after_row ρs cs E₂ 0 (no_local 𝓤 H)

  at_new : get_or E (the_new ms τs) (no_local 𝓤 H) ≡ (CO'.mir, lₙ)
  at_new = after_row τs bs E₁ (suc (suc (after ρs 1))) (no_local 𝓤 H) ∙ after_row ρs cs E₂ 1 (no_local 𝓤 H)

  at_row : Stand E (no_local 𝓤 H) 2 τs bs
  at_row = shift (ty_int w8, l₀) ((reference, l₁) ∷ placed τs bs E₁) (no_local 𝓤 H) 1 τs bs (shift (reference, l₁) (placed τs bs E₁) (no_local 𝓤 H) 0 τs bs (stands τs bs E₁ (no_local 𝓤 H)))

  at_refs : Stand E (no_local 𝓤 H) (the_refs ms τs) ρs cs
  at_refs = shift (ty_int w8, l₀) ((reference, l₁) ∷ placed τs bs E₁) (no_local 𝓤 H) (suc (after τs 2)) ρs cs (shift (reference, l₁) (placed τs bs E₁) (no_local 𝓤 H) (after τs 2) ρs cs
      (stand_after τs bs E₁ (no_local 𝓤 H) 2 ρs cs
      (shift (S'.mir, lₛ) ((CO'.mir, lₖ) ∷ placed ρs cs E₂) (no_local 𝓤 H) 1 ρs cs (shift (CO'.mir, lₖ) (placed ρs cs E₂) (no_local 𝓤 H) 0 ρs cs (stands ρs cs E₂ (no_local 𝓤 H))))))

-- ---- the walk
pub stores : {M : Type 1} {𝓤 : Ura M} (𝓛 : Logic 𝓤) (𝓜 : Model 𝓤 𝓛.H) (𝓡 : Running 𝓤 𝓛.H 𝓜) (γ : Binds) (ms : List Mark) (ps : List Param)
    (φ : callee.Clause (core ∷ []) (fs ms) ps S.the_row) (ψ : Clause ps u8) → Tells ms ps φ ψ → Leaves ms ps φ ψ
    → (self f : Callee) (r : Routine)
    → γ f ≡ r
    → Triple 𝓤 (𝓡.run r) (callee.Known (core ∷ []) (fs ms) ps S.the_row 𝓤 φ 𝓛)
    → Closed 𝓤 𝓛.H (tables 𝓤 𝓛.H 𝓜 𝓡 γ).C (tables 𝓤 𝓛.H 𝓜 𝓡 γ).Λ self (stored ms (tys ps 1) (suc (lifetimes ps)) f)
    → Triple 𝓤 ((tables 𝓤 𝓛.H 𝓜 𝓡 γ).C self) (Shown ps u8 𝓤 ψ 𝓛)
stores {𝓤 = 𝓤} 𝓛 𝓜 𝓡 γ ms ps φ ψ tells left self f r is met closed =
    exported ps u8 𝓛 𝓜 𝓡 γ ψ (stored ms (tys ps 1) (suc (lifetimes ps)) f) self f r (callee.Known (core ∷ []) (fs ms) ps S.the_row 𝓤 φ 𝓛) is met
    (λ C Λ fm known κs qs a typed.
    let h : State = a.0.now in
    let b : ℕ = a.0.ref_ptr.0 in
    let o : ℕ = a.0.ref_ptr.1 in
    let τs : List Ty = tys ps 1 in
    let vs : List Val = values ps (x ps u8 𝓤 ψ 𝓛 κs qs a) in
    qed 𝓛 (begun ps u8 𝓤 ψ 𝓛 κs qs a) ∵ enter ! C Λ (stored ms τs (suc (lifetimes ps)) f) (vptr b o ∷ vs) (Post ps u8 𝓤 ψ 𝓛 κs qs a) $
    alloc1 ! (λ l₀. alloc1 ! (λ l₁. alloc_row ! τs (λ bs. alloc1 ! (λ lₛ. alloc1 ! (λ lₖ. alloc_row ! (ref_tys (fs ms)) (λ cs. alloc1 ! (λ lₜ. alloc1 ! (λ lₙ. alloc0 ! $ params1 ! $
    let below : Env 𝓤 𝓛.H = E₁ ms τs 𝓛 l₀ l₁ lₛ lₖ lₜ lₙ bs cs in
    let outcome = at_outcome ms τs 𝓛 l₀ l₁ lₛ lₖ lₜ lₙ bs cs in
    let passed = at_core ms τs 𝓛 l₀ l₁ lₛ lₖ lₜ lₙ bs cs in
    let test = at_test ms τs 𝓛 l₀ l₁ lₛ lₖ lₜ lₙ bs cs in
    let new = at_new ms τs 𝓛 l₀ l₁ lₛ lₖ lₜ lₙ bs cs in
    -- [the new core; …; the test at 2; …; room for the references at 4; the core at 5; …; the outcome at 7; …; room for the row at 9; the reference at 10; …; the
    -- result at 12; …]
    pass1 ! (init ! 10 refl (tt, tt)) $ move ! (9 ∷ []) $ pass_row ! τs vs bs below typed $
    move ! (15 ∷ []) $ fsplit3 ! $ drop ! $ move ! (0 ∷ 1 ∷ 16 ∷ 17 ∷ 18 ∷ 2 ∷ 7 ∷ 12 ∷ 13 ∷ 5 ∷ 6 ∷ 8 ∷ 9 ∷ 10 ∷ 11 ∷ 14 ∷ 15 ∷ 3 ∷ 4 ∷ []) $
    -- the borrow is opened, and the core copied out
    opens ! tt T.the_row {h = h} b o (λ ws. unit_spelt ! full_share h ws b o (λ g.
    use1 𝓛 (‵ (fat full_share T'.mir b o (val_t h))) (𝓛.laws.raw_at full_share T'.mir b o (val_t h)) $ move ! (1 ∷ []) $ drop ! $
    -- [the unit's cell; the open borrow; obs; auth; the tokens; what the parameters own; their row at 6; room for the references; the reference at 8; …; the
    -- test at 10; …; the core at 12; …; the outcome at 14; …; the result at 16; …; the new core at 18; …]
    assigns ! (of_opd ! (load ! (from ! (hop ! (look ! 8 refl) (fld ! refl (stop !)))) (core_read ! full_share h.core (arrays_of h) b o))) (found ! passed (stop !)) (init ! 12 refl
    ((LL.lawful CO.the_type CO'.the_laws 𝓛).typed h.core _ (core_of h g)).0) $
    -- the addresses are taken, and the call
    move ! (0 ∷ 4 ∷ 5 ∷ 7 ∷ 8 ∷ 6 ∷ []) $ lends_on ms (core ∷ []) ps S.the_row φ 𝓛 κs qs.1 a.1 typed b o (h.core, tt) ! fm known full_share (all_of_the_whole (fs ms)) (core_of h g, tt) h g
    reference l₁ refl bs (at_row ms τs 𝓛 l₀ l₁ lₛ lₖ lₜ lₙ bs cs) (the_refs ms τs) cs (at_refs ms τs 𝓛 l₀ l₁ lₛ lₖ lₜ lₙ bs cs) (λ os. copy (place (the_core ms τs) []) ∷ os)
    (λ i₁ i₂ i₃ i₄ i₅ i₆ i₇ i₈ os ws others. and_then ! (load ! (found ! passed (stop !)) (look ! 14 refl)) others) (λ v r zs e is gs.
    -- the outcome lands, and is spelt out
    land ! (found ! outcome (stop !)) (init ! 15 refl ((LL.lawful S.the_type S'.the_laws 𝓛).typed r _ is).0) $
    rewrite ! 15 (λ (u : Val). ‵ (fat full_share S'.mir lₛ 0 u)) (ap only (LL.tells S.the_type S'.the_laws r (v ∷ []) is)) refl $ drop ! $
    -- [the unit's cell; the tokens; what is had; the references; the reference at 4; the row; the open borrow; obs; auth; …; the test at 10; …; the outcome at
    -- 14; …; the result at 16; …; the new core at 18; …]
    assigns ! (bin ! (load ! (found ! outcome (fld ! refl (stop !))) (look_in ! 14 (sub ! 0 refl (whole !)))) (lit ! tt) tt)
    (found ! test (stop !)) (init ! 10 refl (tt, tt)) $
    -- the new core is stored if the number is 0; if it is not, the new core is the old one
    stores_if ! (load ! (found ! test (stop !)) (look ! 10 refl))
    (λ zero. step (λ s. assigns ! (of_opd ! (load ! (found ! outcome (fld ! refl (stop !))) (look_in ! 14 (sub ! 1 refl (whole !)))))
    (found ! new (stop !)) (init ! 18 refl ((LL.lawful CO.the_type CO'.the_laws 𝓛).typed r.core _ (core_is r v is)).0) $
    assigns ! (of_opd ! (load ! (found ! new (stop !)) (look ! 18 refl)))
    (from ! (hop ! (look ! 4 refl) (fld ! refl (stop !)))) (core_stored ! h.core r.core (arrays_after ms h zs) b o (core_is r v is)) $ forget ! 18 refl $ s))
    (λ some. rewrite ! 0 (λ (w : Core). ‵ (fat full_share T'.mir b o (val_t (with ms h w zs))))
    (sym (ap (λ (w : State). w.core) (left h (x ps u8 𝓤 ψ 𝓛 κs qs a) r.refusal (with ms h r.core zs) (tells h (x ps u8 𝓤 ψ 𝓛 κs qs a) r zs e) (not_0 r.refusal some)))) refl) $
    assigns ! (of_opd ! (load ! (found ! outcome (fld ! refl (stop !))) (look_in ! 14 (sub ! 0 refl (whole !))))) (from ! (stop !)) (init ! 16 refl
    (tt, record { fits = refusal_fits r v is })) $
    -- the borrow is closed at the new unit
    use1 𝓛 (‵ (cell_at full_share (T.the_row).mir (val_t (with ms h r.core zs) ∷ []) b o)) (𝓛.laws.at_raw full_share T'.mir b o (val_t (with ms h r.core zs))) $
    owned ! T.the_row (Is T.the_row) (LL.makes T.the_type T'.the_plain 𝓛) (with ms h r.core zs) _
    (made r.core (arrays_after ms h zs) (core_is r v is) gs) $
    move ! (1 ∷ 0 ∷ 7 ∷ 8 ∷ 9 ∷ []) $ closes ! tt T.the_row (with ms h r.core zs) (val_t (with ms h r.core zs) ∷ []) b o $
    -- [obs; the borrow; the token; the tokens; what is had; the references; the reference at 6; the row at 7; …; the test at 9; …; the core at 11; …; the
    -- outcome at 13; …; the result at 15; …; the new core at 17; …]
    returns ! (look ! 15 refl) $ forget ! 15 refl $ move ! (15 ∷ 16 ∷ []) $ free1 ! $ forget ! 6 refl $ move ! (6 ∷ 8 ∷ []) $ free1 ! $
    move ! (6 ∷ []) $ free_row ! τs vs bs below typed $ forget ! 10 refl $ move ! (10 ∷ 11 ∷ []) $ free1 ! $ forget ! 8 refl $ move ! (8 ∷ 9 ∷ []) $ free1 ! $
    move ! (5 ∷ []) $ free_row ! (ref_tys (fs ms)) (pointers (fs ms) b (at ms o) []) cs (E₂ ms τs 𝓛 l₀ l₁ lₛ lₖ lₜ lₙ bs cs) (pointers_typed (fs ms) b (at ms o)) $ forget ! 5 refl $ move ! (5 ∷ 6 ∷ []) $ free1 ! $ move ! (5 ∷ 6 ∷ []) $ free1 ! $ free0 ! $
    owned ! u8 (Is u8) (uint_Makes 𝓛 w8) r.refusal _ (refl, refusal_fits r v is) $ move ! (1 ∷ 2 ∷ 3 ∷ 4 ∷ 5 ∷ 0 ∷ []) $
    by ! (ends ps u8 𝓤 ψ 𝓛 κs qs a (with ms h r.core zs) r.refusal (vint w8 r.refusal) (tells h (x ps u8 𝓤 ψ 𝓛 κs qs a) r zs e)))))))))))))) closed
