-- A function over a unit that is lent for reading, `&`, beside other parameters: its contract, and a walk of its MIR, by hand. The borrow is looked into, the core is
-- copied out, the arrays that are marked are lent to another function for reading where they lie, the borrow is shut, and the callee's result is returned.
-- All that the proof knows of the callee is that it meets its contract.
use mathlib.Core.Path.{◌≡◌, refl}
use Prim.Native.Nat.{ℕ, zero, suc}
use mathlib.Core.List.{[], ◌∷◌, List}
use lib.ListN.{get_or}
use seplogic.Ra.Ura.{Ura}
use base.Fraction.{full_share}
use mir.Syntax.{Ty, ty_int, ty_ref, imm, named, w16, place, deref, field, copy, rv_opd, seq, assign, call, return, local, value_local, Fn, Callee}
use mir.Val.{Val, vptr}
use base.Logic.{SProp, ent, emp, via, fst∗}
use base.Fml.{fat, flft, froom, fdies}
use prog.Model.{Model}
use prog.Routine.{Routine, Env as Binds}
use prog.Wp.{Env, Calls, Loops, WpFn, Closed, no_local}
use types.Logic.{Logic}
use contract.Lifetimes.{Lfts, Shares, toks}
use contract.Running.{Running, tables}
use types.Kit.{Item, Sq, runs, at_ret, ‵, raw, ◌⊛◌, ⋆, ◌$◌, ◌∵◌, !, prop, regoal, qed, by, move, keep, drop, rewrite, use1, split, join, fsplit, fjoin, feq_i, suffices, frame, done}
use types.Run.{look, init, forget, stop, hop, fld, from, load, of_opd, and_then, assigns, land, returns, enter, alloc1, alloc0, params1, pass1, free1, free0}
use sound.WpLaws.{FmC}
use denote.RattleType.{flat, owns}
use denote.Laws.{Typed}
use denote.Memory.{pointee, cell_at, hidden_shr}
use denote.Signature.{plain, shr_ref_to}
use denote.Plain.{uint_Lawful}
use denote.Builtin.{u16}
use denote.Ref.{ShrRef, shr_vals, shr_Tells}
use denote.Steps.{looks, shuts}
use denote.Struct.Laws as LL
use denote.Triple.Statement.{Contract, Triple}
use denote.Triple.End.{all}
use denote.Triple.Spec.{triple_of}
use denote.Triple.Clauses.{Ended, Clauses, closing}
use denote.Triple.Walked.{says, Stays, stay_none_ref, walk_of, Goes-none_ref, ends_at, walked}
use denote.Exit.{yes}
use contract.Monad.{fact}
use Rattle.lend.proofs.Row.{Blocks, declared, placed, after, after_row, copies, Stand, shift, stands, stand_after, cells as row-cells, rooms, alloc_row, pass_row, free_row, found}
use Rattle.lend.proofs.Params.{Param, lifetimes, Data, values, tys, slots, stays, all_go, Types, spells, all_tell, none, none_fit, data_of, lists, in_a_row, are_typed, Owned, Had}
use Rattle.lend.proofs.Loans.{Lists, AllShared, all_of_a_share, after_same, Changes, pointers, ref_tys}
use Rattle.lend.proofs.Fields.{paths}
use Rattle.lend.proofs.Chosen.{Mark, chosen, changed, chosen_back, steps, takes, pointers_typed, ref_copies}
use Rattle.lend.proofs.Callee as callee
use Rattle.state.specs.declared.Unit.{Unit as State}
use Rattle.state.specs.contracts.Core as CO
use Rattle.state.proofs.Core.TheLaws as CO'
use Rattle.state.specs.contracts.Unit as T
use Rattle.state.proofs.Unit.TheLaws as T'
use Rattle.thin.proofs.Thin.{thin, unit_spelt}
use Rattle.thin.proofs.Exported.{its}
use denote.Triple.Entry.{Args, on_entry}
use Rattle.thin.proofs.Lending.{core, all_arrays, fs, at, lists_after, core_read, lends_on}
use Rattle.thin.proofs.Lent.{lies, Arrays, arrays_of, make, val_t, core_of}

abbrev reference : Ty
reference = ty_ref (named 0) imm (pointee (T.the_row).written)

-- ---- the function
module _ (ms : List Mark) (τs : List Ty) where
  abbrev the_core : ℕ
  the_core = suc (suc (after τs 0))

  abbrev the_refs : ℕ
  the_refs = suc (suc (after τs 1))

  abbrev pub reading : ℕ → Callee → Fn
  reading lifetimes f = record {
    lifetimes = lifetimes;
    outlives = [];
    ty_params = [];
    givens = 0;
    params = suc (after τs 0);
    locals = local (ty_int w16) value_local ∷ local reference value_local ∷ declared τs (local CO'.mir value_local ∷ declared (ref_tys (fs ms)) []);
    body = seq (assign (place the_core []) (rv_opd (copy (place 1 (deref T'.mir ∷ field 0 ∷ [])))))
        (takes (fs ms) (steps all_arrays ms (paths lies [] (λ st. st) zero tt)) T'.mir the_refs
        (seq (call f (copy (place the_core []) ∷ ref_copies (fs ms) the_refs (copies 2 τs)) (place 0 [])) return));
  }

-- ---- its contract
module _ (ps : List Param) where
  abbrev pub seen : Ended
  seen = record {
    signature = record {
      lifetimes = suc (lifetimes ps);
      outlives = [];
      params = shr_ref_to (0 ∷ []) tt (plain (λ _. T.the_row)) ∷ slots (suc (lifetimes ps)) ps 1 (its ps);
      result = plain (λ _. u16);
    };
    kept = all yes (shr_ref_to (0 ∷ []) tt (plain (λ _. T.the_row)) ∷ slots (suc (lifetimes ps)) ps 1 (its ps));
  }

  abbrev stayed : Stays seen.signature.params seen.kept
  stayed = (stay_none_ref (0 ∷ []) tt (plain (λ _. T.the_row)) yes, stays (suc (lifetimes ps)) ps 1 (its ps))

  abbrev pub Shows : Type 1
  Shows = State → Data ps → ℕ → Type 0

  module _ {M : Type 1} (𝓤 : Ura M) (ψ : Shows) where
    abbrev shows_it : Clauses 𝓤 seen
    shows_it κs a = record {
      ghost = Unit {0};
      requires = λ _. emp 𝓤;
      ensures = λ _ r end. fact 𝓤 (ψ a.0.now (data_of (suc (lifetimes ps)) κs ps 1 (its ps) a.1) r);
    }

    abbrev pub Shown : (𝓛 : Logic 𝓤) → Contract 𝓤
    Shown 𝓛 = triple_of 𝓛 seen.signature (closing 𝓛 seen shows_it)

-- ---- the walk: ψ is what the function's contract says, φ what its callee's does
module _ (ms : List Mark) (ps : List Param) (φ : callee.Clause (core ∷ []) (fs ms) ps u16) (ψ : Shows ps) where
  abbrev pub Tells : Type 0
  Tells = (h : State) (x : Data ps) (r : ℕ) (zs : Changes (fs ms)) → φ (h.core, tt) (chosen all_arrays ms (arrays_of h)) x r (lists_after ms h zs) → ψ h x r

module _ (ms : List Mark) (ps : List Param) (φ : callee.Clause (core ∷ []) (fs ms) ps u16) (ψ : Shows ps) (tells : Tells ms ps φ ψ)
    (same : AllShared (fs ms)) {M : Type 1} {𝓤 : Ura M} (𝓛 : Logic 𝓤) where
  open 𝓛 use {H}

  module _ (C : Calls 𝓤 H) (Λ : Loops 𝓤 H) (fm : FmC 𝓤 H 𝓛.laws C) (f : Callee) (met : Triple 𝓤 (C f) (callee.Known (core ∷ []) (fs ms) ps u16 𝓤 φ 𝓛))
      (κs : Lfts (suc (lifetimes ps))) (qs : Shares (suc (lifetimes ps))) (a : Args (seen ps).signature κs) where
    abbrev h : State
    h = a.0.now

    abbrev b : ℕ
    b = a.0.ref_ptr.0

    abbrev o : ℕ
    o = a.0.ref_ptr.1

    abbrev x : Data ps
    x = data_of (suc (lifetimes ps)) κs ps 1 (its ps) a.1

    abbrev τs : List Ty
    τs = tys ps 1

    abbrev vs : List Val
    vs = values ps x

    abbrev ρs : List Ty
    ρs = ref_tys (fs ms)

    abbrev tokens : Item 𝓤
    tokens = raw (toks 𝓛 (lifetimes ps) κs.1 qs.1)

    abbrev bound : (walk_of 𝓛 (seen ps) (stayed ps) (shows_it ps 𝓤 ψ)).Ghost
    bound = ((κs, qs, tt, a, (shr_vals a.0, lists (suc (lifetimes ps)) κs ps 1 (its ps) a.1)), tt)

    abbrev Post : Val → SProp 𝓤
    Post = (walk_of 𝓛 (seen ps) (stayed ps) (shows_it ps 𝓤 ψ)).post bound

    abbrev ended : ℕ → Val → List (Item 𝓤)
    ended r v =
        ‵ (flft κs.0 qs.0) ∷ tokens ∷ ‵ (hidden_shr T.the_row κs.0 h b o)
        ∷ ‵ (Had (suc (lifetimes ps)) κs ps 1 (its ps) a.1) ∷ ‵ (u16.own_val r (v ∷ [])) ∷ []

    ends : (r : ℕ) (v : Val) → ψ h x r → ent 𝓤 (⋆ 𝓛 (ended r v)) (Post v)
    ends r v e =
        qed 𝓛 (ended r v) ∵ suffices ! _ (ends_at 𝓛 (seen ps) (stayed ps) (shows_it ps 𝓤 ψ) bound v r
        (tt, none (suc (lifetimes ps)) κs ps 1 (its ps) a.1) (tt, none_fit (suc (lifetimes ps)) κs ps 1 (its ps) a.1)) $
        says ! e $ join ! $ frame ! $ feq_i ! (List Val) (shr_vals a.0) (shr_vals a.0) refl $ fjoin ! $ fjoin ! $ done !

    module _ (typed : Typed τs vs) (l₀ l₁ lₖ : ℕ) (bs : Blocks τs) (cs : Blocks ρs) where
      abbrev E₁ : Env 𝓤 H
      E₁ = (CO'.mir, lₖ) ∷ placed ρs cs []

      abbrev E : Env 𝓤 H
      E = (ty_int w16, l₀) ∷ (reference, l₁) ∷ placed τs bs E₁

      at_core : get_or E (the_core ms τs) (no_local 𝓤 H) ≡ (CO'.mir, lₖ)
      at_core = after_row τs bs E₁ 0 (no_local 𝓤 H)

      at_row : Stand E (no_local 𝓤 H) 2 τs bs
      at_row = shift (ty_int w16, l₀) ((reference, l₁) ∷ placed τs bs E₁) (no_local 𝓤 H) 1 τs bs (shift (reference, l₁) (placed τs bs E₁) (no_local 𝓤 H) 0 τs bs (stands τs bs E₁ (no_local 𝓤 H)))

      at_refs : Stand E (no_local 𝓤 H) (the_refs ms τs) ρs cs
      at_refs = shift (ty_int w16, l₀) ((reference, l₁) ∷ placed τs bs E₁) (no_local 𝓤 H) (suc (after τs 1)) ρs cs (shift (reference, l₁) (placed τs bs E₁) (no_local 𝓤 H) (after τs 1) ρs cs
          (stand_after τs bs E₁ (no_local 𝓤 H) 1 ρs cs (shift (CO'.mir, lₖ) (placed ρs cs []) (no_local 𝓤 H) 0 ρs cs (stands ρs cs [] (no_local 𝓤 H)))))

      runs_on : Sq 𝓛 (‵ (hidden_shr T.the_row κs.0 h b o) ∷ ‵ (flft κs.0 qs.0) ∷ row-cells τs vs bs ∷ rooms ρs cs ∷ ‵ (froom CO'.mir lₖ 0) ∷ ‵ (fdies CO'.mir lₖ) ∷ ‵ (fat full_share reference l₁ 0 (vptr b o)) ∷ ‵ (fdies reference l₁)
          ∷ ‵ (froom (ty_int w16) l₀ 0) ∷ ‵ (fdies (ty_int w16) l₀) ∷ tokens ∷ ‵ (Owned (suc (lifetimes ps)) κs ps 1 (its ps) a.1) ∷ [])
          (runs C Λ E (reading ms τs (suc (lifetimes ps)) f).body (at_ret E Post))
      runs_on =
          -- the borrow is looked into, and the core copied out
          looks ! tt T.the_row (LL.copied T.the_type T'.the_copy 𝓛).opens h b o (λ q ws. unit_spelt ! q h ws b o (λ g.
          use1 𝓛 (‵ (fat q T'.mir b o (val_t h))) (𝓛.laws.raw_at q T'.mir b o (val_t h)) $
          -- [a share of the unit's cell; what a Unit owns; what shuts it; what a `&` to it holds; the row at 4; room for the references; the core at 6; …; the
          -- reference at 8; …; the result at 10; …; the tokens at 12; what the parameters own]
          assigns ! (of_opd ! (load ! (from ! (hop ! (look ! 8 refl) (fld ! refl (stop !)))) (core_read ! q h.core (arrays_of h) b o))) (found ! at_core (stop !)) (init ! 6 refl
          ((LL.lawful CO.the_type CO'.the_laws 𝓛).typed h.core _ (core_of h g)).0) $
          -- the addresses are taken, and the call
          move ! (0 ∷ 12 ∷ 13 ∷ 5 ∷ 8 ∷ 4 ∷ []) $ lends_on ms (core ∷ []) ps u16 φ 𝓛 κs qs.1 a.1 typed b o (h.core, tt) ! fm met q (all_of_a_share (fs ms) same q) (core_of h g, tt) h g
          reference l₁ refl bs at_row (the_refs ms τs) cs at_refs (λ os. copy (place (the_core ms τs) []) ∷ os)
          (λ i₁ i₂ i₃ i₄ i₅ i₆ i₇ i₈ os ws' others. and_then ! (load ! (found ! at_core (stop !)) (look ! 11 refl)) others) (λ v r zs e is gs.
          -- [what the result owns; the unit's cell; the tokens; what is had; the references; the reference at 5; the row; what a Unit owns at 7; what shuts it; what
          -- a `&` to it holds; the core at 10; …; the result at 13; …]
          land ! (from ! (stop !)) (init ! 13 refl ((uint_Lawful 𝓛 w16).typed r _ is).0) $
          -- the borrow is shut
          rewrite ! 1 (λ (ls : Lists (fs ms)). ‵ (fat q T'.mir b o (val_t (make h.core (changed all_arrays ms (arrays_of h) ls)))))
          (after_same (fs ms) same (chosen all_arrays ms (arrays_of h)) zs) refl $
          rewrite ! 1 (λ (ls : Arrays). ‵ (fat q T'.mir b o (val_t (make h.core ls)))) (chosen_back all_arrays ms (arrays_of h)) refl $ move ! (1 ∷ 7 ∷ 8 ∷ []) $
          use1 𝓛 (‵ (cell_at q (T.the_row).mir (val_t h ∷ []) b o)) (𝓛.laws.at_raw q T'.mir b o (val_t h)) $
          shuts ! tt T.the_row q h (val_t h ∷ []) b o $
          -- [the token; what the result owns; the tokens; what is had; the references; the reference at 5; the row; what a `&` holds; the core at 8; …; the result
          -- at 11; …]
          returns ! (look ! 11 refl) $ forget ! 11 refl $ move ! (11 ∷ 12 ∷ []) $ free1 ! $ forget ! 5 refl $ move ! (5 ∷ 10 ∷ []) $ free1 ! $
          move ! (5 ∷ []) $ free_row ! τs vs bs E₁ typed $ forget ! 6 refl $ move ! (6 ∷ 7 ∷ []) $ free1 ! $ move ! (4 ∷ []) $
          free_row ! ρs (pointers (fs ms) b (at ms o) []) cs [] (pointers_typed (fs ms) b (at ms o)) $ free0 ! $
          keep ! (0 ∷ 2 ∷ 4 ∷ 3 ∷ 1 ∷ []) $ by ! (ends r v (tells h x r zs e)))))

    walk : Typed τs vs → ent 𝓤 (on_entry 𝓛 (seen ps).signature κs qs a bound.0.4)
        (WpFn 𝓤 H C Λ (reading ms τs (suc (lifetimes ps)) f) (vptr b o ∷ flat (Types (suc (lifetimes ps)) κs ps 1 (its ps)) bound.0.4.1) Post)
    walk typed =
        qed 𝓛 ((‵ (flft κs.0 qs.0) ⊛ tokens) ∷ ‵ (owns (ShrRef (named 0) κs.0 T.the_row ∷ Types (suc (lifetimes ps)) κs ps 1 (its ps)) a bound.0.4) ∷ []) ∵
        split ! $ move ! (2 ∷ []) $ fsplit ! $ move ! (2 ∷ 0 ∷ 3 ∷ 1 ∷ []) $
        regoal ! (λ (ws : List Val). prop (WpFn 𝓤 H C Λ (reading ms τs (suc (lifetimes ps)) f) (vptr b o ∷ ws) Post)) (in_a_row (suc (lifetimes ps)) κs ps 1 (its ps) a.1) refl $
        enter ! C Λ (reading ms τs (suc (lifetimes ps)) f) (vptr b o ∷ vs) Post $
        alloc1 ! (λ l₀. alloc1 ! (λ l₁. alloc_row ! τs (λ bs. alloc1 ! (λ lₖ. alloc_row ! ρs (λ cs. alloc0 ! $ params1 ! $
        -- [room for the references; the core; …; room for the row at 3; the reference at 4; …; the result at 6; …; the token; the shared reference; …]
        pass1 ! (init ! 4 refl (tt, tt)) $ move ! (3 ∷ []) $ pass_row ! τs vs bs (E₁ typed l₀ l₁ lₖ bs cs) typed $
        move ! (9 ∷ []) $ fsplit ! $ drop ! $ move ! (0 ∷ 9 ∷ []) $ runs_on typed l₀ l₁ lₖ bs cs)))))

pub reads : {M : Type 1} {𝓤 : Ura M} (𝓛 : Logic 𝓤) (𝓜 : Model 𝓤 𝓛.H) (𝓡 : Running 𝓤 𝓛.H 𝓜) (γ : Binds) (ms : List Mark) (ps : List Param)
    (φ : callee.Clause (core ∷ []) (fs ms) ps u16) (ψ : Shows ps) → AllShared (fs ms) → Tells ms ps φ ψ
    → (self f : Callee) (r : Routine)
    → γ f ≡ r
    → Triple 𝓤 (𝓡.run r) (callee.Known (core ∷ []) (fs ms) ps u16 𝓤 φ 𝓛)
    → Closed 𝓤 𝓛.H (tables 𝓤 𝓛.H 𝓜 𝓡 γ).C (tables 𝓤 𝓛.H 𝓜 𝓡 γ).Λ self (reading ms (tys ps 1) (suc (lifetimes ps)) f)
    → Triple 𝓤 ((tables 𝓤 𝓛.H 𝓜 𝓡 γ).C self) (Shown ps 𝓤 ψ 𝓛)
reads {𝓤 = 𝓤} 𝓛 𝓜 𝓡 γ ms ps φ ψ same tells self f r is met closed =
    let n = suc (lifetimes ps) in
    thin 𝓛 𝓜 𝓡 γ (seen ps) (stayed ps) (shows_it ps 𝓤 ψ) (reading ms (tys ps 1) n f) self f r (callee.Known (core ∷ []) (fs ms) ps u16 𝓤 φ 𝓛) is met
    -- what is lent comes back
    (Goes-none_ref 𝓛 n (0 ∷ []) tt (plain (λ _. T.the_row)) yes, all_go n 𝓛 ps 1 (its ps))
    (λ C Λ fm known. walked 𝓛 (seen ps) (stayed ps) (shows_it ps 𝓤 ψ) (WpFn 𝓤 𝓛.H C Λ (reading ms (tys ps 1) n f)) (λ κs. (shr_vals, spells n κs ps 1 (its ps)))
    (λ κs. (shr_Tells (named 0) κs.0 T.the_row, all_tell n κs ps 1 (its ps)))
    (λ κs qs bounds a g are. via 𝓤 _ (fst∗ 𝓤 _ (emp 𝓤)) (walk ms ps φ ψ tells same 𝓛 C Λ fm f known κs qs a
    (are_typed n κs ps 1 (its ps) a.1 are.1)))) closed
