-- A function that is lent a unit, `&mut`, beside other parameters, and returns a value of type R: its signature and contract, how a walk of it ends, and that it
-- meets its contract if its walk goes through wherever the function that it calls meets its own.
use mathlib.Core.Path.{◌≡◌, refl}
use Prim.Native.Nat.{suc}
use mathlib.Core.List.{[], ◌∷◌, List}
use seplogic.Ra.Ura.{Ura}
use mir.Syntax.{Fn, Callee, Ty, ty_ref, mut, named}
use mir.Val.{Val, vptr}
use base.Logic.{SProp, ent, emp, via, fst∗}
use base.Fml.{flft, fobs, fbor}
use prog.Model.{Model}
use prog.Routine.{Routine, Env}
use prog.Wp.{Calls, Loops, WpFn, Closed}
use types.Logic.{Logic}
use contract.Monad.{fact}
use contract.Lifetimes.{Lfts, Shares, toks}
use contract.Running.{Running, tables}
use types.Kit.{Item, prop, regoal, ‵, raw, ◌⊛◌, ⋆, ◌$◌, ◌∵◌, !, qed, by, move, split, join, fsplit, fjoin, fjoin3, feq_i, suffices, frame, done}
use types.SemTy.{Body}
use sound.WpLaws.{FmC}
use denote.RattleType.{RattleType, owns}
use denote.Laws.{Typed}
use denote.Memory.{mem, pointee}
use denote.Ref.{MutRef, mut_vals, mut_Tells}
use denote.Signature.{plain, mut_ref_to}
use denote.Triple.Statement.{Contract, Triple}
use denote.Triple.Entry.{Args}
use denote.Triple.End.{all}
use denote.Triple.Spec.{triple_of}
use denote.Triple.Clauses.{Ended, Clauses, closing}
use denote.Triple.Walked.{says, Stays, stay_ref, walk_of, AllGo, Goes-ref, Walks, ends_at, walked}
use denote.Exit.{yes}
use Rattle.lend.proofs.Params.{Param, lifetimes, Data, values, tys, Picks, slots, stays, all_go, Types, spells, all_tell, none, none_fit, data_of, lists, in_a_row, are_typed, Owned, Had}
use Rattle.state.specs.declared.Unit.{Unit as State}
use Rattle.state.specs.contracts.Unit as T
use Rattle.thin.proofs.Thin.{thin}

-- the type of the reference to the unit
abbrev pub reference : Ty
reference = ty_ref (named 0) mut (pointee (T.the_row).written)

-- the other parameters have the lifetimes after the unit's
abbrev pub its : (ps : List Param) → Picks (suc (lifetimes ps)) ps
its ps κs = κs.1

module _ (ps : List Param) (R : RattleType) where
  abbrev pub lent : Ended
  lent = record {
    signature = record {
      lifetimes = suc (lifetimes ps);
      outlives = [];
      params = mut_ref_to (0 ∷ []) tt (plain (λ _. T.the_row)) ∷ slots (suc (lifetimes ps)) ps 1 (its ps);
      result = plain (λ _. R);
    };
    kept = all yes (mut_ref_to (0 ∷ []) tt (plain (λ _. T.the_row)) ∷ slots (suc (lifetimes ps)) ps 1 (its ps));
  }

  abbrev stayed : Stays lent.signature.params lent.kept
  stayed = (stay_ref (0 ∷ []) tt (plain (λ _. T.the_row)), stays (suc (lifetimes ps)) ps 1 (its ps))

  -- what its contract says of the unit before, the data, the result, and the unit after
  abbrev pub Clause : Type 1
  Clause = State → Data ps → R.Denot → State → Type 0

  module _ {M : Type 1} (𝓤 : Ura M) (ψ : Clause) where
    abbrev leads : Clauses 𝓤 lent
    leads κs a = record {
      ghost = Unit {0};
      requires = λ _. emp 𝓤;
      ensures = λ _ r end. fact 𝓤 (ψ a.0.now (data_of (suc (lifetimes ps)) κs ps 1 (its ps) a.1) r end.0.now);
    }

    module _ (𝓛 : Logic 𝓤) where
      open 𝓛 use {H}

      abbrev pub Shown : Contract 𝓤
      Shown = triple_of 𝓛 lent.signature (closing 𝓛 lent leads)

      -- at one choice of what the triple binds outside
      module _ (κs : Lfts (suc (lifetimes ps))) (qs : Shares (suc (lifetimes ps))) (a : Args lent.signature κs) where
        abbrev pub x : Data ps
        x = data_of (suc (lifetimes ps)) κs ps 1 (its ps) a.1

        abbrev at : (walk_of 𝓛 lent stayed leads).Ghost
        at = ((κs, qs, tt, a, (mut_vals a.0, lists (suc (lifetimes ps)) κs ps 1 (its ps) a.1)), tt)

        abbrev pub Post : Val → SProp 𝓤
        Post = (walk_of 𝓛 lent stayed leads).post at

        -- what a walk begins with
        abbrev pub begun : List (Item 𝓤)
        begun =
            ‵ (flft κs.0 qs.0) ∷ ‵ ((MutRef (named 0) κs.0 T.the_row).own_val a.0 (vptr a.0.ref_ptr.0 a.0.ref_ptr.1 ∷ []))
            ∷ raw (toks 𝓛 (lifetimes ps) κs.1 qs.1) ∷ ‵ (Owned (suc (lifetimes ps)) κs ps 1 (its ps) a.1) ∷ []

        -- and with what it ends, where the machine value v of a result r has been returned and the unit is h
        abbrev pub ended : State → R.Denot → Val → List (Item 𝓤)
        ended h r v =
            ‵ (fobs a.0.ghost_name ((T.the_row).coded.code h)) ∷ ‵ (fbor κs.0 (Body (mem T.the_row) a.0.ref_ptr.0 a.0.ref_ptr.1 a.0.ghost_name))
            ∷ ‵ (flft κs.0 qs.0) ∷ raw (toks 𝓛 (lifetimes ps) κs.1 qs.1) ∷ ‵ (Had (suc (lifetimes ps)) κs ps 1 (its ps) a.1)
            ∷ ‵ (R.own_val r (v ∷ [])) ∷ []

        pub ends : (h : State) (r : R.Denot) (v : Val) → ψ a.0.now x r h → ent 𝓤 (⋆ 𝓛 (ended h r v)) (Post v)
        ends h r v e =
            qed 𝓛 (ended h r v) ∵ suffices ! _ (ends_at 𝓛 lent stayed leads at v r
            (h, none (suc (lifetimes ps)) κs ps 1 (its ps) a.1) (tt, none_fit (suc (lifetimes ps)) κs ps 1 (its ps) a.1)) $
            says ! e $ move ! (2 ∷ 3 ∷ []) $ join ! $ frame ! $ feq_i ! (List Val) (mut_vals a.0) (mut_vals a.0) refl $ fjoin3 ! $ fjoin ! $ done !

        abbrev pub Runs : Calls 𝓤 H → Loops 𝓤 H → Fn → SProp 𝓤
        Runs C Λ f = WpFn 𝓤 H C Λ f (vptr a.0.ref_ptr.0 a.0.ref_ptr.1 ∷ values ps x) Post

      module _ where
        -- what is lent comes back
        goes : AllGo 𝓛 (suc (lifetimes ps)) lent.signature.params lent.kept stayed
        goes = (Goes-ref 𝓛 (suc (lifetimes ps)) 0 tt (plain (λ _. T.the_row)), all_go (suc (lifetimes ps)) 𝓛 ps 1 (its ps))

        walks : (f : Fn) (C : Calls 𝓤 H) (Λ : Loops 𝓤 H)
            → ((κs : Lfts (suc (lifetimes ps))) (qs : Shares (suc (lifetimes ps))) (a : Args lent.signature κs) → Typed (tys ps 1) (values ps (x κs qs a))
            → ent 𝓤 (⋆ 𝓛 (begun κs qs a)) (Runs κs qs a C Λ f))
            → Walks 𝓛 lent stayed (WpFn 𝓤 H C Λ f) leads
        walks f C Λ go = walked 𝓛 lent stayed leads (WpFn 𝓤 H C Λ f)
            (λ κs. (mut_vals, spells (suc (lifetimes ps)) κs ps 1 (its ps)))
            (λ κs. (mut_Tells (named 0) κs.0 T.the_row, all_tell (suc (lifetimes ps)) κs ps 1 (its ps)))
            (λ κs qs bounds a g are. via 𝓤 _ (fst∗ 𝓤 _ (emp 𝓤))
            (qed 𝓛 ((‵ (flft κs.0 qs.0) ⊛ raw (toks 𝓛 (lifetimes ps) κs.1 qs.1))
            ∷ ‵ (owns (MutRef (named 0) κs.0 T.the_row ∷ Types (suc (lifetimes ps)) κs ps 1 (its ps)) a (at κs qs a).0.4) ∷ []) ∵
            split ! $ move ! (2 ∷ []) $ fsplit ! $ move ! (2 ∷ 0 ∷ 3 ∷ 1 ∷ []) $
            regoal ! (λ (vs : List Val). prop (WpFn 𝓤 H C Λ f (vptr a.0.ref_ptr.0 a.0.ref_ptr.1 ∷ vs) (Post κs qs a)))
            (in_a_row (suc (lifetimes ps)) κs ps 1 (its ps) a.1) refl $ by !
            (go κs qs a (are_typed (suc (lifetimes ps)) κs ps 1 (its ps) a.1 are.1))))

  pub exported : {M : Type 1} {𝓤 : Ura M} (𝓛 : Logic 𝓤) (𝓜 : Model 𝓤 𝓛.H) (𝓡 : Running 𝓤 𝓛.H 𝓜) (γ : Env) (ψ : Clause) (f : Fn)
      (self callee : Callee) (r : Routine) (known : Contract 𝓤)
      → γ callee ≡ r
      → Triple 𝓤 (𝓡.run r) known
      → ((C : Calls 𝓤 𝓛.H) (Λ : Loops 𝓤 𝓛.H) → FmC 𝓤 𝓛.H 𝓛.laws C → Triple 𝓤 (C callee) known
      → (κs : Lfts (suc (lifetimes ps))) (qs : Shares (suc (lifetimes ps))) (a : Args lent.signature κs) → Typed (tys ps 1) (values ps (x 𝓤 ψ 𝓛 κs qs a))
      → ent 𝓤 (⋆ 𝓛 (begun 𝓤 ψ 𝓛 κs qs a)) (Runs 𝓤 ψ 𝓛 κs qs a C Λ f))
      → Closed 𝓤 𝓛.H (tables 𝓤 𝓛.H 𝓜 𝓡 γ).C (tables 𝓤 𝓛.H 𝓜 𝓡 γ).Λ self f
      → Triple 𝓤 ((tables 𝓤 𝓛.H 𝓜 𝓡 γ).C self) (Shown 𝓤 ψ 𝓛)
  exported {𝓤 = 𝓤} 𝓛 𝓜 𝓡 γ ψ f self callee r known is met go closed =
      thin 𝓛 𝓜 𝓡 γ lent stayed (leads 𝓤 ψ) f self callee r known is met (goes 𝓤 ψ 𝓛)
      (λ C Λ fm known-met. walks 𝓤 ψ 𝓛 f C Λ (go C Λ fm known-met)) closed
