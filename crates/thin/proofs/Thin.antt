-- A function that calls one other: it meets its contract if its walk goes through wherever that one meets its own. And a step of such a walk, where the function
-- is lent a unit: the unit is spelt out.
use mathlib.Core.Path.{◌≡◌}
use Prim.Native.Nat.{ℕ}
use mathlib.Core.List.{[], ◌∷◌, List}
use seplogic.Ra.Ura.{Ura}
use mir.Syntax.{Fn}
use mir.Val.{Val}
use base.Fml.{Share}
use prog.Model.{Model}
use prog.Routine.{Callee, Routine, Env}
use prog.Wp.{Calls, Loops, WpFn, Closed}
use types.Logic.{Logic}
use contract.Running.{Running, tables, tables_of}
use types.Kit.{Item, Goal, Seq, ‵, ◌$◌, move}
use sound.WpLaws.{FmC, fm_of, WpFn-mono}
use denote.Laws.{Is, shows}
use denote.Memory.{cell_at}
use denote.Steps.{peeks}
use denote.Struct.Steps.{spelt}
use denote.Struct.Laws as LL
use denote.Triple.Statement.{Contract, Triple}
use denote.Triple.Spec.{triple_of}
use denote.Triple.Clauses.{Ended, Clauses, closing}
use denote.Triple.Table.{entered, cited}
use denote.Triple.Walked.{Stays, AllGo, Walks, walk_Meets}
use Rattle.state.specs.declared.Unit.{Unit as State}
use Rattle.state.specs.contracts.Unit as T
use Rattle.state.proofs.Unit.TheLaws as T'
use Rattle.thin.proofs.Lent.{val_t}

pub thin : {M : Type 1} {𝓤 : Ura M} (𝓛 : Logic 𝓤) (𝓜 : Model 𝓤 𝓛.H) (𝓡 : Running 𝓤 𝓛.H 𝓜) (γ : Env)
    (T : Ended) (hs : Stays T.signature.params T.kept) (c : Clauses 𝓤 T) (function : Fn) (self callee : Callee) (r : Routine) (known : Contract 𝓤)
    → γ callee ≡ r
    → Triple 𝓤 (𝓡.run r) known
    → AllGo 𝓛 T.signature.lifetimes T.signature.params T.kept hs
    → ((C : Calls 𝓤 𝓛.H) (Λ : Loops 𝓤 𝓛.H) → FmC 𝓤 𝓛.H 𝓛.laws C → Triple 𝓤 (C callee) known → Walks 𝓛 T hs (WpFn 𝓤 𝓛.H C Λ function) c)
    → Closed 𝓤 𝓛.H (tables 𝓤 𝓛.H 𝓜 𝓡 γ).C (tables 𝓤 𝓛.H 𝓜 𝓡 γ).Λ self function
    → Triple 𝓤 ((tables 𝓤 𝓛.H 𝓜 𝓡 γ).C self) (triple_of 𝓛 T.signature (closing 𝓛 T c))
unfolding tables_of
thin {𝓤 = 𝓤} 𝓛 𝓜 𝓡 γ T hs c function self callee r known is met goes walks closed =
    let 𝓣 = tables 𝓤 𝓛.H 𝓜 𝓡 γ in
    entered 𝓤 𝓛.H (triple_of 𝓛 T.signature (closing 𝓛 T c)) 𝓣.C 𝓣.Λ self function closed
    (walk_Meets 𝓛 T hs goes c (WpFn 𝓤 𝓛.H 𝓣.C 𝓣.Λ function) (WpFn-mono 𝓤 𝓛.H 𝓛.laws (tables_of 𝓤 𝓛.H 𝓜 𝓣) function)
    (walks 𝓣.C 𝓣.Λ (fm_of 𝓤 𝓛.H 𝓛.laws (tables_of 𝓤 𝓛.H 𝓜 𝓣)) (cited 𝓤 𝓛.H known 𝓜 𝓡 γ callee r is met)))

module _ {M : Type 1} {𝓤 : Ura M} {𝓛 : Logic 𝓤} {K : Type 0} {Γ : List (Item 𝓤)} where
  -- once a borrow is opened or looked into: the unit in memory is its machine value
  open 𝓛 use {H}

  pub unit_spelt : K → {G : Goal 𝓤 H} (q : Share) (h : State) (vs : List Val) (b o : ℕ)
      → (Is T.the_row h (val_t h ∷ []) → Seq K 𝓛 (‵ (cell_at q (T.the_row).mir (val_t h ∷ []) b o) ∷ ‵ ((T.the_row).own_val h (val_t h ∷ [])) ∷ Γ) G)
      → Seq K 𝓛 (‵ (cell_at q (T.the_row).mir vs b o) ∷ ‵ ((T.the_row).own_val h vs) ∷ Γ) G
  unit_spelt t q h vs b o k =
      spelt t T.the_row (Is T.the_row) (shows 𝓛 T.the_row) (LL.vals T.the_type T'.the_laws) (LL.tells T.the_type T'.the_laws) q h vs b o $
      move t (1 ∷ []) $ peeks t T.the_row (Is T.the_row) (shows 𝓛 T.the_row) h (val_t h ∷ []) (λ g. move t (1 ∷ 0 ∷ []) $ k g)
