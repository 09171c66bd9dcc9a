-- A function that is passed small values, arrays that are lent to it, and other parameters: its contract, and a call of it by a function that has a share of a
-- struct. The arrays' cells are lent for the call and come back at their last lists.
use mathlib.Core.Path.{◌≡◌, refl, ap, ◌∙◌, sym, subst}
use Prim.Native.Nat.{ℕ, zero}
use mathlib.Core.List.{[], ◌∷◌, List}
use seplogic.Ra.Ura.{Ura}
use mir.Syntax.{Callee, Opd as Operand, Place, Body as Code, seq, call}
use mir.Val.{Val}
use base.Logic.{ent, sep, emp, id⊢}
use base.Fml.{Fml, Share, fsep}
use prog.Wp.{Env, Calls, Loops}
use types.Logic.{Logic, sem}
use contract.Monad.{fact}
use contract.Lifetimes.{Lfts, Shares, toks}
use sound.WpLaws.{FmC}
use types.Kit.{Item, Seq, Post as Aim, runs, lands, ‵, raw, some, later, ◌⊛◌, mean, ◌$◌, ◌∵◌, !, qed, move, use1, use2, recast, split, join, fsplit, await, pick, rewrite, drop, done}
use types.Run.{Opds}
use denote.RattleType.{RattleType, Denots, owns}
use denote.Laws.{Is, shows}
use denote.Signature.{Slot, plain, types_at}
use denote.Steps.{peeks, heard, nothing}
use denote.Triple.Statement.{Contract, Triple}
use denote.Triple.Call.{calls_at}
use denote.Triple.End.{all, lasts_of}
use denote.Triple.Spec.{triple_of}
use denote.Triple.Clauses.{Ended, Clauses, closing, ensured, Lasts, lasts, at_exit}
use denote.Exit.{yes}
use Rattle.lend.proofs.Copied as small
use Rattle.lend.proofs.Copied.{Small, Values, copied, Are}
use Rattle.lend.proofs.Loans as loan
use Rattle.lend.proofs.Loans.{Loan, Lists, Sounds, AllFit, Offsets, Names, count, lfts, shares, others, others_are, pointers, cells, tokens, lenders, Changes, after, changes, lends_all, backs_all}
use Rattle.lend.proofs.Params.{Param, lifetimes, Data, values, Picks, slots, Types, data_of, args_of, data_args, lists, in_a_row, Owned, Had, handed_on, same_owned}

module _ (cs : List Small) (fs : List Loan) (ps : List Param) (R : RattleType) where
  -- the lifetimes: one for each loan, then those of the other parameters
  abbrev all_lfts : ℕ
  all_lfts = count fs (lifetimes ps)

  abbrev its : Picks all_lfts ps
  its κs = others fs (lifetimes ps) κs

  abbrev given_slots : List (Slot all_lfts)
  given_slots = slots all_lfts ps (count fs zero) its

  abbrev lent_slots : List (Slot all_lfts)
  lent_slots = loan.slots_on all_lfts (lifetimes ps) fs zero (λ κs. κs) given_slots

  abbrev lending : Ended
  lending = record {
    signature = record { lifetimes = all_lfts; outlives = []; params = small.slots_on all_lfts cs lent_slots; result = plain (λ _. R) };
    kept = all yes (small.slots_on all_lfts cs lent_slots);
  }

  -- what a contract says: of the small values, the lists on entry, the data, the result, and the lists at exit
  abbrev pub Clause : Type 1
  Clause = Values cs → Lists fs → Data ps → R.Denot → Lists fs → Type 0

  module _ {M : Type 1} (𝓤 : Ura M) (φ : Clause) where
    abbrev says : Clauses 𝓤 lending
    says κs a =
        let rest = small.after_args all_lfts lent_slots κs cs a in
        record {
          ghost = Unit {0};
          requires = λ _. emp 𝓤;
          ensures = λ _ r end. fact 𝓤 (φ (small.values_of all_lfts lent_slots κs cs a) (loan.nows all_lfts (lifetimes ps) given_slots κs fs zero (λ μs. μs) rest)
              (data_of all_lfts κs ps (count fs zero) its (loan.after_args all_lfts (lifetimes ps) given_slots κs fs zero (λ μs. μs) rest)) r
              (loan.seens all_lfts (lifetimes ps) given_slots κs fs zero (λ μs. μs) (small.after_outs all_lfts lent_slots κs cs end)));
        }

    module _ (𝓛 : Logic 𝓤) where
      open 𝓛 use {H, A}

      abbrev pub Known : Contract 𝓤
      Known = triple_of 𝓛 lending.signature (closing 𝓛 lending says)

      -- the call, by a function with the lifetimes κs₀, of which `pick` picks those of the other parameters, and their arguments a
      module _ (n₀ : ℕ) (κs₀ : Lfts n₀) (j₀ : ℕ) (pick₀ : Picks n₀ ps) (qs : Shares (lifetimes ps)) (a : Denots (Types n₀ κs₀ ps j₀ pick₀))
          (b : ℕ) (at : Offsets fs) (xs : Values cs) (ls : Lists fs) where
        abbrev x : Data ps
        x = data_of n₀ κs₀ ps j₀ pick₀ a

        -- what the other parameters own
        abbrev P : Fml
        P = Owned (lifetimes ps) (pick₀ κs₀) ps zero (λ μs. μs) (args_of (lifetimes ps) (pick₀ κs₀) ps zero (λ μs. μs) x)

        module _ (ns : Names fs) where
          abbrev κs : Lfts all_lfts
          κs = lfts fs (lifetimes ps) ns (pick₀ κs₀)

          abbrev given_args : Denots (types_at {n = all_lfts} given_slots κs)
          given_args = args_of all_lfts κs ps (count fs zero) its x

          abbrev lent_args : Denots (types_at {n = all_lfts} lent_slots κs)
          lent_args = loan.args_on all_lfts (lifetimes ps) given_slots κs fs zero (λ μs. μs) ns b at ls given_args

          abbrev bound : Known.Ghost
          bound = (
            (
              κs,
              shares fs (lifetimes ps) qs,
              tt,
              small.args_on all_lfts lent_slots κs cs xs lent_args,
              small.valss_on all_lfts lent_slots κs cs xs (loan.valss_on all_lfts (lifetimes ps) given_slots κs fs zero (λ μs. μs) b at
                  (lists all_lfts κs ps (count fs zero) its given_args)),
            ),
            tt,
          )

          passed : Known.args bound ≡ copied cs xs (pointers fs b at (values ps x))
          passed =
              small.flat_on all_lfts lent_slots κs cs xs _
              ∙ ap (copied cs xs) (loan.flat_on all_lfts (lifetimes ps) given_slots κs fs zero (λ μs. μs) b at _
              ∙ ap (pointers fs b at) (in_a_row all_lfts κs ps (count fs zero) its given_args ∙ ap (values ps) (data_args all_lfts κs ps (count fs zero) its x)))

          toks_are : (gs : List Loan) (ms : Names gs)
              → mean 𝓛 (tokens gs ms (raw (toks 𝓛 (lifetimes ps) (pick₀ κs₀) qs)))
              ≡ toks 𝓛 (count gs (lifetimes ps)) (lfts gs (lifetimes ps) ms (pick₀ κs₀)) (shares gs (lifetimes ps) qs)
          toks_are [] ms = refl
          toks_are (g ∷ gs) ms = ap (sep 𝓤 (A.lft (ms.0.0 ∷ []) _)) (toks_are gs ms.1)

          owned_are : loan.Owned fs ns b at ls P ≡ owns (types_at {n = all_lfts} lent_slots κs) lent_args
              (loan.valss_on all_lfts (lifetimes ps) given_slots κs fs zero (λ μs. μs) b at (lists all_lfts κs ps (count fs zero) its given_args))
          owned_are =
              ap (loan.Owned fs ns b at ls) (same_owned (lifetimes ps) all_lfts (pick₀ κs₀) κs ps zero (count fs zero) (λ μs. μs) its
              (sym (others_are fs (lifetimes ps) ns (pick₀ κs₀))) x)
              ∙ loan.owned_on all_lfts (lifetimes ps) given_slots κs b given_args fs zero (λ μs. μs) ns at ls (lists all_lfts κs ps (count fs zero) its given_args) (pick₀ κs₀) refl

          ready : Are cs xs → ent 𝓤 (sep 𝓤 (mean 𝓛 (tokens fs ns (raw (toks 𝓛 (lifetimes ps) (pick₀ κs₀) qs)))) (sem 𝓛 (loan.Owned fs ns b at ls P)))
              (Known.pre bound)
          ready gs =
              qed 𝓛 (tokens fs ns (raw (toks 𝓛 (lifetimes ps) (pick₀ κs₀) qs)) ∷ ‵ (loan.Owned fs ns b at ls P) ∷ []) ∵
              rewrite ! 1 (λ (F : Fml). ‵ F) owned_are refl $ move ! (1 ∷ []) $
              use1 𝓛 (‵ (owns (types_at {n = all_lfts} (small.slots_on all_lfts cs lent_slots) κs) bound.0.3 bound.0.4))
              (small.owned_on all_lfts lent_slots κs lent_args 𝓛 cs xs gs _) $ move ! (1 ∷ []) $
              recast 𝓛 (raw (toks 𝓛 all_lfts κs (shares fs (lifetimes ps) qs))) (toks_are fs ns) $ join ! $ nothing ! $ move ! (1 ∷ 0 ∷ []) $ done !

          -- what the callee says, at last values ws, in the caller's terms
          abbrev lent_ends : Lasts lending κs bound.0.3 → loan.Bound all_lfts (lifetimes ps) given_slots κs b given_args fs zero (λ μs. μs) ns at ls
          lent_ends ws = small.after_ends all_lfts lent_slots κs lent_args cs xs ws

          abbrev zs : Lasts lending κs bound.0.3 → Changes fs
          zs ws = changes fs ns b at ls (loan.ends_on all_lfts (lifetimes ps) given_slots κs b given_args fs zero (λ μs. μs) ns at ls (lent_ends ws))

          abbrev Said : R.Denot → Lasts lending κs bound.0.3 → Type 0
          Said r ws =
              let rest = small.after_args all_lfts lent_slots κs cs bound.0.3 in
              φ (small.values_of all_lfts lent_slots κs cs bound.0.3) (loan.nows all_lfts (lifetimes ps) given_slots κs fs zero (λ μs. μs) rest)
              (data_of all_lfts κs ps (count fs zero) its (loan.after_args all_lfts (lifetimes ps) given_slots κs fs zero (λ μs. μs) rest)) r
              (loan.seens all_lfts (lifetimes ps) given_slots κs fs zero (λ μs. μs) (small.after_outs all_lfts lent_slots κs cs (at_exit lending κs bound.0.3 ws)))

          rest_is : small.after_args all_lfts lent_slots κs cs bound.0.3 ≡ lent_args
          rest_is = small.after_are all_lfts lent_slots κs lent_args cs xs

          lists_are : loan.nows all_lfts (lifetimes ps) given_slots κs fs zero (λ μs. μs) (small.after_args all_lfts lent_slots κs cs bound.0.3) ≡ ls
          lists_are =
              ap (loan.nows all_lfts (lifetimes ps) given_slots κs fs zero (λ μs. μs)) rest_is
              ∙ loan.nows_are all_lfts (lifetimes ps) given_slots κs fs zero (λ μs. μs) ns b at ls given_args

          data_is : data_of all_lfts κs ps (count fs zero) its (loan.after_args all_lfts (lifetimes ps) given_slots κs fs zero (λ μs. μs)
              (small.after_args all_lfts lent_slots κs cs bound.0.3)) ≡ x
          data_is =
              ap (data_of all_lfts κs ps (count fs zero) its) (ap (loan.after_args all_lfts (lifetimes ps) given_slots κs fs zero (λ μs. μs)) rest_is
              ∙ loan.after_are all_lfts (lifetimes ps) given_slots κs fs zero (λ μs. μs) ns b at ls given_args) ∙ data_args all_lfts κs ps (count fs zero) its x

          last_are : (ws : Lasts lending κs bound.0.3)
              → loan.seens all_lfts (lifetimes ps) given_slots κs fs zero (λ μs. μs) (small.after_outs all_lfts lent_slots κs cs (at_exit lending κs bound.0.3 ws)) ≡ after fs ls (zs ws)
          last_are ws =
              ap (loan.seens all_lfts (lifetimes ps) given_slots κs fs zero (λ μs. μs)) (small.outs_are all_lfts lent_slots κs lent_args cs xs ws)
              ∙ loan.seens_are all_lfts (lifetimes ps) given_slots κs b given_args fs zero (λ μs. μs) ns at ls (lent_ends ws)

          told : (r : R.Denot) (ws : Lasts lending κs bound.0.3) → Said r ws → φ xs ls x r (after fs ls (zs ws))
          told r ws e =
              subst (λ (X : Type 0). X) (λ i. φ (small.values_are all_lfts lent_slots κs lent_args cs xs i) (lists_are i) (data_is i) r (last_are ws i)) e

        module _ {K : Type 0} {Γ : List (Item 𝓤)} {E : Env 𝓤 H} {C : Calls 𝓤 H} {Λ : Loops 𝓤 H} {aim : Aim 𝓤 H} {f : Callee} {os : List Operand} {d : Place} {rest : Code} where
          pub calls_lending : K → FmC 𝓤 H 𝓛.laws C → Triple 𝓤 (C f) Known → (q : Share) → AllFit q fs → Are cs xs → Sounds fs ls
              → ((i j k : Item 𝓤) → Opds K 𝓛 (i ∷ j ∷ k ∷ Γ) E os (copied cs xs (pointers fs b at (values ps x))))
              → ((v : Val) (r : R.Denot) (ys : Changes fs) → φ xs ls x r (after fs ls ys) → Is R r (v ∷ []) → Sounds fs (after fs ls ys)
              → Seq K 𝓛 (‵ (R.own_val r (v ∷ [])) ∷ cells q fs b at (after fs ls ys) ∷ raw (toks 𝓛 (lifetimes ps) (pick₀ κs₀) qs) ∷ ‵ (Had n₀ κs₀ ps j₀ pick₀ a) ∷ Γ) (lands C Λ E d v rest aim))
              → Seq K 𝓛 (cells q fs b at ls ∷ raw (toks 𝓛 (lifetimes ps) (pick₀ κs₀) qs) ∷ ‵ (Owned n₀ κs₀ ps j₀ pick₀ a) ∷ Γ) (runs C Λ E (seq (call f os d) rest) aim)
          calls_lending t fm met q fit are sound operands next =
              move t (2 ∷ []) $ use1 𝓛 (‵ (fsep P (Had n₀ κs₀ ps j₀ pick₀ a))) (handed_on 𝓛 n₀ (lifetimes ps) κs₀ (pick₀ κs₀) ps j₀ zero pick₀ (λ μs. μs) refl a) $ fsplit t $
              move t (2 ∷ 3 ∷ 0 ∷ []) $ lends_all t tt q fs fit b at ls sound (λ ns.
              -- [the tokens; what the arguments own; the lenders' parts; what is had of the others]
              use2 𝓛 (raw (Known.pre (bound ns))) (ready ns are) $
              calls_at t fm Known met (bound ns) (subst (λ (us : List Val). Opds K 𝓛 (raw (Known.pre (bound ns)) ∷ lenders q fs ns b at ls ∷ ‵ (Had n₀ κs₀ ps j₀ pick₀ a) ∷ Γ) E os us) (sym (passed ns))
              (operands (raw (Known.pre (bound ns))) (lenders q fs ns b at ls) (‵ (Had n₀ κs₀ ps j₀ pick₀ a)))) (λ v.
              use1 𝓛 (later (some (λ (r : R.Denot). (raw (toks 𝓛 all_lfts (κs ns) (shares fs (lifetimes ps) qs)) ⊛ ‵ (R.own_val r (v ∷ [])))
              ⊛ raw (ensured 𝓛 lending says (κs ns) (bound ns).0.3 tt r)))) (id⊢ 𝓤 _) $ await t tt $ pick t (λ r. split t $ move t (1 ∷ []) $
              use1 𝓛 (some (λ (ws : Lasts lending (κs ns) (bound ns).0.3). ‵ (lasts lending (κs ns) (bound ns).0.3 ws) ⊛ raw (fact 𝓤 (Said ns r ws)))) (id⊢ 𝓤 _) $ pick t (λ ws.
              split t $ move t (1 ∷ []) $ heard t (Said ns r ws) (λ e.
              -- [what is said of the last values; the tokens and the result; the lenders' parts; …]
              use1 𝓛 (‵ (lasts_of (κs ns) lent_slots (all yes lent_slots) (lent_args ns) (lent_ends ns ws))) (small.left_on all_lfts lent_slots (κs ns) (lent_args ns) 𝓛 cs xs ws) $
              rewrite t 0 (λ (F : Fml). ‵ F) (loan.left_on all_lfts (lifetimes ps) given_slots (κs ns) b (given_args ns) fs zero (λ μs. μs) ns at ls (lent_ends ns ws) (pick₀ κs₀) refl) refl $
              move t (1 ∷ []) $ split t $ recast 𝓛 (tokens fs ns (raw (toks 𝓛 (lifetimes ps) (pick₀ κs₀) qs))) (sym (toks_are ns fs ns)) $ move t (0 ∷ 3 ∷ 2 ∷ []) $
              backs_all t tt q fs fit b at ls ns (loan.ends_on all_lfts (lifetimes ps) given_slots (κs ns) b (given_args ns) fs zero (λ μs. μs) ns at ls (lent_ends ns ws)) (λ gs.
              -- [the cells; the tokens; what is said of the others; the result; what is had of the others]
              move t (2 ∷ []) $ drop t $ move t (2 ∷ []) $ peeks t R (Is R) (shows 𝓛 R) r (v ∷ []) (λ is. next v r (zs ns ws) (told ns r ws e) is gs)))))))
