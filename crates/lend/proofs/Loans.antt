-- Several arrays of one lent struct, each lent for a lifetime of its own to one call: their cells, side by side, are lent, and come back at their last lists.
-- And the call's signature: the slots of these parameters, before any others.
use mathlib.Core.Path.{◌≡◌, refl, ap, ◌∙◌, sym}
use Prim.Native.Nat.{ℕ, suc}
use mathlib.Core.List.{[], ◌∷◌, List}
use seplogic.Ra.Ura.{Ura}
use mir.Syntax.{Ty, named, erased}
use mir.Val.{Val, vptr}
use base.Fraction.{full_share}
use base.Fml.{Fml, Lft, Share, ftrue, fsep, flft}
use types.Logic.{Logic}
use contract.Lifetimes.{Lfts, Shares}
use types.Kit.{Item, Goal, Seq, Soaks, ‵, ◌⊛◌, ◌$◌, move, split, join, fsplit, fjoin}
use denote.RattleType.{RattleType, Denots, Valss, flat, owns}
use denote.Signature.{Slot, plain, types_at}
use denote.Triple.End.{Fins, Outs, outs, lasts_of, all}
use denote.Exit.{yes}
use Rattle.lend.proofs.Loan.{Stretch, Row, Elements, Sound, cell, Mode, Ghost, now, owns_as, ref_ty, Ref, LastOf, last, leaving, left_leaving, seen, Fits, whole_fits, lender, to, to_now, Change, settled, change, seen_settled, Shared, settled_same, shared_fits, lends, backs}

pub record Loan : Type 2 where
  pub mode : Mode
  pub stretch : Stretch

-- the lists; what is known of them; and whether a share of the struct is enough
abbrev pub Lists : List Loan → Type 0
Lists [] = Unit {0}
Lists (f ∷ fs) = Elements f.stretch × Lists fs

abbrev pub Sounds : (fs : List Loan) → Lists fs → Type 0
Sounds [] ls = Unit {0}
Sounds (f ∷ fs) ls = Sound f.stretch ls.0 × Sounds fs ls.1

abbrev pub AllFit : Share → List Loan → Type 0
AllFit q [] = Unit {0}
AllFit q (f ∷ fs) = Fits f.mode q × AllFit q fs

pub all_of_the_whole : (fs : List Loan) → AllFit full_share fs
all_of_the_whole [] = tt
all_of_the_whole (f ∷ fs) = (whole_fits f.mode, all_of_the_whole fs)

-- where each lies in the struct's block; and the lifetime of each reference, with the ghost name if it is a `&mut`
abbrev pub Offsets : List Loan → Type 0
Offsets [] = Unit {0}
Offsets (f ∷ fs) = ℕ × Offsets fs

abbrev pub Names : List Loan → Type 0
Names [] = Unit {0}
Names (f ∷ fs) = (ℕ × Ghost f.mode) × Names fs

abbrev pub count : List Loan → ℕ → ℕ
count [] m = m
count (f ∷ fs) m = suc (count fs m)

abbrev pub lfts : (fs : List Loan) (m : ℕ) → Names fs → Lfts m → Lfts (count fs m)
lfts [] m ns κs = κs
lfts (f ∷ fs) m ns κs = (ns.0.0 ∷ [], lfts fs m ns.1 κs)

abbrev pub shares : (fs : List Loan) (m : ℕ) → Shares m → Shares (count fs m)
shares [] m qs = qs
shares (f ∷ fs) m qs = (full_share, shares fs m qs)

abbrev pub others : (fs : List Loan) (m : ℕ) → Lfts (count fs m) → Lfts m
others [] m κs = κs
others (f ∷ fs) m κs = others fs m κs.1

pub others_are : (fs : List Loan) (m : ℕ) (ns : Names fs) (κs : Lfts m) → others fs m (lfts fs m ns κs) ≡ κs
others_are [] m ns κs = refl
others_are (f ∷ fs) m ns κs = others_are fs m ns.1 κs

-- the references' machine values, before others, and the types of the locals that hold them
abbrev pub pointers : (fs : List Loan) → ℕ → Offsets fs → List Val → List Val
pointers [] b at vs = vs
pointers (f ∷ fs) b at vs = vptr b at.0 ∷ pointers fs b at.1 vs

abbrev pub ref_tys : List Loan → List Ty
ref_tys [] = []
ref_tys (f ∷ fs) = ref_ty f.mode erased (Row f.stretch) ∷ ref_tys fs

-- ---- what is lent, and what is left meanwhile
abbrev pub Ends : (fs : List Loan) → Names fs → ℕ → Offsets fs → Lists fs → Type 0
Ends [] ns b at ls = Unit {0}
Ends (f ∷ fs) ns b at ls =
    LastOf f.mode (Row f.stretch) (to f.mode f.stretch b at.0 ns.0.1 ls.0) × Ends fs ns.1 b at.1 ls.1

-- what may have come of the lists, and the lists after it
abbrev pub Changes : List Loan → Type 0
Changes [] = Unit {0}
Changes (f ∷ fs) = Change f.mode f.stretch × Changes fs

abbrev pub after : (fs : List Loan) → Lists fs → Changes fs → Lists fs
after [] ls zs = tt
after (f ∷ fs) ls zs = (settled f.mode f.stretch ls.0 zs.0, after fs ls.1 zs.1)

abbrev pub changes : (fs : List Loan) (ns : Names fs) (b : ℕ) (at : Offsets fs) (ls : Lists fs) → Ends fs ns b at ls → Changes fs
changes [] ns b at ls ws = tt
changes (f ∷ fs) ns b at ls ws =
    (change f.mode f.stretch (to f.mode f.stretch b at.0 ns.0.1 ls.0) ws.0, changes fs ns.1 b at.1 ls.1 ws.1)

abbrev pub AllShared : List Loan → Type 0
AllShared [] = Unit {0}
AllShared (f ∷ fs) = Shared f.mode × AllShared fs

pub after_same : (fs : List Loan) → AllShared fs → (ls : Lists fs) (zs : Changes fs) → after fs ls zs ≡ ls
after_same [] is ls zs = refl
after_same (f ∷ fs) is ls zs = λ i. (settled_same f.mode is.0 f.stretch ls.0 zs.0 i, after_same fs is.1 ls.1 zs.1 i)

pub all_of_a_share : (fs : List Loan) → AllShared fs → (q : Share) → AllFit q fs
all_of_a_share [] is q = tt
all_of_a_share (f ∷ fs) is q = (shared_fits f.mode is.0 q, all_of_a_share fs is.1 q)

abbrev pub Owned : (fs : List Loan) → Names fs → ℕ → Offsets fs → Lists fs → Fml → Fml
Owned [] ns b at ls P = P
Owned (f ∷ fs) ns b at ls P =
    fsep (owns_as f.mode (ns.0.0 ∷ []) (Row f.stretch) (to f.mode f.stretch b at.0 ns.0.1 ls.0) (vptr b at.0 ∷ []))
    (Owned fs ns.1 b at.1 ls.1 P)

abbrev pub Left : (fs : List Loan) (ns : Names fs) (b : ℕ) (at : Offsets fs) (ls : Lists fs) → Ends fs ns b at ls → Fml → Fml
Left [] ns b at ls ws P = P
Left (f ∷ fs) ns b at ls ws P =
    fsep (leaving f.mode (ns.0.0 ∷ []) (Row f.stretch) (to f.mode f.stretch b at.0 ns.0.1 ls.0) ws.0) (Left fs ns.1 b at.1 ls.1 ws.1 P)

module _ {M : Type 1} {𝓤 : Ura M} where
  abbrev pub cells : Share → (fs : List Loan) → ℕ → Offsets fs → Lists fs → Item 𝓤
  cells q [] b at ls = ‵ ftrue
  cells q (f ∷ fs) b at ls = ‵ (cell q f.stretch b at.0 ls.0) ⊛ cells q fs b at.1 ls.1

  abbrev pub tokens : (fs : List Loan) → Names fs → Item 𝓤 → Item 𝓤
  tokens [] ns r = r
  tokens (f ∷ fs) ns r = ‵ (flft (ns.0.0 ∷ []) full_share) ⊛ tokens fs ns.1 r

  abbrev pub lenders : Share → (fs : List Loan) → Names fs → ℕ → Offsets fs → Lists fs → Item 𝓤
  lenders q [] ns b at ls = ‵ ftrue
  lenders q (f ∷ fs) ns b at ls =
      ‵ (lender f.mode q (ns.0.0 ∷ []) f.stretch ls.0 b at.0 ns.0.1) ⊛ lenders q fs ns.1 b at.1 ls.1

module _ {M : Type 1} {𝓤 : Ura M} {𝓛 : Logic 𝓤} {K : Type 0} where
  -- the cells are lent, beside the tokens r of other lifetimes and what other parameters own, P
  open 𝓛 use {H}

  pub lends_all : K → {G : Goal 𝓤 H} → Soaks G → (q : Share) (fs : List Loan) → AllFit q fs → (b : ℕ) (at : Offsets fs) (ls : Lists fs)
      → Sounds fs ls → {r : Item 𝓤} {P : Fml} {Γ : List (Item 𝓤)}
      → ((ns : Names fs) → Seq K 𝓛 (tokens fs ns r ∷ ‵ (Owned fs ns b at ls P) ∷ lenders q fs ns b at ls ∷ Γ) G)
      → Seq K 𝓛 (cells q fs b at ls ∷ r ∷ ‵ P ∷ Γ) G
  lends_all t z q [] fit b at ls g next = move t (1 ∷ 2 ∷ []) $ next tt
  lends_all t z q (f ∷ fs) fit b at ls g next =
      split t $ lends t z f.mode q fit.0 f.stretch ls.0 b at.0 g.0 (λ ν δ.
      move t (3 ∷ 4 ∷ 5 ∷ []) $ lends_all t z q fs fit.1 b at.1 ls.1 g.1 (λ ns.
      -- [the tokens; what the others own; the lenders' parts; the token; what the first owns; the lender's part]
      move t (5 ∷ 2 ∷ []) $ join t $ move t (4 ∷ 2 ∷ []) $ fjoin t $ move t (3 ∷ 2 ∷ []) $ join t $ next ((ν, δ), ns)))

  -- they come back
  pub backs_all : K → {G : Goal 𝓤 H} → Soaks G → (q : Share) (fs : List Loan) → AllFit q fs → (b : ℕ) (at : Offsets fs) (ls : Lists fs)
      (ns : Names fs) (ws : Ends fs ns b at ls) {r : Item 𝓤} {P : Fml} {Γ : List (Item 𝓤)}
      → (Sounds fs (after fs ls (changes fs ns b at ls ws)) → Seq K 𝓛 (cells q fs b at (after fs ls (changes fs ns b at ls ws)) ∷ r ∷ ‵ P ∷ Γ) G)
      → Seq K 𝓛 (tokens fs ns r ∷ lenders q fs ns b at ls ∷ ‵ (Left fs ns b at ls ws P) ∷ Γ) G
  backs_all t z q [] fit b at ls ns ws next = move t (1 ∷ 0 ∷ []) $ next tt
  backs_all t z q (f ∷ fs) fit b at ls ns ws next =
      split t $ move t (2 ∷ []) $ split t $ move t (4 ∷ []) $ fsplit t $ move t (4 ∷ 2 ∷ 0 ∷ []) $
      backs t z f.mode q fit.0 f.stretch ls.0 b at.0 ns.0.0 ns.0.1 ws.0 (λ g.
      -- [the first cell; what is left of the others; the lenders' parts; the tokens]
      move t (3 ∷ 2 ∷ 1 ∷ []) $ backs_all t z q fs fit.1 b at.1 ls.1 ns.1 ws.1 (λ gs. move t (3 ∷ 0 ∷ []) $ join t $ next (g, gs)))

-- ---- as slots of a signature with n lifetimes, of which `pick` picks theirs and m others, before the slots ss
module _ (n m : ℕ) where
  abbrev pub Picks : List Loan → Type 0
  Picks fs = Lfts n → Lfts (count fs m)

  abbrev pub slots_on : (fs : List Loan) → ℕ → Picks fs → List (Slot n) → List (Slot n)
  slots_on [] j pick ss = ss
  slots_on (f ∷ fs) j pick ss =
      plain (λ κs. Ref f.mode (named j) (pick κs).0 (Row f.stretch)) ∷ slots_on fs (suc j) (λ κs. (pick κs).1) ss

  module _ (ss : List (Slot n)) (κs : Lfts n) where
    abbrev Types : (fs : List Loan) → ℕ → Picks fs → List RattleType
    Types fs j pick = types_at {n = n} (slots_on fs j pick ss) κs

    -- the arguments, and their machine values
    abbrev pub args_on : (fs : List Loan) (j : ℕ) (pick : Picks fs) → Names fs → ℕ → Offsets fs → Lists fs → Denots (types_at {n = n} ss κs) → Denots (Types fs j pick)
    args_on [] j pick ns b at ls a = a
    args_on (f ∷ fs) j pick ns b at ls a =
        (to f.mode f.stretch b at.0 ns.0.1 ls.0, args_on fs (suc j) (λ μs. (pick μs).1) ns.1 b at.1 ls.1 a)

    abbrev pub valss_on : (fs : List Loan) (j : ℕ) (pick : Picks fs) → ℕ → Offsets fs → Valss (types_at {n = n} ss κs) → Valss (Types fs j pick)
    valss_on [] j pick b at vss = vss
    valss_on (f ∷ fs) j pick b at vss = (vptr b at.0 ∷ [], valss_on fs (suc j) (λ μs. (pick μs).1) b at.1 vss)

    pub flat_on : (fs : List Loan) (j : ℕ) (pick : Picks fs) (b : ℕ) (at : Offsets fs) (vss : Valss (types_at {n = n} ss κs))
        → flat (Types fs j pick) (valss_on fs j pick b at vss) ≡ pointers fs b at (flat (types_at {n = n} ss κs) vss)
    flat_on [] j pick b at vss = refl
    flat_on (f ∷ fs) j pick b at vss = ap (λ (vs : List Val). vptr b at.0 ∷ vs) (flat_on fs (suc j) (λ μs. (pick μs).1) b at.1 vss)

    -- the lists on entry, and the other arguments
    abbrev pub nows : (fs : List Loan) (j : ℕ) (pick : Picks fs) → Denots (Types fs j pick) → Lists fs
    nows [] j pick a = tt
    nows (f ∷ fs) j pick a = (now f.mode a.0, nows fs (suc j) (λ μs. (pick μs).1) a.1)

    abbrev pub after_args : (fs : List Loan) (j : ℕ) (pick : Picks fs) → Denots (Types fs j pick) → Denots (types_at {n = n} ss κs)
    after_args [] j pick a = a
    after_args (f ∷ fs) j pick a = after_args fs (suc j) (λ μs. (pick μs).1) a.1

    pub nows_are : (fs : List Loan) (j : ℕ) (pick : Picks fs) (ns : Names fs) (b : ℕ) (at : Offsets fs) (ls : Lists fs) (a : Denots (types_at {n = n} ss κs))
        → nows fs j pick (args_on fs j pick ns b at ls a) ≡ ls
    nows_are [] j pick ns b at ls a = refl
    nows_are (f ∷ fs) j pick ns b at ls a = λ i. (to_now f.mode f.stretch b at.0 ns.0.1 ls.0 i, nows_are fs (suc j) (λ μs. (pick μs).1) ns.1 b at.1 ls.1 a i)

    pub after_are : (fs : List Loan) (j : ℕ) (pick : Picks fs) (ns : Names fs) (b : ℕ) (at : Offsets fs) (ls : Lists fs) (a : Denots (types_at {n = n} ss κs))
        → after_args fs j pick (args_on fs j pick ns b at ls a) ≡ a
    after_are [] j pick ns b at ls a = refl
    after_are (f ∷ fs) j pick ns b at ls a = after_are fs (suc j) (λ μs. (pick μs).1) ns.1 b at.1 ls.1 a

    -- the lists at exit
    abbrev pub seens : (fs : List Loan) (j : ℕ) (pick : Picks fs) → Outs κs (slots_on fs j pick ss) (all yes (slots_on fs j pick ss)) → Lists fs
    seens [] j pick e = tt
    seens (f ∷ fs) j pick e = (seen f.mode (pick κs).0 (Row f.stretch) e.0, seens fs (suc j) (λ μs. (pick μs).1) e.1)

    module _ (b : ℕ) (a : Denots (types_at {n = n} ss κs)) where
      abbrev pub Bound : (fs : List Loan) (j : ℕ) (pick : Picks fs) → Names fs → Offsets fs → Lists fs → Type 0
      Bound fs j pick ns at ls = Fins κs (slots_on fs j pick ss) (all yes (slots_on fs j pick ss)) (args_on fs j pick ns b at ls a)

      abbrev pub ends_on : (fs : List Loan) (j : ℕ) (pick : Picks fs) (ns : Names fs) (at : Offsets fs) (ls : Lists fs) → Bound fs j pick ns at ls → Ends fs ns b at ls
      ends_on [] j pick ns at ls ws = tt
      ends_on (f ∷ fs) j pick ns at ls ws = (
        last f.mode (pick κs).0 (Row f.stretch) (to f.mode f.stretch b at.0 ns.0.1 ls.0) ws.0,
        ends_on fs (suc j) (λ μs. (pick μs).1) ns.1 at.1 ls.1 ws.1,
      )

      abbrev pub after_ends : (fs : List Loan) (j : ℕ) (pick : Picks fs) (ns : Names fs) (at : Offsets fs) (ls : Lists fs) → Bound fs j pick ns at ls
          → Fins κs ss (all yes ss) a
      after_ends [] j pick ns at ls ws = ws
      after_ends (f ∷ fs) j pick ns at ls ws = after_ends fs (suc j) (λ μs. (pick μs).1) ns.1 at.1 ls.1 ws.1

      pub seens_are : (fs : List Loan) (j : ℕ) (pick : Picks fs) (ns : Names fs) (at : Offsets fs) (ls : Lists fs) (ws : Bound fs j pick ns at ls)
          → seens fs j pick (outs κs (slots_on fs j pick ss) (all yes (slots_on fs j pick ss)) (args_on fs j pick ns b at ls a) ws)
          ≡ after fs ls (changes fs ns b at ls (ends_on fs j pick ns at ls ws))
      seens_are [] j pick ns at ls ws = refl
      seens_are (f ∷ fs) j pick ns at ls ws =
          λ i. (
            seen_settled f.mode (pick κs).0 f.stretch b at.0 ns.0.1 ls.0 ws.0 i,
            seens_are fs (suc j) (λ μs. (pick μs).1) ns.1 at.1 ls.1 ws.1 i,
          )

      -- what is said of what is bound, at the lifetimes that were made
      pub left_on : (fs : List Loan) (j : ℕ) (pick : Picks fs) (ns : Names fs) (at : Offsets fs) (ls : Lists fs) (ws : Bound fs j pick ns at ls) (μs : Lfts m)
          → lfts fs m ns μs ≡ pick κs
          → lasts_of κs (slots_on fs j pick ss) (all yes (slots_on fs j pick ss)) (args_on fs j pick ns b at ls a) ws
          ≡ Left fs ns b at ls (ends_on fs j pick ns at ls ws) (lasts_of κs ss (all yes ss) a (after_ends fs j pick ns at ls ws))
      left_on [] j pick ns at ls ws μs e = refl
      left_on (f ∷ fs) j pick ns at ls ws μs e =
          let x = to f.mode f.stretch b at.0 ns.0.1 ls.0 in
          (λ i. fsep (left_leaving f.mode (pick κs).0 (Row f.stretch) x ws.0 i)
          (left_on fs (suc j) (λ ρs. (pick ρs).1) ns.1 at.1 ls.1 ws.1 μs (λ k. (e k).1) i))
          ∙ ap (λ (κ : Lft). fsep (leaving f.mode κ (Row f.stretch) x (last f.mode (pick κs).0 (Row f.stretch) x ws.0))
          (Left fs ns.1 b at.1 ls.1 (ends_on fs (suc j) (λ ρs. (pick ρs).1) ns.1 at.1 ls.1 ws.1)
          (lasts_of κs ss (all yes ss) a (after_ends fs (suc j) (λ ρs. (pick ρs).1) ns.1 at.1 ls.1 ws.1)))) (λ i. (sym e i).0)

      -- what the arguments own, at the lifetimes that were made
      pub owned_on : (fs : List Loan) (j : ℕ) (pick : Picks fs) (ns : Names fs) (at : Offsets fs) (ls : Lists fs) (vss : Valss (types_at {n = n} ss κs)) (μs : Lfts m)
          → lfts fs m ns μs ≡ pick κs
          → Owned fs ns b at ls (owns (types_at {n = n} ss κs) a vss) ≡ owns (Types fs j pick) (args_on fs j pick ns b at ls a) (valss_on fs j pick b at vss)
      owned_on [] j pick ns at ls vss μs e = refl
      owned_on (f ∷ fs) j pick ns at ls vss μs e =
          λ i. fsep (owns_as f.mode (e i).0 (Row f.stretch) (to f.mode f.stretch b at.0 ns.0.1 ls.0) (vptr b at.0 ∷ []))
          (owned_on fs (suc j) (λ ρs. (pick ρs).1) ns.1 at.1 ls.1 vss μs (λ k. (e k).1) i)
