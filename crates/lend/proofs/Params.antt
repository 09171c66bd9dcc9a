-- The parameters that a function takes beside a unit, of any number and kinds: as slots of a signature at any lifetimes, as the data that a clause
-- reads, and as machine values. Each is Copy: a function hands on a copy, and keeps its own.
use mathlib.Core.Path.{◌≡◌, refl, ap, subst}
use Prim.Native.Nat.{ℕ, zero, suc}
use mathlib.Core.List.{[], ◌∷◌, List}
use lib.Dec.{T, eqb_refl}
use lib.IntN.{ℤ}
use lib.ListN.{length}
use seplogic.Ra.Ura.{Ura}
use mir.Syntax.{Ty, Width, Written, ty_int, ty_ref, imm, named, wrote}
use mir.Val.{Val, vint, vptr, of_z, has_ty, WT, bytes}
use mir.ValLaws.{of_z_fits}
use base.Logic.{ent, sep, emp, emp∗}
use base.Stored.{Coded, coded_ℕ, coded_ℤ, coded_list}
use base.Fml.{Fml, Lft, fsep}
use types.Logic.{Logic, sem}
use contract.Lifetimes.{Lfts}
use types.Kit.{‵, ◌$◌, ◌∵◌, !, qed, move, use1, fsplit, fjoin, done}
use denote.RattleType.{RattleType, RowLaws, Denots, Valss, flat, owns}
use denote.Shadow.{shadow}
use denote.Laws.{Typed, Ises, Are, Spells, valss, Tellss}
use denote.Plain.{UInt, uint_copy}
use denote.Signed.{SInt, sint_copy}
use denote.Memory.{pointee}
use denote.Ref.{Bor, shr_coded, ShrRef, shr_copy}
use denote.Slice.{slice_ty, slice_val, ShrSlice, shr_slice_copy}
use denote.Signature.{Slot, plain, types_at}
use denote.Triple.End.{Fins, all}
use denote.Triple.Walked.{Stays, stay_none, fits_of, has_of, AllGo, Goes-none}
use denote.Exit.{unchanged, yes}

-- A Copy type with one machine value, which no callee can change, and with lifetimes of its own, if it has any. Its MIR type names these by their numbers,
-- from the first's on.
pub record Param : Type 2 where
  pub Datum : Type 0
  pub code : Coded Datum
  pub takes : ℕ
  pub ty : ℕ → Ty
  pub reaches : List (Written × List Ty)
  pub lives : Lfts takes → Lft
  pub own : Lfts takes → Datum → List Val → Fml
  pub shr_at : Lfts takes → Datum → ℕ → ℕ → Lft → Fml
  pub val : Datum → Val
  pub tells : (κs : Lfts takes) (x : Datum) (vs : List Val) → shadow (own κs x vs) → vs ≡ val x ∷ []
  pub typed : (κs : Lfts takes) (x : Datum) → shadow (own κs x (val x ∷ [])) → (j : ℕ) → T (has_ty (ty j) (val x)) × WT (val x)
  pub twice : {M : Type 1} {𝓤 : Ura M} (𝓛 : Logic 𝓤) → (κs : Lfts takes) (x : Datum) (vs : List Val)
      → ent 𝓤 (sem 𝓛 (own κs x vs)) (sep 𝓤 (sem 𝓛 (own κs x vs)) (sem 𝓛 (own κs x vs)))

abbrev pub unsigned : Width → Param
unsigned w = record {
  Datum = ℕ;
  code = coded_ℕ;
  takes = 0;
  ty = λ j. ty_int w;
  reaches = [];
  lives = λ κs. (UInt w).lives;
  own = λ κs. (UInt w).own_val;
  shr_at = λ κs. (UInt w).shr_at;
  val = vint w;
  tells = λ κs n vs is. is.0;
  typed = λ κs n is j. (eqb_refl (bytes w), record { fits = is.1 });
  twice = λ 𝓛 κs. (uint_copy 𝓛 w).twice;
}

abbrev pub signed : Width → Param
signed w = record {
  Datum = ℤ;
  code = coded_ℤ;
  takes = 0;
  ty = λ j. ty_int w;
  reaches = [];
  lives = λ κs. (SInt w).lives;
  own = λ κs. (SInt w).own_val;
  shr_at = λ κs. (SInt w).shr_at;
  val = λ z. vint w (of_z w z);
  tells = λ κs z vs is. is.0;
  typed = λ κs z is j. (eqb_refl (bytes w), of_z_fits w z (record { sfits = is.1 }));
  twice = λ 𝓛 κs. (sint_copy 𝓛 w).twice;
}

-- `&[R]`: the machine value is a struct of the pointer and the count
abbrev pub slice : (R : RattleType) → RowLaws R → Param
slice R laws = record {
  Datum = Bor (List R.Denot);
  code = shr_coded (coded_list R.coded);
  takes = 1;
  ty = λ j. slice_ty (ty_ref (named j) imm (pointee R.written));
  reaches = (R.written, R.mir) ∷ R.reaches;
  lives = λ κs. (ShrSlice (named 0) κs.0 R).lives;
  own = λ κs. (ShrSlice (named 0) κs.0 R).own_val;
  shr_at = λ κs. (ShrSlice (named 0) κs.0 R).shr_at;
  val = λ x. slice_val x.ref_ptr (length x.now);
  tells = λ κs x vs is. is.0.0;
  typed = λ κs x is j. (tt, (tt, (record { fits = is.0.1.0 }, tt)));
  twice = λ 𝓛 κs. (shr_slice_copy 𝓛 (named 0) κs.0 R laws).twice;
}

-- `&R`: the machine value is the pointer
abbrev pub shared : (R : RattleType) → RowLaws R → Param
shared R laws = record {
  Datum = Bor R.Denot;
  code = shr_coded R.coded;
  takes = 1;
  ty = λ j. ty_ref (named j) imm (pointee R.written);
  reaches = (R.written, R.mir) ∷ R.reaches;
  lives = λ κs. (ShrRef (named 0) κs.0 R).lives;
  own = λ κs. (ShrRef (named 0) κs.0 R).own_val;
  shr_at = λ κs. (ShrRef (named 0) κs.0 R).shr_at;
  val = λ x. vptr x.ref_ptr.0 x.ref_ptr.1;
  tells = λ κs x vs is. is.0;
  typed = λ κs x is j. (tt, tt);
  twice = λ 𝓛 κs. (shr_copy 𝓛 (named 0) κs.0 R laws).twice;
}

abbrev row : (p : Param) → ℕ → Lfts p.takes → RattleType
row p j κs = record {
  Denot = p.Datum;
  mir = p.ty j ∷ [];
  written = wrote (p.ty j);
  reaches = p.reaches;
  lives = p.lives κs;
  own_val = p.own κs;
  exit = λ k. unchanged;
  coded = p.code;
  shr_at = p.shr_at κs;
}

-- the lifetimes of several: how many there are, and those of the first and of the rest
abbrev plus : ℕ → ℕ → ℕ
plus zero m = m
plus (suc k) m = suc (plus k m)

abbrev pub lifetimes : List Param → ℕ
lifetimes [] = 0
lifetimes (p ∷ ps) = plus p.takes (lifetimes ps)

abbrev head_lfts : (k m : ℕ) → Lfts (plus k m) → Lfts k
head_lfts zero m κs = tt
head_lfts (suc k) m κs = (κs.0, head_lfts k m κs.1)

abbrev tail_lfts : (k m : ℕ) → Lfts (plus k m) → Lfts m
tail_lfts zero m κs = κs
tail_lfts (suc k) m κs = tail_lfts k m κs.1

-- the data, their machine values, and the machine types where the first lifetime is the j-th
abbrev pub Data : List Param → Type 0
Data [] = Unit {0}
Data (p ∷ ps) = p.Datum × Data ps

abbrev pub values : (ps : List Param) → Data ps → List Val
values [] x = []
values (p ∷ ps) x = p.val x.0 ∷ values ps x.1

abbrev pub tys : List Param → ℕ → List Ty
tys [] j = []
tys (p ∷ ps) j = p.ty j ∷ tys ps (plus p.takes j)

-- as slots of a signature with n lifetimes, of which `pick` picks theirs
module _ (n : ℕ) where
  abbrev pub Picks : List Param → Type 0
  Picks ps = Lfts n → Lfts (lifetimes ps)

  abbrev head_of : (p : Param) (ps : List Param) → Picks (p ∷ ps) → Lfts n → Lfts p.takes
  head_of p ps pick κs = head_lfts p.takes (lifetimes ps) (pick κs)

  abbrev tail_of : (p : Param) (ps : List Param) → Picks (p ∷ ps) → Picks ps
  tail_of p ps pick κs = tail_lfts p.takes (lifetimes ps) (pick κs)

  abbrev pub slots : (ps : List Param) → ℕ → Picks ps → List (Slot n)
  slots [] j pick = []
  slots (p ∷ ps) j pick = plain (λ κs. row p j (head_of p ps pick κs)) ∷ slots ps (plus p.takes j) (tail_of p ps pick)

  abbrev pub stays : (ps : List Param) (j : ℕ) (pick : Picks ps) → Stays (slots ps j pick) (all yes (slots ps j pick))
  stays [] j pick = tt
  stays (p ∷ ps) j pick = (stay_none (λ κs. row p j (head_of p ps pick κs)) yes, stays ps (plus p.takes j) (tail_of p ps pick))

  pub all_go : {M : Type 1} {𝓤 : Ura M} (𝓛 : Logic 𝓤) (ps : List Param) (j : ℕ) (pick : Picks ps)
      → AllGo 𝓛 n (slots ps j pick) (all yes (slots ps j pick)) (stays ps j pick)
  all_go 𝓛 [] j pick = tt
  all_go 𝓛 (p ∷ ps) j pick =
      (Goes-none 𝓛 n (λ κs. row p j (head_of p ps pick κs)) yes (λ κs x f. refl), all_go 𝓛 ps (plus p.takes j) (tail_of p ps pick))

  module _ (κs : Lfts n) where
    abbrev pub Types : (ps : List Param) → ℕ → Picks ps → List RattleType
    Types ps j pick = types_at {n = n} (slots ps j pick) κs

    abbrev pub spells : (ps : List Param) (j : ℕ) (pick : Picks ps) → Spells (Types ps j pick)
    spells [] j pick = tt
    spells (p ∷ ps) j pick = (λ x. p.val x ∷ [], spells ps (plus p.takes j) (tail_of p ps pick))

    pub all_tell : (ps : List Param) (j : ℕ) (pick : Picks ps) → Tellss (Types ps j pick) (Ises (Types ps j pick)) (spells ps j pick)
    all_tell [] j pick = tt
    all_tell (p ∷ ps) j pick = (p.tells (head_of p ps pick κs), all_tell ps (plus p.takes j) (tail_of p ps pick))

    -- what is bound at exit: nothing
    abbrev pub none : (ps : List Param) (j : ℕ) (pick : Picks ps) (a : Denots (Types ps j pick)) → Fins κs (slots ps j pick) (all yes (slots ps j pick)) a
    none [] j pick a = tt
    none (p ∷ ps) j pick a = (tt, none ps (plus p.takes j) (tail_of p ps pick) a.1)

    abbrev pub none_fit : (ps : List Param) (j : ℕ) (pick : Picks ps) (a : Denots (Types ps j pick))
        → fits_of κs (slots ps j pick) (all yes (slots ps j pick)) (stays ps j pick) a (none ps j pick a)
    none_fit [] j pick a = tt
    none_fit (p ∷ ps) j pick a = (tt, none_fit ps (plus p.takes j) (tail_of p ps pick) a.1)

    -- the data of the arguments, and arguments of the data
    abbrev pub data_of : (ps : List Param) (j : ℕ) (pick : Picks ps) → Denots (Types ps j pick) → Data ps
    data_of [] j pick a = tt
    data_of (p ∷ ps) j pick a = (a.0, data_of ps (plus p.takes j) (tail_of p ps pick) a.1)

    abbrev pub args_of : (ps : List Param) (j : ℕ) (pick : Picks ps) → Data ps → Denots (Types ps j pick)
    args_of [] j pick x = tt
    args_of (p ∷ ps) j pick x = (x.0, args_of ps (plus p.takes j) (tail_of p ps pick) x.1)

    pub data_args : (ps : List Param) (j : ℕ) (pick : Picks ps) (x : Data ps) → data_of ps j pick (args_of ps j pick x) ≡ x
    data_args [] j pick x = refl
    data_args (p ∷ ps) j pick x = λ i. (x.0, data_args ps (plus p.takes j) (tail_of p ps pick) x.1 i)

    -- their machine values, one list for each and in a row
    abbrev pub lists : (ps : List Param) (j : ℕ) (pick : Picks ps) → Denots (Types ps j pick) → Valss (Types ps j pick)
    lists ps j pick a = valss (Types ps j pick) (spells ps j pick) a

    pub in_a_row : (ps : List Param) (j : ℕ) (pick : Picks ps) (a : Denots (Types ps j pick))
        → flat (Types ps j pick) (lists ps j pick a) ≡ values ps (data_of ps j pick a)
    in_a_row [] j pick a = refl
    in_a_row (p ∷ ps) j pick a = ap (λ (vs : List Val). p.val a.0 ∷ vs) (in_a_row ps (plus p.takes j) (tail_of p ps pick) a.1)

    pub are_typed : (ps : List Param) (j : ℕ) (pick : Picks ps) (a : Denots (Types ps j pick))
        → Are (Types ps j pick) (Ises (Types ps j pick)) a (lists ps j pick a) → Typed (tys ps j) (values ps (data_of ps j pick a))
    are_typed [] j pick a are = tt
    are_typed (p ∷ ps) j pick a are =
        (p.typed (head_of p ps pick κs) a.0 are.0 j, are_typed ps (plus p.takes j) (tail_of p ps pick) a.1 are.1)

    -- what they own, and what is still had of them at exit
    abbrev pub Owned : (ps : List Param) (j : ℕ) (pick : Picks ps) → Denots (Types ps j pick) → Fml
    Owned ps j pick a = owns (Types ps j pick) a (lists ps j pick a)

    abbrev pub Had : (ps : List Param) (j : ℕ) (pick : Picks ps) → Denots (Types ps j pick) → Fml
    Had ps j pick a = has_of κs (slots ps j pick) (all yes (slots ps j pick)) (stays ps j pick) a (none ps j pick a) (lists ps j pick a)

-- what is owned at entry gives what a callee asks, at the same lifetimes, beside what is still had at exit
module _ {M : Type 1} {𝓤 : Ura M} (𝓛 : Logic 𝓤) (n m : ℕ) (κs : Lfts n) (μs : Lfts m) where
  abbrev Passed : (ps : List Param) (i : ℕ) (its : Picks m ps) → Data ps → Fml
  Passed ps i its x = Owned m μs ps i its (args_of m μs ps i its x)

  -- one more parameter, which is had twice
  more : (P P' O Q L : Fml) → ent 𝓤 (sem 𝓛 P) (sem 𝓛 (fsep P' P)) → ent 𝓤 (sem 𝓛 O) (sem 𝓛 (fsep Q L))
      → ent 𝓤 (sem 𝓛 (fsep P O)) (sem 𝓛 (fsep (fsep P' Q) (fsep P L)))
  more P P' O Q L twice rest =
      qed 𝓛 (‵ (fsep P O) ∷ []) ∵ fsplit ! $ use1 𝓛 (‵ (fsep P' P)) twice $ fsplit ! $ move ! (2 ∷ []) $ use1 𝓛 (‵ (fsep Q L)) rest $ fsplit ! $
      move ! (2 ∷ 0 ∷ 3 ∷ 1 ∷ []) $ fjoin ! $ done !

  pub handed_on : (ps : List Param) (j i : ℕ) (pick : Picks n ps) (its : Picks m ps) → pick κs ≡ its μs → (a : Denots (Types n κs ps j pick))
      → ent 𝓤 (sem 𝓛 (Owned n κs ps j pick a)) (sem 𝓛 (fsep (Passed ps i its (data_of n κs ps j pick a)) (Had n κs ps j pick a)))
  handed_on [] j i pick its e a = emp∗ 𝓤 (emp 𝓤)
  handed_on (p ∷ ps) j i pick its e a =
      more (P (pick κs)) (P (its μs)) (Owned n κs ps (plus p.takes j) (tail_of n p ps pick) a.1)
      (Passed ps (plus p.takes i) (tail_of m p ps its) (data_of n κs ps (plus p.takes j) (tail_of n p ps pick) a.1))
      (Had n κs ps (plus p.takes j) (tail_of n p ps pick) a.1)
      (subst (λ (l : Lfts (lifetimes (p ∷ ps))). ent 𝓤 (sem 𝓛 (P (pick κs))) (sem 𝓛 (fsep (P l) (P (pick κs))))) e
      (p.twice 𝓛 (head_of n p ps pick κs) a.0 (p.val a.0 ∷ [])))
      (handed_on ps (plus p.takes j) (plus p.takes i) (tail_of n p ps pick) (tail_of m p ps its) (ap (tail_lfts p.takes (lifetimes ps)) e) a.1)
    where
      P : Lfts (lifetimes (p ∷ ps)) → Fml
      P l = p.own (head_lfts p.takes (lifetimes ps) l) a.0 (p.val a.0 ∷ [])

-- what arguments of the same data own, where the lifetimes are the same
pub same_owned : (n m : ℕ) (κs : Lfts n) (μs : Lfts m) (ps : List Param) (j i : ℕ) (pick : Picks n ps) (its : Picks m ps) → pick κs ≡ its μs → (x : Data ps)
    → Owned n κs ps j pick (args_of n κs ps j pick x) ≡ Owned m μs ps i its (args_of m μs ps i its x)
same_owned n m κs μs [] j i pick its e x = refl
same_owned n m κs μs (p ∷ ps) j i pick its e x =
    λ k. fsep (p.own (head_lfts p.takes (lifetimes ps) (e k)) x.0 (p.val x.0 ∷ []))
    (same_owned n m κs μs ps (plus p.takes j) (plus p.takes i) (tail_of n p ps pick) (tail_of m p ps its) (λ l. tail_lfts p.takes (lifetimes ps) (e l)) x.1 k)
