-- One array that is a field of a lent struct, of any element and any length: its cell, which lies anywhere, is lent for a lifetime that is made for a call, as
-- `&mut` or as `&`, and comes back at its last list.
use mathlib.Core.Path.{◌≡◌, refl, sym}
use mathlib.Core.Bool.{Bool, true}
use Prim.Native.Nat.{ℕ}
use mathlib.Core.List.{[], ◌∷◌, List, ◌++◌}
use seplogic.Ra.Ura.{Ura}
use mir.Syntax.{named, Lifetime, Mutability, Ty, ty_array, ty_ref, imm, mut, wrote}
use mir.Val.{Val, vptr}
use base.Fraction.{full_share}
use base.Logic.{ent}
use base.Stored.{Coded}
use base.Fml.{Fml, GName, Lft, Share, ftrue, fat, flft, flent, fsep}
use types.Logic.{Logic, sem}
use types.Kit.{Item, Goal, Seq, Soaks, ‵, some, later, given, ◌⊛◌, mean, ◌$◌, ◌∵◌, !, qed, move, drop, use1, use3, split, pick, learn, check, fpick, fpack, rewrite, fsplit, fjoin, await, done}
use types.SemTy.{Body}
use types.Tokens.{lft_new, lft_end, lent_back}
use denote.Exit.{Exit, Last, Seen, left, see}
use denote.RattleType.{RattleType}
use denote.Laws.{Is, Makes, shows}
use denote.Memory.{mem, cell_at, part_at, part_of, lone, pointee}
use denote.Ref.{Bor, MutBor, mut_coded, shr_coded, MutRef, ShrRef}
use denote.Steps.{owned, peeks}
use denote.Struct.Steps.{spelt}
use denote.Struct.Field.{Field}
use denote.Struct.Laws as LL
use denote.Array.{Array, Array-Makes}
use denote.ArrayMemory.{Single}
use denote.Copied.{Copied, Array-Copied}
use denote.Lend.{lends_ref, ref_back, lends_free}

-- an array in a struct: what its elements are, which own nothing and can be copied, and how many there are
pub record Stretch : Type 2 where
  pub element : Field
  pub laws : LL.FLaws element
  pub count : ℕ
  pub plain : {M : Type 1} {𝓤 : Ura M} (𝓛 : Logic 𝓤) → Makes 𝓛 element.row (Is element.row)
  pub alone : Single element.row.mir
  pub copied : {M : Type 1} {𝓤 : Ura M} (𝓛 : Logic 𝓤) → Copied 𝓛 element.row

abbrev pub Row : Stretch → RattleType
Row s = Array s.element.row s.count

abbrev pub Elements : Stretch → Type 0
Elements s = List s.element.row.Denot

abbrev pub ty : Stretch → Ty
ty s = ty_array (lone s.element.row.mir) s.count

abbrev pub val : (s : Stretch) → Elements s → Val
val s l = (LL.array_laws s.element s.laws s.count).val l

-- what whoever holds the struct knows of the list
abbrev pub Sound : (s : Stretch) → Elements s → Type 0
Sound s l = Is (Row s) l (val s l ∷ [])

-- the field's cell
abbrev pub cell : Share → (s : Stretch) → ℕ → ℕ → Elements s → Fml
cell q s b o l = fat q (ty s) b o (val s l)

-- how it is lent
pub data Mode : Type 0 where
  mutable shared : Mode

abbrev pub mutability : Mode → Mutability
mutability mutable = mut
mutability shared = imm

-- what a reference denotes: a `&mut` has a ghost name
abbrev pub Ghost : Mode → Type 0
Ghost mutable = GName
Ghost shared = Unit {0}

abbrev pub Points : Mode → Type 0 → Type 0
Points mutable X = MutBor X
Points shared X = Bor X

abbrev pub now : (m : Mode) {X : Type 0} → Points m X → X
now mutable x = x.now
now shared x = x.now

-- the reference: a `&mut [T; n]` or a `&[T; n]`
abbrev pub owns_as : (m : Mode) → Lft → (R : RattleType) → Points m R.Denot → List Val → Fml
owns_as mutable κ R = (MutRef (named 0) κ R).own_val
owns_as shared κ R = (ShrRef (named 0) κ R).own_val

-- what a contract learns of it at exit, if its lifetime is one that the contract speaks of
abbrev pub exits_as : (m : Mode) → Lft → (R : RattleType) → Bool → Exit (Points m R.Denot)
exits_as mutable κ R kept = (MutRef (named 0) κ R).exit (λ ℓ. kept)
exits_as shared κ R kept = (ShrRef (named 0) κ R).exit (λ ℓ. kept)

abbrev coded_as : (m : Mode) (R : RattleType) → Coded (Points m R.Denot)
coded_as mutable R = mut_coded R.coded
coded_as shared R = shr_coded R.coded

-- what a `&` to it holds
abbrev shr_as : (m : Mode) → Lft → (R : RattleType) → Points m R.Denot → ℕ → ℕ → Lft → Fml
shr_as mutable κ R = (MutRef (named 0) κ R).shr_at
shr_as shared κ R = (ShrRef (named 0) κ R).shr_at

abbrev pub ref_ty : Mode → Lifetime → RattleType → Ty
ref_ty m ℓ R = ty_ref ℓ (mutability m) (pointee R.written)

abbrev pub Ref : Mode → Lifetime → Lft → RattleType → RattleType
Ref m ℓ κ R = record {
  Denot = Points m R.Denot;
  mir = ref_ty m ℓ R ∷ [];
  written = wrote (ref_ty m ℓ R);
  reaches = (R.written, R.mir) ∷ R.reaches;
  lives = κ ++ R.lives;
  own_val = owns_as m κ R;
  exit = λ k. exits_as m κ R (k ℓ);
  coded = coded_as m R;
  shr_at = shr_as m κ R;
}

-- it is the logic's own
pub mut_is : (ℓ : Lifetime) (κ : Lft) (R : RattleType) → Ref mutable ℓ κ R ≡ MutRef ℓ κ R
mut_is ℓ κ R = refl

pub shr_is : (ℓ : Lifetime) (κ : Lft) (R : RattleType) → Ref shared ℓ κ R ≡ ShrRef ℓ κ R
shr_is ℓ κ R = refl

-- the list at exit: what is bound for it, what is said of that, and as a clause sees it
abbrev pub LastOf : (m : Mode) (R : RattleType) → Points m R.Denot → Type 0
LastOf mutable R x = R.Denot
LastOf shared R x = Unit {0}

abbrev pub last : (m : Mode) (κ : Lft) (R : RattleType) (x : Points m R.Denot) → Last (exits_as m κ R true) x → LastOf m R x
last mutable κ R x w = w
last shared κ R x w = w

abbrev pub leaving : (m : Mode) (κ : Lft) (R : RattleType) (x : Points m R.Denot) → LastOf m R x → Fml
leaving mutable κ R x w = left (exits_as mutable κ R true) x w
leaving shared κ R x w = ftrue

pub left_leaving : (m : Mode) (κ : Lft) (R : RattleType) (x : Points m R.Denot) (w : Last (exits_as m κ R true) x)
    → left (exits_as m κ R true) x w ≡ leaving m κ R x (last m κ R x w)
left_leaving mutable κ R x w = refl
left_leaving shared κ R x w = refl

abbrev pub SeenOf : Mode → Lft → RattleType → Type 0
SeenOf m κ R = Seen (exits_as m κ R true)

abbrev pub seen : (m : Mode) (κ : Lft) (R : RattleType) → SeenOf m κ R → R.Denot
seen mutable κ R x = x.now
seen shared κ R x = x.now

-- a `&mut` is of the whole cell, a `&` of any share of it
abbrev pub Fits : Mode → Share → Type 0
Fits mutable q = q ≡ full_share
Fits shared q = Unit {0}

pub whole_fits : (m : Mode) → Fits m full_share
whole_fits mutable = refl
whole_fits shared = tt

-- the lender's part
abbrev pub lender : (m : Mode) → Share → Lft → (s : Stretch) → Elements s → ℕ → ℕ → Ghost m → Fml
lender mutable q κ s l b o δ = flent κ (Body (mem (Row s)) b o δ)
lender shared q κ s l b o δ = flent κ (part_at (Row s) q l b o)

-- the reference to the list l at (b, o)
abbrev pub to : (m : Mode) (s : Stretch) → ℕ → ℕ → Ghost m → Elements s → Points m (Elements s)
to mutable s b o δ l = record { ref_ptr = (b, o); ghost_name = δ; now = l }
to shared s b o δ l = record { ref_ptr = (b, o); now = l }

pub to_now : (m : Mode) (s : Stretch) (b o : ℕ) (δ : Ghost m) (l : Elements s) → now m (to m s b o δ l) ≡ l
to_now mutable s b o δ l = refl
to_now shared s b o δ l = refl

-- what may have come of the list: of a `&mut` any other, of a `&` nothing; and the list after it
abbrev pub Change : Mode → Stretch → Type 0
Change mutable s = Elements s
Change shared s = Unit {0}

abbrev pub settled : (m : Mode) (s : Stretch) → Elements s → Change m s → Elements s
settled mutable s l z = z
settled shared s l z = l

abbrev pub change : (m : Mode) (s : Stretch) (x : Points m (Elements s)) → LastOf m (Row s) x → Change m s
change mutable s x w = w
change shared s x w = tt

pub seen_settled : (m : Mode) (κ : Lft) (s : Stretch) (b o : ℕ) (δ : Ghost m) (l : Elements s) (w : Last (exits_as m κ (Row s) true) (to m s b o δ l))
    → seen m κ (Row s) (see (exits_as m κ (Row s) true) (to m s b o δ l) w)
    ≡ settled m s l (change m s (to m s b o δ l) (last m κ (Row s) (to m s b o δ l) w))
seen_settled mutable κ s b o δ l w = refl
seen_settled shared κ s b o δ l w = refl

abbrev pub Shared : Mode → Type 0
Shared mutable = ⊥
Shared shared = Unit {0}

pub settled_same : (m : Mode) → Shared m → (s : Stretch) (l : Elements s) (z : Change m s) → settled m s l z ≡ l
settled_same mutable is s l z = absurd is
settled_same shared is s l z = refl

pub shared_fits : (m : Mode) → Shared m → (q : Share) → Fits m q
shared_fits mutable is q = absurd is
shared_fits shared is q = tt

module _ {M : Type 1} {𝓤 : Ura M} (𝓛 : Logic 𝓤) (q : Share) (s : Stretch) (l : Elements s) (b o : ℕ) where
  open 𝓛 use {H}

  lies_in : Sound s l → ent 𝓤 (H.at q (ty s) b o (val s l)) (sem 𝓛 (part_at (Row s) q l b o))
  unfolding part_of
  lies_in g =
      qed 𝓛 (‵ (cell q s b o l) ∷ []) ∵ use1 𝓛 (‵ (cell_at q (Row s).mir (val s l ∷ []) b o)) (𝓛.laws.at_raw q (ty s) b o (val s l)) $
      owned ! (Row s) (Is (Row s)) (Array-Makes 𝓛 s.element.row (s.plain 𝓛) s.count) l _ g $ move ! (1 ∷ 0 ∷ []) $ fjoin ! $
      fpack ! (List Val) (λ us. fsep (cell_at q (Row s).mir us b o) ((Row s).own_val l us)) (val s l ∷ []) $ done !

  lies_out : ent 𝓤 (sem 𝓛 (part_at (Row s) q l b o)) (mean 𝓛 (given (Is (Row s) l (val s l ∷ [])) (‵ (fat q (ty s) b o (val s l)))))
  unfolding part_of
  lies_out =
      qed 𝓛 (‵ (part_at (Row s) q l b o) ∷ []) ∵ fpick ! (λ vs. fsplit ! $
      spelt ! (Row s) (Is (Row s)) (shows 𝓛 (Row s)) (λ (ys : Elements s). val s ys ∷ []) (LL.array_laws s.element s.laws s.count).tells q l vs b o $
      move ! (1 ∷ []) $ peeks ! (Row s) (Is (Row s)) (shows 𝓛 (Row s)) l (val s l ∷ []) (λ g. drop ! $
      use1 𝓛 (‵ (fat q (ty s) b o (val s l))) (𝓛.laws.raw_at q (ty s) b o (val s l)) $ check ! g $ done !))

module _ {M : Type 1} {𝓤 : Ura M} {𝓛 : Logic 𝓤} {K : Type 0} {Γ : List (Item 𝓤)} where
  -- the cell is lent: the token of the lifetime, what the reference owns, and the lender's part
  open 𝓛 use {H}

  pub lends : K → {G : Goal 𝓤 H} → Soaks G → (m : Mode) (q : Share) → Fits m q → (s : Stretch) (l : Elements s) (b o : ℕ) → Sound s l
      → ((ν : ℕ) (δ : Ghost m) → Seq K 𝓛 (‵ (flft (ν ∷ []) full_share) ∷ ‵ (owns_as m (ν ∷ []) (Row s) (to m s b o δ l) (vptr b o ∷ []))
      ∷ ‵ (lender m q (ν ∷ []) s l b o δ) ∷ Γ) G)
      → Seq K 𝓛 (‵ (cell q s b o l) ∷ Γ) G
  lends t z mutable q fits s l b o g next =
      rewrite t 0 (λ (p : Share). ‵ (cell p s b o l)) fits refl $
      use1 𝓛 (‵ ((mem (Row s)).own_at l b o)) (lies_in 𝓛 full_share s l b o g) $ lft_new t z (λ ν. move t (1 ∷ []) $
      use1 𝓛 (later (some (λ (δ : GName). ‵ (owns_as mutable (ν ∷ []) (Row s) (to mutable s b o δ l) (vptr b o ∷ [])) ⊛ ‵ (lender mutable q (ν ∷ []) s l b o δ))))
      (lends_ref 𝓛 (Row s) (named 0) (ν ∷ []) l b o) $ await t z $ pick t (λ δ. split t $ move t (2 ∷ []) $ next ν δ))
  lends t z shared q fits s l b o g next =
      use1 𝓛 (‵ (part_at (Row s) q l b o)) (lies_in 𝓛 q s l b o g) $ lft_new t z (λ ν. move t (1 ∷ []) $
      use1 𝓛 (later (‵ (owns_as shared (ν ∷ []) (Row s) (to shared s b o tt l) (vptr b o ∷ [])) ⊛ ‵ (lender shared q (ν ∷ []) s l b o tt)))
      (lends_free 𝓛 (Row s) (named 0) (ν ∷ []) q l b o ((Array-Copied 𝓛 s.element.row (s.copied 𝓛) s.alone s.count).lends q l b o)) $
      await t z $ split t $ move t (2 ∷ []) $ next ν tt)

  -- the part that lies there is the cell again
  found_again : K → {G : Goal 𝓤 H} (q : Share) (s : Stretch) (l : Elements s) (b o : ℕ)
      → (Sound s l → Seq K 𝓛 (‵ (cell q s b o l) ∷ Γ) G) → Seq K 𝓛 (‵ (part_at (Row s) q l b o) ∷ Γ) G
  found_again t q s l b o next =
      use1 𝓛 (given (Sound s l) (‵ (cell q s b o l))) (lies_out 𝓛 q s l b o) $ learn t next

  -- the lifetime is ended, and the cell comes back at the last list
  pub backs : K → {G : Goal 𝓤 H} → Soaks G → (m : Mode) (q : Share) → Fits m q → (s : Stretch) (l : Elements s) (b o ν : ℕ) (δ : Ghost m)
      (w : LastOf m (Row s) (to m s b o δ l))
      → (Sound s (settled m s l (change m s (to m s b o δ l) w)) → Seq K 𝓛 (‵ (cell q s b o (settled m s l (change m s (to m s b o δ l) w))) ∷ Γ) G)
      → Seq K 𝓛 (‵ (flft (ν ∷ []) full_share) ∷ ‵ (lender m q (ν ∷ []) s l b o δ) ∷ ‵ (leaving m (ν ∷ []) (Row s) (to m s b o δ l) w) ∷ Γ) G
  backs t z mutable q fits s l b o ν δ w next =
      lft_end t z $ move t (2 ∷ []) $ fsplit t $ move t (2 ∷ 3 ∷ 0 ∷ []) $
      use3 𝓛 (later (‵ ((mem (Row s)).own_at w b o))) (ref_back 𝓛 (Row s) (ν ∷ []) δ w b o) $ await t z $ move t (1 ∷ []) $ drop t $
      found_again t full_share s w b o (λ g. rewrite t 0 (λ (p : Share). ‵ (cell p s b o w)) (sym fits) refl $ next g)
  backs t z shared q fits s l b o ν δ w next =
      lft_end t z $ lent_back t z $ move t (1 ∷ []) $ drop t $ found_again t q s l b o next
