-- A row of locals of any number, as one entry of a context: they are allocated, the arguments are stored in them, they are read as a call's operands,
-- and they are freed.
use mathlib.Core.Path.{◌≡◌, refl, ap, sym, subst}
use Prim.Native.Nat.{ℕ, zero, suc}
use mathlib.Core.List.{[], ◌∷◌, List}
use lib.ListN.{get_or}
use seplogic.Ra.Ura.{Ura}
use mir.Syntax.{Ty, place, Step as PStep, Opd as Operand, copy, Local, local, value_local}
use mir.Val.{Val}
use base.Fraction.{full_share}
use base.Logic.{SProp, ent, sep, wand, all, all_e, id⊢, comm∗, apply∗}
use base.Fml.{Share, ftrue, fat, froom, fdies}
use prog.Wp.{Env, Spot, no_local, walk}
use types.Logic.{Logic}
use types.Kit.{Item, Goal, Seq, Step, step, ‵, raw, ◌⊛◌, mean, ⋆, allocs, passes, frees, ◌$◌, ◌∵◌, !, qed, by, move, drop, use1, use2, split, join, frame, each, assume}
use types.Run.{Reads, Walks, Finds, Opds, init, forget, stop, load, and_then, no_more, alloc1, pass1, pass0, free1}
use types.Part.{Part, whole}
use denote.Laws.{Typed}
use denote.Steps.{nothing}

-- a block for each local
abbrev pub Blocks : List Ty → Type 0
Blocks [] = Unit {0}
Blocks (τ ∷ τs) = ℕ × Blocks τs

-- the row before other locals: as a function declares them, and where they are
abbrev pub declared : List Ty → List Local → List Local
declared [] ls = ls
declared (τ ∷ τs) ls = local τ value_local ∷ declared τs ls

abbrev pub placed : (τs : List Ty) → Blocks τs → List (Ty × ℕ) → List (Ty × ℕ)
placed [] bs E = E
placed (τ ∷ τs) bs E = (τ, bs.0) ∷ placed τs bs.1 E

-- the number of the k-th local after the row, counted from the row's first
abbrev pub after : List Ty → ℕ → ℕ
after [] k = k
after (τ ∷ τs) k = suc (after τs k)

pub after_row : (τs : List Ty) (bs : Blocks τs) (E : List (Ty × ℕ)) (k : ℕ) (d : Ty × ℕ) → get_or (placed τs bs E) (after τs k) d ≡ get_or E k d
after_row [] bs E k d = refl
after_row (τ ∷ τs) bs E k d = after_row τs bs.1 E k d

-- the row's locals, from the n-th on
abbrev pub copies : ℕ → List Ty → List Operand
copies n [] = []
copies n (τ ∷ τs) = copy (place n []) ∷ copies (suc n) τs

abbrev pub Stand : List (Ty × ℕ) → (Ty × ℕ) → ℕ → (τs : List Ty) → Blocks τs → Type 0
Stand E d n [] bs = Unit {0}
Stand E d n (τ ∷ τs) bs = (get_or E n d ≡ (τ, bs.0)) × Stand E d (suc n) τs bs.1

pub shift : (e : Ty × ℕ) (E : List (Ty × ℕ)) (d : Ty × ℕ) (n : ℕ) (τs : List Ty) (bs : Blocks τs) → Stand E d n τs bs → Stand (e ∷ E) d (suc n) τs bs
shift e E d n [] bs s = tt
shift e E d n (τ ∷ τs) bs s = (s.0, shift e E d (suc n) τs bs.1 s.1)

pub stands : (τs : List Ty) (bs : Blocks τs) (E : List (Ty × ℕ)) (d : Ty × ℕ) → Stand (placed τs bs E) d zero τs bs
stands [] bs E d = tt
stands (τ ∷ τs) bs E d = (refl, shift (τ, bs.0) (placed τs bs.1 E) d zero τs bs.1 (stands τs bs.1 E d))

-- a row that stands after another
pub stand_after : (τs : List Ty) (bs : Blocks τs) (E : List (Ty × ℕ)) (d : Ty × ℕ) (k : ℕ) (ρs : List Ty) (cs : Blocks ρs) → Stand E d k ρs cs
    → Stand (placed τs bs E) d (after τs k) ρs cs
stand_after [] bs E d k ρs cs s = s
stand_after (τ ∷ τs) bs E d k ρs cs s = shift (τ, bs.0) (placed τs bs.1 E) d (after τs k) ρs cs (stand_after τs bs.1 E d k ρs cs s)

module _ {M : Type 1} {𝓤 : Ura M} where
  -- room for the row; and the row with values in it
  abbrev pub rooms : (τs : List Ty) → Blocks τs → Item 𝓤
  rooms [] bs = ‵ ftrue
  rooms (τ ∷ τs) bs = (‵ (froom τ bs.0 zero) ⊛ ‵ (fdies τ bs.0)) ⊛ rooms τs bs.1

  abbrev pub cells : (τs : List Ty) → List Val → Blocks τs → Item 𝓤
  cells [] vs bs = ‵ ftrue
  cells (τ ∷ τs) [] bs = ‵ ftrue
  cells (τ ∷ τs) (v ∷ vs) bs = (‵ (fat full_share τ bs.0 zero v) ⊛ ‵ (fdies τ bs.0)) ⊛ cells τs vs bs.1

module _ {M : Type 1} {𝓤 : Ura M} {𝓛 : Logic 𝓤} {K : Type 0} where
  open 𝓛 use {H}

  pub alloc_row : K → (τs : List Ty) {ls : List Local} {Kt : Env 𝓤 H → Goal 𝓤 H} {Γ : List (Item 𝓤)}
      → ((bs : Blocks τs) → Seq K 𝓛 (rooms τs bs ∷ Γ) (allocs ls (λ E. Kt (placed τs bs E)))) → Seq K 𝓛 Γ (allocs (declared τs ls) Kt)
  alloc_row t [] k = nothing t $ k tt
  alloc_row t (τ ∷ τs) k = alloc1 t (λ b. alloc_row t τs (λ bs. move t (1 ∷ 2 ∷ []) $ join t $ join t $ k (b, bs)))

  pub pass_row : K → (τs : List Ty) (vs : List Val) (bs : Blocks τs) (E : Env 𝓤 H) {g : Goal 𝓤 H} {Γ : List (Item 𝓤)}
      → Typed τs vs → Step K 𝓛 (cells τs vs bs ∷ Γ) g (rooms τs bs ∷ Γ) (passes (placed τs bs E) vs g)
  pass_row t [] [] bs E ty = pass0 t
  pass_row t [] (v ∷ vs) bs E ty = absurd ty
  pass_row t (τ ∷ τs) [] bs E ty = absurd ty
  pass_row t (τ ∷ τs) (v ∷ vs) bs E ty =
      step (λ s. split t $ split t $ pass1 t (init t 0 refl ty.0) $ move t (2 ∷ []) $ pass_row t τs vs bs.1 E ty.1 $
      move t (1 ∷ 2 ∷ []) $ join t $ join t $ s)

  pub free_row : K → (τs : List Ty) (vs : List Val) (bs : Blocks τs) (E : Env 𝓤 H) {g : Goal 𝓤 H} {Γ : List (Item 𝓤)}
      → Typed τs vs → Step K 𝓛 Γ (frees E g) (cells τs vs bs ∷ Γ) (frees (placed τs bs E) g)
  free_row t [] [] bs E ty = drop t
  free_row t [] (v ∷ vs) bs E ty = absurd ty
  free_row t (τ ∷ τs) [] bs E ty = absurd ty
  free_row t (τ ∷ τs) (v ∷ vs) bs E ty = step (λ s. split t $ split t $ forget t 0 refl $ free1 t $ free_row t τs vs bs.1 E ty.1 $ s)

  -- a local that stands where the equation says
  pub found : K → {E : Env 𝓤 H} {Γ : List (Item 𝓤)} {n : ℕ} {e : Ty × ℕ} {st : List PStep} {sp : Spot 𝓤 H}
      → get_or E n (no_local 𝓤 H) ≡ e → Walks K 𝓛 Γ E (e.0, e.1, zero) st sp → Finds K 𝓛 Γ E (place n st) sp
  found t {E} {Γ} {n} {e} {st} at w = record {
    go = λ Kt h. subst (λ (l : Ty × ℕ). ent 𝓤 (⋆ 𝓛 Γ) (walk 𝓤 H E (l.0, l.1, zero) st Kt)) (sym at) (w.go Kt h);
  }

  -- a cell within an entry of which F makes another, by adding P
  within : K → (F : Item 𝓤 → Item 𝓤) (P : SProp 𝓤) → ((i : Item 𝓤) → ent 𝓤 (mean 𝓛 (F i)) (sep 𝓤 (mean 𝓛 i) P))
      → ((i : Item 𝓤) → ent 𝓤 (sep 𝓤 (mean 𝓛 i) P) (mean 𝓛 (F i)))
      → {i : Item 𝓤} {q : Share} {τ : Ty} {b o : ℕ} {v : Val} {back : Val → Item 𝓤} → Part K 𝓛 i q τ b o v back → Part K 𝓛 (F i) q τ b o v (λ u. F (back u))
  within t F P out into {i} {q} {τ} {b} {o} {v} {back} p = record {
    out = qed 𝓛 (F i ∷ []) ∵ use1 𝓛 (i ⊛ raw P) (out i) $ split ! $ use1 𝓛 (‵ (fat q τ b o v) ⊛ raw (all 𝓤 Way)) p.out $ split ! $ frame ! $
        each ! (λ (u : Val). wand 𝓤 (H.at q τ b o u) (mean 𝓛 (F (back u)))) (λ u.
        assume {P = mean 𝓛 (F (back u))} ! (‵ (fat q τ b o u)) $ move ! (1 ∷ []) $
        use1 𝓛 (raw (Way u)) (all_e 𝓤 Way u) $ move ! (1 ∷ 0 ∷ []) $
        use2 𝓛 (back u) (apply∗ 𝓤 (H.at q τ b o u) (mean 𝓛 (back u))) $ by ! (into (back u)));
    same = ap F p.same;
  }
    where
      Way : Val → SProp 𝓤
      Way u = wand 𝓤 (H.at q τ b o u) (mean 𝓛 (back u))

  pub in_left : K → {i j : Item 𝓤} {q : Share} {τ : Ty} {b o : ℕ} {v : Val} {back : Val → Item 𝓤} → Part K 𝓛 i q τ b o v back
      → Part K 𝓛 (i ⊛ j) q τ b o v (λ u. back u ⊛ j)
  in_left t {j = j} = within t (λ i. i ⊛ j) (mean 𝓛 j) (λ i. id⊢ 𝓤 (mean 𝓛 (i ⊛ j))) (λ i. id⊢ 𝓤 (mean 𝓛 (i ⊛ j)))

  pub in_right : K → {i j : Item 𝓤} {q : Share} {τ : Ty} {b o : ℕ} {v : Val} {back : Val → Item 𝓤} → Part K 𝓛 j q τ b o v back
      → Part K 𝓛 (i ⊛ j) q τ b o v (λ u. i ⊛ back u)
  in_right t {i} = within t (λ j. i ⊛ j) (mean 𝓛 i) (λ j. comm∗ 𝓤 (mean 𝓛 i) (mean 𝓛 j)) (λ j. comm∗ 𝓤 (mean 𝓛 j) (mean 𝓛 i))

  pub read_row : K → (τs : List Ty) (vs : List Val) (bs : Blocks τs) {E : Env 𝓤 H} (n : ℕ) {Γ : List (Item 𝓤)} → Typed τs vs → Stand E (no_local 𝓤 H) n τs bs
      → ((τ : Ty) (b : ℕ) (v : Val) (back : Val → Item 𝓤) → Part K 𝓛 (cells τs vs bs) full_share τ b zero v back → Reads K 𝓛 Γ τ b zero v)
      → Opds K 𝓛 Γ E (copies n τs) vs
  read_row t [] [] bs n ty at look = no_more t
  read_row t [] (v ∷ vs) bs n ty at look = absurd ty
  read_row t (τ ∷ τs) [] bs n ty at look = absurd ty
  read_row t (τ ∷ τs) (v ∷ vs) bs n ty at look =
      and_then t (load t (found t at.0 (stop t)) (look τ bs.0 v _ (in_left t (in_left t (whole t)))))
      (read_row t τs vs bs.1 (suc n) ty.1 at.1 (λ τ' b v' back p. look τ' b v' _ (in_right t p)))
