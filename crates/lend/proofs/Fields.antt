-- A struct with arrays in it, also within structs within it: its place is the places of its arrays, side by side, and of what is beside them; and back, with
-- other lists in the arrays.
use mathlib.Core.Path.{◌≡◌, refl, ap, ◌∙◌}
use Prim.Native.Nat.{ℕ, zero, suc, ◌+◌}
use mathlib.Core.List.{[], ◌∷◌, List}
use seplogic.Ra.Ura.{Ura}
use mir.Syntax.{Sym, Ty, ty_struct, Tys, tnil, tcons, Step as PStep, field}
use mir.Val.{Val, vstruct, Vals, vnil, vcons}
use base.Logic.{SProp, ent, sep, wand, all, all_e, apply∗}
use base.Fml.{Share, ftrue, fat}
use prog.Memory.{size, align, field_at, up as next}
use prog.Model.{fields_at}
use prog.Wp.{Env, Spot}
use types.Logic.{Logic}
use types.Kit.{Item, ‵, raw, ◌⊛◌, mean, ◌$◌, ◌∵◌, !, qed, move, keep, use1, use2, split, join, frame, done}
use types.Run.{Walks, stop, fld}
use denote.Steps.{nothing}
use Rattle.lend.proofs.Loan.{Stretch, Elements, ty, val, cell}

-- the fields of a struct in order: one that is left where it is, an array, a struct with its own fields
pub data Layout : Type 2 where
  end : Layout
  beside : Ty → Layout → Layout
  array : Stretch → Layout → Layout
  inner : Sym → Layout → Layout → Layout

abbrev pub tys : Layout → Tys
tys end = tnil
tys (beside τ y) = tcons τ (tys y)
tys (array s y) = tcons (ty s) (tys y)
tys (inner ν x y) = tcons (ty_struct ν (tys x)) (tys y)

-- its arrays, before others; their lists, and where they lie in the struct's block
abbrev pub arrays : Layout → List Stretch → List Stretch
arrays end ss = ss
arrays (beside τ y) ss = arrays y ss
arrays (array s y) ss = s ∷ arrays y ss
arrays (inner ν x y) ss = arrays x (arrays y ss)

abbrev pub Contents : List Stretch → Type 0
Contents [] = Unit {0}
Contents (s ∷ ss) = Elements s × Contents ss

abbrev pub Places : List Stretch → Type 0
Places [] = Unit {0}
Places (s ∷ ss) = ℕ × Places ss

abbrev pub after : (y : Layout) (ss : List Stretch) → Contents (arrays y ss) → Contents ss
after end ss ls = ls
after (beside τ y) ss ls = after y ss ls
after (array s y) ss ls = after y ss ls.1
after (inner ν x y) ss ls = after y ss (after x (arrays y ss) ls)

-- e is where the fields before end
abbrev pub places : (y : Layout) (ss : List Stretch) → ℕ → ℕ → Places ss → Places (arrays y ss)
places end ss e o at = at
places (beside τ y) ss e o at = places y ss (next (align τ) e + size τ) o at
places (array s y) ss e o at = (o + next (align (ty s)) e, places y ss (next (align (ty s)) e + size (ty s)) o at)
places (inner ν x y) ss e o at =
    places x (arrays y ss) zero (o + next (align (ty_struct ν (tys x))) e) (places y ss (next (align (ty_struct ν (tys x))) e + size (ty_struct ν (tys x))) o at)

-- the values of what is left where it is; and the struct's value
abbrev pub Kept : Layout → Type 0
Kept end = Unit {0}
Kept (beside τ y) = Val × Kept y
Kept (array s y) = Kept y
Kept (inner ν x y) = Kept x × Kept y

abbrev pub vals : (y : Layout) (ss : List Stretch) → Kept y → Contents (arrays y ss) → Vals
vals end ss ks ls = vnil
vals (beside τ y) ss ks ls = vcons ks.0 (vals y ss ks.1 ls)
vals (array s y) ss ks ls = vcons (val s ls.0) (vals y ss ks ls.1)
vals (inner ν x y) ss ks ls = vcons (vstruct (vals x (arrays y ss) ks.0 ls)) (vals y ss ks.1 (after x (arrays y ss) ls))

module _ {M : Type 1} {𝓤 : Ura M} (𝓛 : Logic 𝓤) (q : Share) (b : ℕ) where
  -- the arrays' cells
  open 𝓛 use {H}

  abbrev pub all_cells : (ss : List Stretch) → Places ss → Contents ss → Item 𝓤
  all_cells [] at ls = ‵ ftrue
  all_cells (s ∷ ss) at ls = ‵ (cell q s b at.0 ls.0) ⊛ all_cells ss at.1 ls.1

  -- the way back from a struct's fields to the struct
  abbrev Way : Sym → Tys → ℕ → Vals → SProp 𝓤
  Way ν τs o us = wand 𝓤 (fields_at 𝓤 H q τs zero b o us) (H.at q (ty_struct ν τs) b o (vstruct us))

  -- what is beside the arrays: the cells of what is left where it is, and the ways back
  abbrev pub rest : (y : Layout) → ℕ → ℕ → Kept y → Item 𝓤
  rest end e o ks = ‵ ftrue
  rest (beside τ y) e o ks = ‵ (fat q τ b (o + next (align τ) e) ks.0) ⊛ rest y (next (align τ) e + size τ) o ks.1
  rest (array s y) e o ks = rest y (next (align (ty s)) e + size (ty s)) o ks
  rest (inner ν x y) e o ks =
      raw (all 𝓤 (Way ν (tys x) (o + next (align (ty_struct ν (tys x))) e))) ⊛ rest x zero (o + next (align (ty_struct ν (tys x))) e) ks.0
      ⊛ rest y (next (align (ty_struct ν (tys x))) e + size (ty_struct ν (tys x))) o ks.1

  module _ where
    fields_apart : (y : Layout) (ss : List Stretch) (e o : ℕ) (at : Places ss) (ks : Kept y) (ls : Contents (arrays y ss))
        → ent 𝓤 (sep 𝓤 (fields_at 𝓤 H q (tys y) e b o (vals y ss ks ls)) (mean 𝓛 (all_cells ss at (after y ss ls))))
        (sep 𝓤 (mean 𝓛 (all_cells (arrays y ss) (places y ss e o at) ls)) (mean 𝓛 (rest y e o ks)))
    fields_apart end ss e o at ks ls = qed 𝓛 (‵ ftrue ∷ all_cells ss at ls ∷ []) ∵ move ! (1 ∷ 0 ∷ []) $ done !
    fields_apart (beside τ y) ss e o at ks ls =
        let e' = next (align τ) e + size τ in
        qed 𝓛 ((‵ (fat q τ b (o + next (align τ) e) ks.0) ⊛ raw (fields_at 𝓤 H q (tys y) e' b o (vals y ss ks.1 ls))) ∷ all_cells ss at (after y ss ls) ∷ []) ∵
        split ! $ move ! (1 ∷ 2 ∷ []) $ use2 𝓛 (all_cells (arrays y ss) (places y ss e' o at) ls ⊛ rest y e' o ks.1) (fields_apart y ss e' o at ks.1 ls) $
        split ! $ frame ! $ move ! (1 ∷ 0 ∷ []) $ done !
    fields_apart (array s y) ss e o at ks ls =
        let e' = next (align (ty s)) e + size (ty s) in
        qed 𝓛 ((‵ (cell q s b (o + next (align (ty s)) e) ls.0) ⊛ raw (fields_at 𝓤 H q (tys y) e' b o (vals y ss ks ls.1))) ∷ all_cells ss at (after y ss ls.1) ∷ []) ∵
        split ! $ move ! (1 ∷ 2 ∷ []) $ use2 𝓛 (all_cells (arrays y ss) (places y ss e' o at) ls.1 ⊛ rest y e' o ks) (fields_apart y ss e' o at ks ls.1) $
        split ! $ move ! (2 ∷ 0 ∷ []) $ join ! $ frame ! $ done !
    fields_apart (inner ν x y) ss e o at ks ls =
        let σ = ty_struct ν (tys x) in
        let o' = o + next (align σ) e in
        let e' = next (align σ) e + size σ in
        let ls' = after x (arrays y ss) ls in
        qed 𝓛 ((‵ (fat q σ b o' (vstruct (vals x (arrays y ss) ks.0 ls))) ⊛ raw (fields_at 𝓤 H q (tys y) e' b o (vals y ss ks.1 ls'))) ∷ all_cells ss at (after y ss ls') ∷ []) ∵
        split ! $ move ! (1 ∷ 2 ∷ []) $ use2 𝓛 (all_cells (arrays y ss) (places y ss e' o at) ls' ⊛ rest y e' o ks.1) (fields_apart y ss e' o at ks.1 ls') $
        split ! $ move ! (2 ∷ []) $
        use1 𝓛 (raw (fields_at 𝓤 H q (tys x) zero b o' (vals x (arrays y ss) ks.0 ls)) ⊛ raw (all 𝓤 (Way ν (tys x) o')))
        (𝓛.laws.at_fields q ν (tys x) b o' (vals x (arrays y ss) ks.0 ls)) $ split ! $ move ! (0 ∷ 2 ∷ []) $
        use2 𝓛 (all_cells (arrays x (arrays y ss)) (places x (arrays y ss) zero o' (places y ss e' o at)) ls ⊛ rest x zero o' ks.0)
        (fields_apart x (arrays y ss) zero o' (places y ss e' o at) ks.0 ls) $ split ! $ frame ! $ move ! (1 ∷ 0 ∷ 2 ∷ []) $ done !

    fields_joined : (y : Layout) (ss : List Stretch) (e o : ℕ) (at : Places ss) (ks : Kept y) (ls : Contents (arrays y ss))
        → ent 𝓤 (sep 𝓤 (mean 𝓛 (all_cells (arrays y ss) (places y ss e o at) ls)) (mean 𝓛 (rest y e o ks)))
        (sep 𝓤 (fields_at 𝓤 H q (tys y) e b o (vals y ss ks ls)) (mean 𝓛 (all_cells ss at (after y ss ls))))
    fields_joined end ss e o at ks ls = qed 𝓛 (all_cells ss at ls ∷ ‵ ftrue ∷ []) ∵ move ! (1 ∷ 0 ∷ []) $ done !
    fields_joined (beside τ y) ss e o at ks ls =
        let e' = next (align τ) e + size τ in
        qed 𝓛 (all_cells (arrays y ss) (places y ss e' o at) ls ∷ (‵ (fat q τ b (o + next (align τ) e) ks.0) ⊛ rest y e' o ks.1) ∷ []) ∵
        move ! (1 ∷ []) $ split ! $ move ! (2 ∷ 1 ∷ []) $
        use2 𝓛 (raw (fields_at 𝓤 H q (tys y) e' b o (vals y ss ks.1 ls)) ⊛ all_cells ss at (after y ss ls)) (fields_joined y ss e' o at ks.1 ls) $
        split ! $ move ! (2 ∷ 0 ∷ []) $ join ! $ frame ! $ done !
    fields_joined (array s y) ss e o at ks ls =
        let e' = next (align (ty s)) e + size (ty s) in
        qed 𝓛 ((‵ (cell q s b (o + next (align (ty s)) e) ls.0) ⊛ all_cells (arrays y ss) (places y ss e' o at) ls.1) ∷ rest y e' o ks ∷ []) ∵
        split ! $ move ! (1 ∷ 2 ∷ []) $
        use2 𝓛 (raw (fields_at 𝓤 H q (tys y) e' b o (vals y ss ks ls.1)) ⊛ all_cells ss at (after y ss ls.1)) (fields_joined y ss e' o at ks ls.1) $
        split ! $ move ! (2 ∷ 0 ∷ []) $ join ! $ frame ! $ done !
    fields_joined (inner ν x y) ss e o at ks ls =
        let σ = ty_struct ν (tys x) in
        let o' = o + next (align σ) e in
        let e' = next (align σ) e + size σ in
        let ls' = after x (arrays y ss) ls in
        let us = vals x (arrays y ss) ks.0 ls in
        qed 𝓛 (all_cells (arrays x (arrays y ss)) (places x (arrays y ss) zero o' (places y ss e' o at)) ls
        ∷ (raw (all 𝓤 (Way ν (tys x) o')) ⊛ rest x zero o' ks.0 ⊛ rest y e' o ks.1) ∷ []) ∵
        move ! (1 ∷ []) $ split ! $ move ! (1 ∷ []) $ split ! $ move ! (3 ∷ 0 ∷ []) $
        use2 𝓛 (raw (fields_at 𝓤 H q (tys x) zero b o' us) ⊛ all_cells (arrays y ss) (places y ss e' o at) ls')
        (fields_joined x (arrays y ss) zero o' (places y ss e' o at) ks.0 ls) $ split ! $
        -- [the inner fields; the other arrays' cells; what is beside those; the way back]
        move ! (3 ∷ []) $ use1 𝓛 (raw (Way ν (tys x) o' us)) (all_e 𝓤 (Way ν (tys x) o') us) $ move ! (1 ∷ 0 ∷ []) $
        use2 𝓛 (‵ (fat q σ b o' (vstruct us))) (apply∗ 𝓤 (fields_at 𝓤 H q (tys x) zero b o' us) (H.at q σ b o' (vstruct us))) $ move ! (1 ∷ 2 ∷ []) $
        use2 𝓛 (raw (fields_at 𝓤 H q (tys y) e' b o (vals y ss ks.1 ls')) ⊛ all_cells ss at (after y ss ls')) (fields_joined y ss e' o at ks.1 ls') $
        split ! $ move ! (2 ∷ 0 ∷ []) $ join ! $ frame ! $ done !

    -- what is beside the arrays of a struct at offset o
    abbrev pub others : Sym → (y : Layout) → ℕ → Kept y → Item 𝓤
    others ν y o ks = raw (all 𝓤 (Way ν (tys y) o)) ⊛ rest y zero o ks

    pub apart : (ν : Sym) (y : Layout) (o : ℕ) (ks : Kept y) (ls : Contents (arrays y []))
        → ent 𝓤 (H.at q (ty_struct ν (tys y)) b o (vstruct (vals y [] ks ls)))
        (mean 𝓛 (all_cells (arrays y []) (places y [] zero o tt) ls ⊛ others ν y o ks))
    apart ν y o ks ls =
        qed 𝓛 (‵ (fat q (ty_struct ν (tys y)) b o (vstruct (vals y [] ks ls))) ∷ []) ∵
        use1 𝓛 (raw (fields_at 𝓤 H q (tys y) zero b o (vals y [] ks ls)) ⊛ raw (all 𝓤 (Way ν (tys y) o))) (𝓛.laws.at_fields q ν (tys y) b o (vals y [] ks ls)) $
        split ! $ nothing ! $ move ! (1 ∷ 0 ∷ []) $
        use2 𝓛 (all_cells (arrays y []) (places y [] zero o tt) ls ⊛ rest y zero o ks) (fields_apart y [] zero o tt ks ls) $ split ! $ frame ! $ move ! (1 ∷ 0 ∷ []) $ done !

    pub joined : (ν : Sym) (y : Layout) (o : ℕ) (ks : Kept y) (ls : Contents (arrays y []))
        → ent 𝓤 (mean 𝓛 (all_cells (arrays y []) (places y [] zero o tt) ls ⊛ others ν y o ks))
        (H.at q (ty_struct ν (tys y)) b o (vstruct (vals y [] ks ls)))
    joined ν y o ks ls =
        let us = vals y [] ks ls in
        qed 𝓛 ((all_cells (arrays y []) (places y [] zero o tt) ls ⊛ (raw (all 𝓤 (Way ν (tys y) o)) ⊛ rest y zero o ks)) ∷ []) ∵ split ! $ move ! (1 ∷ []) $ split ! $
        move ! (2 ∷ 1 ∷ []) $ use2 𝓛 (raw (fields_at 𝓤 H q (tys y) zero b o us) ⊛ ‵ ftrue) (fields_joined y [] zero o tt ks ls) $ split ! $ move ! (2 ∷ []) $
        use1 𝓛 (raw (Way ν (tys y) o us)) (all_e 𝓤 (Way ν (tys y) o) us) $ move ! (1 ∷ 0 ∷ []) $
        use2 𝓛 (‵ (fat q (ty_struct ν (tys y)) b o (vstruct us))) (apply∗ 𝓤 (fields_at 𝓤 H q (tys y) zero b o us) (H.at q (ty_struct ν (tys y)) b o (vstruct us))) $
        move ! (0 ∷ []) $ keep ! (0 ∷ []) $ done !

-- ---- the steps that lead to each array, from the struct's own place
abbrev pub Paths : List Stretch → Type 0
Paths [] = Unit {0}
Paths (s ∷ ss) = List PStep × Paths ss

-- k is the number of the next field, and `into` the steps before it
abbrev pub paths : (y : Layout) (ss : List Stretch) → (List PStep → List PStep) → ℕ → Paths ss → Paths (arrays y ss)
paths end ss into k ps = ps
paths (beside τ y) ss into k ps = paths y ss into (suc k) ps
paths (array s y) ss into k ps = (into (field k ∷ []), paths y ss into (suc k) ps)
paths (inner ν x y) ss into k ps = paths x (arrays y ss) (λ st. into (field k ∷ st)) zero (paths y ss into (suc k) ps)

abbrev far : ℕ → ℕ → ℕ
far zero k = k
far (suc j) k = far j (suc k)

far_suc : (j k : ℕ) → far j (suc k) ≡ suc (far j k)
far_suc zero k = refl
far_suc (suc j) k = far_suc j (suc k)

far_zero : (j : ℕ) → far j zero ≡ j
far_zero zero = refl
far_zero (suc j) = far_suc j zero ∙ ap suc (far_zero j)

-- each path leads from a spot to its array
module _ {M : Type 1} {𝓤 : Ura M} (K : Type 0) (𝓛 : Logic 𝓤) (Γ : List (Item 𝓤)) (E : Env 𝓤 𝓛.H) (root : Spot 𝓤 𝓛.H) (b : ℕ) where
  abbrev pub Lead : (ss : List Stretch) → Paths ss → Places ss → Type 2
  Lead [] ps at = Unit {2}
  Lead (s ∷ ss) ps at = Walks K 𝓛 Γ E root ps.0 (ty s, b, at.0) × Lead ss ps.1 at.1

module _ {M : Type 1} {𝓤 : Ura M} {𝓛 : Logic 𝓤} {K : Type 0} {Γ : List (Item 𝓤)} {E : Env 𝓤 𝓛.H} (root : Spot 𝓤 𝓛.H) (b : ℕ) where
  open 𝓛 use {H}

  lead : K → (y : Layout) (ss : List Stretch) (into : List PStep → List PStep) (k e o : ℕ) (ν : Sym) (τs : Tys) (ps : Paths ss) (at : Places ss)
      → ((st : List PStep) (sp : Spot 𝓤 H) → Walks K 𝓛 Γ E (ty_struct ν τs, b, o) st sp → Walks K 𝓛 Γ E root (into st) sp)
      → ((j : ℕ) → field_at zero τs (far j k) ≡ field_at e (tys y) j)
      → Lead K 𝓛 Γ E root b ss ps at → Lead K 𝓛 Γ E root b (arrays y ss) (paths y ss into k ps) (places y ss e o at)
  lead t end ss into k e o ν τs ps at go is ws = ws
  lead t (beside τ y) ss into k e o ν τs ps at go is ws = lead t y ss into (suc k) (next (align τ) e + size τ) o ν τs ps at go (λ j. is (suc j)) ws
  lead t (array s y) ss into k e o ν τs ps at go is ws = (
    go (field k ∷ []) (ty s, b, o + next (align (ty s)) e) (fld t (is zero) (stop t)),
    lead t y ss into (suc k) (next (align (ty s)) e + size (ty s)) o ν τs ps at go (λ j. is (suc j)) ws,
  )
  lead t (inner μ x y) ss into k e o ν τs ps at go is ws =
      let σ = ty_struct μ (tys x) in
      let e' = next (align σ) e + size σ in
      lead t x (arrays y ss) (λ st. into (field k ∷ st)) zero zero (o + next (align σ) e) μ (tys x) (paths y ss into (suc k) ps) (places y ss e' o at)
      (λ st sp w. go (field k ∷ st) sp (fld t (is zero) w)) (λ j. ap (field_at zero (tys x)) (far_zero j))
      (lead t y ss into (suc k) e' o ν τs ps at go (λ j. is (suc j)) ws)

module _ {M : Type 1} {𝓤 : Ura M} (K : Type 0) (𝓛 : Logic 𝓤) (Γ : List (Item 𝓤)) (E : Env 𝓤 𝓛.H) where
  pub leads : K → (ν : Sym) (y : Layout) (b o : ℕ) → Lead K 𝓛 Γ E (ty_struct ν (tys y), b, o) b (arrays y []) (paths y [] (λ st. st) zero tt) (places y [] zero o tt)
  leads t ν y b o = lead (ty_struct ν (tys y), b, o) b t y [] (λ st. st) zero zero o ν (tys y) tt tt (λ st sp w. w) (λ j. ap (field_at zero (tys y)) (far_zero j)) tt
