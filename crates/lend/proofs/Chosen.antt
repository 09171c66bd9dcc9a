-- Which of a struct's arrays are lent to a call, and how: the others stay where they are. The cells of those that are lent, apart from the others; and the locals
-- that hold the references to them.
use mathlib.Core.Path.{◌≡◌, refl}
use Prim.Native.Nat.{ℕ, zero, suc}
use mathlib.Core.List.{[], ◌∷◌, List}
use lib.ListN.{get_or}
use seplogic.Ra.Ura.{Ura}
use mir.Syntax.{Ty, place, deref, addr_of, copy, Opd as Operand, Step as PStep, Body as Code, seq, assign}
use mir.Val.{Val, vptr}
use base.Fraction.{full_share}
use base.Logic.{ent}
use base.Fml.{Share, ftrue, fat}
use prog.Wp.{Env, Spot, Calls, Loops, no_local}
use types.Logic.{Logic}
use types.Kit.{Item, Step, step, Post as Aim, runs, ‵, ◌⊛◌, mean, ◌$◌, ◌∵◌, !, qed, by, move, keep, use1, split, join, frame, done}
use types.Run.{Reads, Walks, Opds, stop, hop, look, init, addr, load, and_then, assigns}
use types.Part.{Part, whole}
use denote.Laws.{Typed}
use denote.Steps.{nothing}
use Rattle.lend.proofs.Row.{Blocks, Stand, rooms, cells as row-cells, found, in_left, in_right}
use Rattle.lend.proofs.Loan.{Stretch, ty, Sound, cell, Mode}
use Rattle.lend.proofs.Loans.{Loan, Lists, Sounds, Offsets, cells, pointers, ref_tys}
use Rattle.lend.proofs.Fields.{Contents, Places, Paths, Lead, all_cells}

pub data Mark : Type 0 where
  stays : Mark
  goes : Mode → Mark

-- each goes
abbrev pub each : List Stretch → Mode → List Mark
each [] m = []
each (s ∷ ss) m = goes m ∷ each ss m

-- those that are lent; an array after the last mark stays
abbrev pub loans : List Stretch → List Mark → List Loan
loans [] ms = []
loans (s ∷ ss) [] = []
loans (s ∷ ss) (stays ∷ ms) = loans ss ms
loans (s ∷ ss) (goes m ∷ ms) = record { mode = m; stretch = s } ∷ loans ss ms

-- their lists, and all lists with others in place of theirs
abbrev pub chosen : (ss : List Stretch) (ms : List Mark) → Contents ss → Lists (loans ss ms)
chosen [] ms ls = tt
chosen (s ∷ ss) [] ls = tt
chosen (s ∷ ss) (stays ∷ ms) ls = chosen ss ms ls.1
chosen (s ∷ ss) (goes m ∷ ms) ls = (ls.0, chosen ss ms ls.1)

abbrev pub changed : (ss : List Stretch) (ms : List Mark) → Contents ss → Lists (loans ss ms) → Contents ss
changed [] ms ls zs = tt
changed (s ∷ ss) [] ls zs = ls
changed (s ∷ ss) (stays ∷ ms) ls zs = (ls.0, changed ss ms ls.1 zs)
changed (s ∷ ss) (goes m ∷ ms) ls zs = (zs.0, changed ss ms ls.1 zs.1)

pub chosen_back : (ss : List Stretch) (ms : List Mark) (ls : Contents ss) → changed ss ms ls (chosen ss ms ls) ≡ ls
chosen_back [] ms ls = refl
chosen_back (s ∷ ss) [] ls = refl
chosen_back (s ∷ ss) (stays ∷ ms) ls = λ i. (ls.0, chosen_back ss ms ls.1 i)
chosen_back (s ∷ ss) (goes m ∷ ms) ls = λ i. (ls.0, chosen_back ss ms ls.1 i)

abbrev pub offsets : (ss : List Stretch) (ms : List Mark) → Places ss → Offsets (loans ss ms)
offsets [] ms at = tt
offsets (s ∷ ss) [] at = tt
offsets (s ∷ ss) (stays ∷ ms) at = offsets ss ms at.1
offsets (s ∷ ss) (goes m ∷ ms) at = (at.0, offsets ss ms at.1)

-- what is known of all lists
abbrev pub AllSound : (ss : List Stretch) → Contents ss → Type 0
AllSound [] ls = Unit {0}
AllSound (s ∷ ss) ls = Sound s ls.0 × AllSound ss ls.1

pub sound_chosen : (ss : List Stretch) (ms : List Mark) (ls : Contents ss) → AllSound ss ls → Sounds (loans ss ms) (chosen ss ms ls)
sound_chosen [] ms ls gs = tt
sound_chosen (s ∷ ss) [] ls gs = tt
sound_chosen (s ∷ ss) (stays ∷ ms) ls gs = sound_chosen ss ms ls.1 gs.1
sound_chosen (s ∷ ss) (goes m ∷ ms) ls gs = (gs.0, sound_chosen ss ms ls.1 gs.1)

pub sound_changed : (ss : List Stretch) (ms : List Mark) (ls : Contents ss) (zs : Lists (loans ss ms)) → AllSound ss ls → Sounds (loans ss ms) zs
    → AllSound ss (changed ss ms ls zs)
sound_changed [] ms ls zs gs hs = tt
sound_changed (s ∷ ss) [] ls zs gs hs = gs
sound_changed (s ∷ ss) (stays ∷ ms) ls zs gs hs = (gs.0, sound_changed ss ms ls.1 zs gs.1 hs)
sound_changed (s ∷ ss) (goes m ∷ ms) ls zs gs hs = (hs.0, sound_changed ss ms ls.1 zs.1 gs.1 hs.1)

-- ---- the cells
module _ {M : Type 1} {𝓤 : Ura M} (𝓛 : Logic 𝓤) (q : Share) (b : ℕ) where
  abbrev pub staying : (ss : List Stretch) (ms : List Mark) → Places ss → Contents ss → Item 𝓤
  staying [] ms at ls = ‵ ftrue
  staying (s ∷ ss) [] at ls = all_cells 𝓛 q b (s ∷ ss) at ls
  staying (s ∷ ss) (stays ∷ ms) at ls = ‵ (cell q s b at.0 ls.0) ⊛ staying ss ms at.1 ls.1
  staying (s ∷ ss) (goes m ∷ ms) at ls = staying ss ms at.1 ls.1

  module _ where
    pub lent_apart : (ss : List Stretch) (ms : List Mark) (at : Places ss) (ls : Contents ss)
        → ent 𝓤 (mean 𝓛 (all_cells 𝓛 q b ss at ls)) (mean 𝓛 (cells q (loans ss ms) b (offsets ss ms at) (chosen ss ms ls) ⊛ staying ss ms at ls))
    lent_apart [] ms at ls = qed 𝓛 (‵ ftrue ∷ []) ∵ nothing ! $ done !
    lent_apart (s ∷ ss) [] at ls = qed 𝓛 (all_cells 𝓛 q b (s ∷ ss) at ls ∷ []) ∵ nothing ! $ done !
    lent_apart (s ∷ ss) (stays ∷ ms) at ls =
        qed 𝓛 ((‵ (cell q s b at.0 ls.0) ⊛ all_cells 𝓛 q b ss at.1 ls.1) ∷ []) ∵ split ! $ move ! (1 ∷ []) $
        use1 𝓛 (cells q (loans ss ms) b (offsets ss ms at.1) (chosen ss ms ls.1) ⊛ staying ss ms at.1 ls.1) (lent_apart ss ms at.1 ls.1) $
        split ! $ frame ! $ move ! (1 ∷ 0 ∷ []) $ done !
    lent_apart (s ∷ ss) (goes m ∷ ms) at ls =
        qed 𝓛 ((‵ (cell q s b at.0 ls.0) ⊛ all_cells 𝓛 q b ss at.1 ls.1) ∷ []) ∵ split ! $ move ! (1 ∷ []) $
        use1 𝓛 (cells q (loans ss ms) b (offsets ss ms at.1) (chosen ss ms ls.1) ⊛ staying ss ms at.1 ls.1) (lent_apart ss ms at.1 ls.1) $
        split ! $ move ! (2 ∷ 0 ∷ []) $ join ! $ frame ! $ done !

    pub all_again : (ss : List Stretch) (ms : List Mark) (at : Places ss) (ls : Contents ss) (zs : Lists (loans ss ms))
        → ent 𝓤 (mean 𝓛 (cells q (loans ss ms) b (offsets ss ms at) zs ⊛ staying ss ms at ls)) (mean 𝓛 (all_cells 𝓛 q b ss at (changed ss ms ls zs)))
    all_again [] ms at ls zs = qed 𝓛 ((‵ ftrue ⊛ ‵ ftrue) ∷ []) ∵ split ! $ keep ! (0 ∷ []) $ done !
    all_again (s ∷ ss) [] at ls zs = qed 𝓛 ((‵ ftrue ⊛ all_cells 𝓛 q b (s ∷ ss) at ls) ∷ []) ∵ split ! $ keep ! (1 ∷ []) $ done !
    all_again (s ∷ ss) (stays ∷ ms) at ls zs =
        qed 𝓛 ((cells q (loans ss ms) b (offsets ss ms at.1) zs ⊛ (‵ (cell q s b at.0 ls.0) ⊛ staying ss ms at.1 ls.1)) ∷ []) ∵
        split ! $ move ! (1 ∷ []) $ split ! $ frame ! $ move ! (1 ∷ 0 ∷ []) $ join ! $ by ! (all_again ss ms at.1 ls.1 zs)
    all_again (s ∷ ss) (goes m ∷ ms) at ls zs =
        qed 𝓛 (((‵ (cell q s b at.0 zs.0) ⊛ cells q (loans ss ms) b (offsets ss ms at.1) zs.1) ⊛ staying ss ms at.1 ls.1) ∷ []) ∵
        split ! $ split ! $ frame ! $ join ! $ by ! (all_again ss ms at.1 ls.1 zs.1)

-- ---- the references
abbrev pub Steps : List Loan → Type 0
Steps [] = Unit {0}
Steps (f ∷ fs) = List PStep × Steps fs

abbrev pub steps : (ss : List Stretch) (ms : List Mark) → Paths ss → Steps (loans ss ms)
steps [] ms ps = tt
steps (s ∷ ss) [] ps = tt
steps (s ∷ ss) (stays ∷ ms) ps = steps ss ms ps.1
steps (s ∷ ss) (goes m ∷ ms) ps = (ps.0, steps ss ms ps.1)

-- the code that stores their addresses in the locals from the n-th on: the struct's type is σ, and local 1 is the reference to it
abbrev pub takes : (fs : List Loan) → Steps fs → Ty → ℕ → Code → Code
takes [] st σ n rest = rest
takes (f ∷ fs) st σ n rest = seq (assign (place n []) (addr_of (place 1 (deref σ ∷ st.0)))) (takes fs st.1 σ (suc n) rest)

module _ {M : Type 1} {𝓤 : Ura M} (K : Type 0) (𝓛 : Logic 𝓤) (Γ : List (Item 𝓤)) (E : Env 𝓤 𝓛.H) (root : Spot 𝓤 𝓛.H) (b : ℕ) where
  abbrev pub Led : (fs : List Loan) → Steps fs → Offsets fs → Type 2
  Led [] st at = Unit {2}
  Led (f ∷ fs) st at = Walks K 𝓛 Γ E root st.0 (ty f.stretch, b, at.0) × Led fs st.1 at.1

  pub led : (ss : List Stretch) (ms : List Mark) (ps : Paths ss) (at : Places ss) → Lead K 𝓛 Γ E root b ss ps at → Led (loans ss ms) (steps ss ms ps) (offsets ss ms at)
  led [] ms ps at ws = tt
  led (s ∷ ss) [] ps at ws = tt
  led (s ∷ ss) (stays ∷ ms) ps at ws = led ss ms ps.1 at.1 ws.1
  led (s ∷ ss) (goes m ∷ ms) ps at ws = (ws.0, led ss ms ps.1 at.1 ws.1)

pub pointers_typed : (fs : List Loan) (b : ℕ) (at : Offsets fs) → Typed (ref_tys fs) (pointers fs b at [])
pointers_typed [] b at = tt
pointers_typed (f ∷ fs) b at = ((tt, tt), pointers_typed fs b at.1)

module _ {M : Type 1} {𝓤 : Ura M} {𝓛 : Logic 𝓤} {K : Type 0} {C : Calls 𝓤 𝓛.H} {Λ : Loops 𝓤 𝓛.H} {E : Env 𝓤 𝓛.H} {q : Aim 𝓤 𝓛.H} {rest : Code} where
  -- the reference to the struct, of type ρ, lies in local 1
  open 𝓛 use {H}

  pub take_row : K → (fs : List Loan) (st : Steps fs) (σ ρ : Ty) (l b o : ℕ) → get_or E 1 (no_local 𝓤 H) ≡ (ρ, l)
      → (at : Offsets fs) (bs : Blocks (ref_tys fs)) (n : ℕ) → Stand E (no_local 𝓤 H) n (ref_tys fs) bs → ((Γ : List (Item 𝓤)) → Led K 𝓛 Γ E (σ, b, o) b fs st at)
      → {Γ : List (Item 𝓤)}
      → Step K 𝓛 (row-cells (ref_tys fs) (pointers fs b at []) bs ∷ ‵ (fat full_share ρ l zero (vptr b o)) ∷ Γ) (runs C Λ E rest q)
      (rooms (ref_tys fs) bs ∷ ‵ (fat full_share ρ l zero (vptr b o)) ∷ Γ) (runs C Λ E (takes fs st σ n rest) q)
  take_row t [] st σ ρ l b o one at bs n stand go = step (λ s. s)
  take_row t (f ∷ fs) st σ ρ l b o one at bs n stand go =
      step (λ s. split t $ split t $
      assigns t (addr t (found t one (hop t (look t 3 refl) (go _).0))) (found t stand.0 (stop t)) (init t 0 refl (tt, tt)) $ move t (2 ∷ 3 ∷ []) $
      take_row t fs st.1 σ ρ l b o one at.1 bs.1 (suc n) stand.1 (λ Γ. (go Γ).1) $ move t (2 ∷ 3 ∷ 0 ∷ []) $ join t $ join t $ s)

-- the references as operands, before others
abbrev pub ref_copies : (fs : List Loan) → ℕ → List Operand → List Operand
ref_copies [] n os = os
ref_copies (f ∷ fs) n os = copy (place n []) ∷ ref_copies fs (suc n) os

module _ {M : Type 1} {𝓤 : Ura M} {𝓛 : Logic 𝓤} {K : Type 0} {Γ : List (Item 𝓤)} {E : Env 𝓤 𝓛.H} where
  open 𝓛 use {H}

  pub read_refs : K → (fs : List Loan) (b : ℕ) (at : Offsets fs) (bs : Blocks (ref_tys fs)) (n : ℕ) → Stand E (no_local 𝓤 H) n (ref_tys fs) bs
      → ((τ : Ty) (l : ℕ) (v : Val) (back : Val → Item 𝓤) → Part K 𝓛 (row-cells (ref_tys fs) (pointers fs b at []) bs) full_share τ l zero v back → Reads K 𝓛 Γ τ l zero v)
      → {os : List Operand} {us : List Val} → Opds K 𝓛 Γ E os us → Opds K 𝓛 Γ E (ref_copies fs n os) (pointers fs b at us)
  read_refs t [] b at bs n stand look' others = others
  read_refs t (f ∷ fs) b at bs n stand look' others =
      and_then t (load t (found t stand.0 (stop t)) (look' _ bs.0 (vptr b at.0) _ (in_left t (in_left t (whole t)))))
      (read_refs t fs b at.1 bs.1 (suc n) stand.1 (λ τ l v back p. look' τ l v _ (in_right t p)) others)
