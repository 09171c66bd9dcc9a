-- Small values that are copied out of a lent struct and passed to a call, before its other parameters: as slots of a signature, as arguments, and as machine
-- values. What such a value owns is had for nothing.
use mathlib.Core.Path.{◌≡◌, refl, ap}
use Prim.Native.Nat.{ℕ}
use mathlib.Core.List.{[], ◌∷◌, List}
use seplogic.Ra.Ura.{Ura}
use mir.Val.{Val}
use base.Logic.{ent}
use types.Logic.{Logic, sem}
use contract.Lifetimes.{Lfts}
use types.Kit.{‵, ◌$◌, ◌∵◌, !, qed, drop, use1, fsplit, done}
use denote.RattleType.{RattleType, Denots, Valss, flat, owns}
use denote.Laws.{Is, Makes}
use denote.Signature.{Slot, plain, types_at}
use denote.Steps.{owned}
use denote.Triple.End.{Fins, Outs, outs, lasts_of, all}
use denote.Exit.{yes}

pub record Small : Type 2 where
  pub row : RattleType
  pub val : row.Denot → Val
  pub plain : {M : Type 1} {𝓤 : Ura M} (𝓛 : Logic 𝓤) → Makes 𝓛 row (Is row)

abbrev pub Values : List Small → Type 0
Values [] = Unit {0}
Values (c ∷ cs) = c.row.Denot × Values cs

abbrev pub copied : (cs : List Small) → Values cs → List Val → List Val
copied [] xs vs = vs
copied (c ∷ cs) xs vs = c.val xs.0 ∷ copied cs xs.1 vs

abbrev pub Are : (cs : List Small) → Values cs → Type 0
Are [] xs = Unit {0}
Are (c ∷ cs) xs = Is c.row xs.0 (c.val xs.0 ∷ []) × Are cs xs.1

module _ (n : ℕ) where
  abbrev pub slots_on : List Small → List (Slot n) → List (Slot n)
  slots_on [] ss = ss
  slots_on (c ∷ cs) ss = plain (λ κs. c.row) ∷ slots_on cs ss

  module _ (ss : List (Slot n)) (κs : Lfts n) where
    abbrev Types : List Small → List RattleType
    Types cs = types_at {n = n} (slots_on cs ss) κs

    abbrev pub args_on : (cs : List Small) → Values cs → Denots (types_at {n = n} ss κs) → Denots (Types cs)
    args_on [] xs a = a
    args_on (c ∷ cs) xs a = (xs.0, args_on cs xs.1 a)

    abbrev pub valss_on : (cs : List Small) → Values cs → Valss (types_at {n = n} ss κs) → Valss (Types cs)
    valss_on [] xs vss = vss
    valss_on (c ∷ cs) xs vss = (c.val xs.0 ∷ [], valss_on cs xs.1 vss)

    pub flat_on : (cs : List Small) (xs : Values cs) (vss : Valss (types_at {n = n} ss κs)) → flat (Types cs) (valss_on cs xs vss) ≡ copied cs xs (flat (types_at {n = n} ss κs) vss)
    flat_on [] xs vss = refl
    flat_on (c ∷ cs) xs vss = ap (λ (vs : List Val). c.val xs.0 ∷ vs) (flat_on cs xs.1 vss)

    abbrev pub values_of : (cs : List Small) → Denots (Types cs) → Values cs
    values_of [] a = tt
    values_of (c ∷ cs) a = (a.0, values_of cs a.1)

    abbrev pub after_args : (cs : List Small) → Denots (Types cs) → Denots (types_at {n = n} ss κs)
    after_args [] a = a
    after_args (c ∷ cs) a = after_args cs a.1

    abbrev pub after_outs : (cs : List Small) → Outs κs (slots_on cs ss) (all yes (slots_on cs ss)) → Outs κs ss (all yes ss)
    after_outs [] e = e
    after_outs (c ∷ cs) e = after_outs cs e.1

    module _ (a : Denots (types_at {n = n} ss κs)) where
      pub values_are : (cs : List Small) (xs : Values cs) → values_of cs (args_on cs xs a) ≡ xs
      values_are [] xs = refl
      values_are (c ∷ cs) xs = λ i. (xs.0, values_are cs xs.1 i)

      pub after_are : (cs : List Small) (xs : Values cs) → after_args cs (args_on cs xs a) ≡ a
      after_are [] xs = refl
      after_are (c ∷ cs) xs = after_are cs xs.1

      abbrev pub Bound : (cs : List Small) → Values cs → Type 0
      Bound cs xs = Fins κs (slots_on cs ss) (all yes (slots_on cs ss)) (args_on cs xs a)

      abbrev pub after_ends : (cs : List Small) (xs : Values cs) → Bound cs xs → Fins κs ss (all yes ss) a
      after_ends [] xs ws = ws
      after_ends (c ∷ cs) xs ws = after_ends cs xs.1 ws.1

      pub outs_are : (cs : List Small) (xs : Values cs) (ws : Bound cs xs)
          → after_outs cs (outs κs (slots_on cs ss) (all yes (slots_on cs ss)) (args_on cs xs a) ws) ≡ outs κs ss (all yes ss) a (after_ends cs xs ws)
      outs_are [] xs ws = refl
      outs_are (c ∷ cs) xs ws = outs_are cs xs.1 ws.1

      module _ {M : Type 1} {𝓤 : Ura M} (𝓛 : Logic 𝓤) where
        pub owned_on : (cs : List Small) (xs : Values cs) → Are cs xs → (vss : Valss (types_at {n = n} ss κs))
            → ent 𝓤 (sem 𝓛 (owns (types_at {n = n} ss κs) a vss)) (sem 𝓛 (owns (Types cs) (args_on cs xs a) (valss_on cs xs vss)))
        owned_on [] xs gs vss = qed 𝓛 (‵ (owns (types_at {n = n} ss κs) a vss) ∷ []) ∵ done !
        owned_on (c ∷ cs) xs gs vss =
            qed 𝓛 (‵ (owns (types_at {n = n} ss κs) a vss) ∷ []) ∵
            use1 𝓛 (‵ (owns (Types cs) (args_on cs xs.1 a) (valss_on cs xs.1 vss))) (owned_on cs xs.1 gs.1 vss) $
            owned ! c.row (Is c.row) (c.plain 𝓛) xs.0 _ gs.0 $ done !

        pub left_on : (cs : List Small) (xs : Values cs) (ws : Bound cs xs)
            → ent 𝓤 (sem 𝓛 (lasts_of κs (slots_on cs ss) (all yes (slots_on cs ss)) (args_on cs xs a) ws)) (sem 𝓛 (lasts_of κs ss (all yes ss) a (after_ends cs xs ws)))
        left_on [] xs ws = qed 𝓛 (‵ (lasts_of κs ss (all yes ss) a ws) ∷ []) ∵ done !
        left_on (c ∷ cs) xs ws =
            qed 𝓛 (‵ (lasts_of κs (slots_on (c ∷ cs) ss) (all yes (slots_on (c ∷ cs) ss)) (args_on (c ∷ cs) xs a) ws) ∷ []) ∵ fsplit ! $ drop ! $
            use1 𝓛 (‵ (lasts_of κs ss (all yes ss) a (after_ends cs xs.1 ws.1))) (left_on cs xs.1 ws.1) $ done !
