-- Laws of choices.
use Rattle.std.specs.Prelude.{if◌then◌else◌}
use mathlib.Core.Path.{◌≡◌, refl, ap, ◌∙◌}
use mathlib.Core.Bool.{Bool, true, false}

-- what is made of a choice is a choice of what is made
pub if_map : {A B : Type 0} (f : A → B) (t : Bool) (x y : A) → f (if t then x else y) ≡ (if t then f x else f y)
if_map f true x y = refl
if_map f false x y = refl

-- the same of two choices, one in the other, each with a result of its own
pub if_map_2 : {A B : Type 0} (f : A → B) (t u : Bool) (x y z : A) {r s : A} → s ≡ (if u then y else z) → r ≡ (if t then x else s)
    → f r ≡ (if t then f x else (if u then f y else f z))
if_map_2 f t u x y z {r} {s} p q = ap f q ∙ if_map f t x s ∙ ap (λ b. if t then f x else b) (ap f p ∙ if_map f u y z)
