-- Eight values, one for each lane.
use Rattle.std.specs.Prelude.{◌≡◌, ℕ, List, [], ◌∷◌}

-- what is said of eight values, each given for its lane
abbrev pub Eight : {A : Type 0} → (ℕ → A → Type 0) → List A → Type 0
Eight {A} gives xs =
    (a b c d e f g h : A) × (xs ≡ a ∷ b ∷ c ∷ d ∷ e ∷ f ∷ g ∷ h ∷ [])
    × gives 0 a × gives 1 b × gives 2 c × gives 3 d × gives 4 e × gives 5 f × gives 6 g × gives 7 h
