-- The key of a candidate: its priority, then its number. The best candidate is the number of the least key.
use Rattle.std.specs.Prelude.{ℕ, zero, suc, ◌+◌, ◌*◌, min, List, [], ◌∷◌, if◌then◌else◌}
use Rattle.rules.specs.Settings.{Settings, priority, usable}
use Rattle.rules.specs.Inputs.{Inputs}
use Rattle.rules.specs.Selection.{candidate}

-- above every key; its number is 0
abbrev pub no_key : ℕ
no_key = 128

-- the key that a candidate has by the settings alone, where it is unmasked or, as Free Run, enabled
unfoldable pub settings_key : Settings → ℕ → ℕ
settings_key set c = if usable set c then priority set c * 16 + c else no_key

-- the keys of the inputs 1 to 8 and of Free Run
unfoldable pub keys_from : Settings → List ℕ
keys_from set =
    settings_key set 1 ∷ settings_key set 2 ∷ settings_key set 3 ∷ settings_key set 4 ∷ settings_key set 5 ∷ settings_key set 6 ∷ settings_key set 7
    ∷ settings_key set 8 ∷ settings_key set 9 ∷ []

unfoldable pub key_of : Settings → Inputs → ℕ → ℕ
key_of set inputs c = if candidate set inputs c then priority set c * 16 + c else no_key

-- the least key of the candidates 1 to k
unfoldable pub least_key : Settings → Inputs → ℕ → ℕ
least_key set inputs zero = no_key
least_key set inputs (suc k) = min (key_of set inputs (suc k)) (least_key set inputs k)
