-- A law of tests that the candidates need.
use mathlib.Core.Path.{◌≡◌, refl}
use mathlib.Core.Bool.{Bool, true, false, ◌&&◌}

-- a test that both halves make is made once
pub and_again : (i b q : Bool) → ((i && b) && (i && q)) ≡ ((i && (i && b)) && q)
and_again true b q = refl
and_again false b q = refl
