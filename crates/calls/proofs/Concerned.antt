-- The inputs that a call concerns: by the code a row with 1 for each and 0 for the others, by the rules a test.
use Rattle.std.specs.Prelude.{if◌then◌else◌}
use Prim.Native.Nat.{ℕ, ◌-◌}
use mathlib.Core.Path.{◌≡◌, refl}
use mathlib.Core.Bool.{Bool, true, false}
use lib.ListN.{get_or}
use Rattle.rules.specs.Monitors.{at_size}
use Rattle.rules.specs.Inputs.{each_from}
use Rattle.rules.specs.Buckets.{put_at_size}
use Rattle.buckets.specs.Bridge.{eight}
use Rattle.inputs.specs.Bridge.{is_set, input_at, inputs_of}
use Rattle.inputs.specs.declared.Monitors.{Monitors}

-- a test as a number, 1 or 0
set_if : (t : Bool) → is_set (if t then 1 else 0) ≡ t
set_if true = refl
set_if false = refl

pub concerned :
    (m : Monitors) (size : ℕ) (test : ℕ → Bool)
    → put_at_size (λ i. is_set (get_or (eight (λ k. if test k then 1 else 0)) (i - 1) 0)) size (inputs_of m) ≡ put_at_size (λ i. test (i - 1)) size (inputs_of m)
unfolding put_at_size each_from inputs_of
concerned m size test = λ j. eight (λ k. let x = input_at m k in if set_if (test k) j then at_size size x else x)
