-- THE REFUSAL NUMBERS, by the names that the code gives them.
use Rattle.std.specs.Prelude.{ℕ, Result, Ok, Err}
use Rattle.refusals.specs.declared.Refusal.{Refusal}
use Rattle.refusals.specs.declared.Refusal.TheVariants as named

abbrev pub number_of : Refusal → ℕ
number_of named.OutsideTheMap = 1
number_of named.ReadOnly = 2
number_of named.AboveLargest = 3
number_of named.LimitsTooClose = 4
number_of named.NothingToHit = 5
number_of named.NoInput = 6
number_of named.SampleOutOfRange = 7
number_of named.CommandNotPossible = 8
number_of named.SheetTooLarge = 9
number_of named.SheetCutShort = 10
number_of named.SheetLengthened = 11
number_of named.NoEvent = 12
number_of named.OutputTooShort = 13
number_of named.BucketOutOfBounds = 14
number_of named.TableNotLoaded = 15
number_of named.NotOfAWeek = 16

-- 0 for what is carried out, and else the number of the refusal
abbrev pub number : {A : Type 0} → Result A Refusal → ℕ
number (Ok _) = 0
number (Err r) = number_of r
