-- Request #105, as a table: "A buyer wants units that wake in automatic control." Input 1 is measured, and its ticks are clean; nothing is written.
use Rattle.std.specs.Prelude.{ℕ, true, List, [], ◌∷◌, ◌++◌, pos, replicate}
use Rattle.rules.specs.Events.{tick_with, measurement}
use Rattle.rules.specs.State.{State}
use Rattle.rules.specs.Reading.{read}
use Rattle.rules.specs.Run.{run}
use Rattle.rules.specs.Loading.{loads, fresh_from}
use Rattle.rules.specs.Table.{Row, ◌is◌, Holds}

-- the buyer's table: input 1 revertive and of priority 1; control 1, the mask of inputs 1 and 2, a delay of 5 minutes, and the limits as they are
abbrev buyers : List ℕ
buyers =
    0b1001 ∷ replicate 7 0  -- 0x1c to 0x23
    ++ replicate 4 0  -- 0x24 to 0x27
    ++ (1 ∷ 0 ∷ 0b11 ∷ 5 ∷ 31 ∷ 25 ∷ [])  -- 0x40 to 0x45
    ++ replicate 9 0  -- 0x46 to 0x4e

-- after so many ticks
abbrev after : ℕ → State
after k = run (fresh_from buyers) (measurement 1 (pos 0) ∷ replicate k (tick_with 0 true (pos 0)))

unfoldable pub table : List Row
table =
    loads buyers is true
    ∷ (read (after 0) 0x40).byte is 1
    -- "selected 0, Free Run"
    ∷ (read (after 0) 0x48).byte is 0x00
    -- 79 ticks qualify input 1, which is selected: Pre-locked; 16 more: Locked
    ∷ (read (after 78) 0x48).byte is 0x00
    ∷ (read (after 79) 0x48).byte is 0x21
    ∷ (read (after 95) 0x48).byte is 0x31
    ∷ []

abbrev pub AutomaticStart : Type 0
AutomaticStart = Holds table
