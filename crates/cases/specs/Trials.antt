-- Document 01, "Marked trials": cases A to J in full, as one table.
use Rattle.std.specs.Prelude.{ℕ, Bool, true, false, List, [], ◌∷◌, ◌++◌, ℤ, pos, neg_ℤ, replicate}
use Rattle.rules.specs.Events.{Event, tick_with, old_kind, write}
use Rattle.rules.specs.Settings.{delay_ticks}
use Rattle.rules.specs.Inputs.{input}
use Rattle.rules.specs.History.{replaced, value, fresh_history}
use Rattle.rules.specs.State.{State, selected}
use Rattle.rules.specs.Registers.{fresh}
use Rattle.rules.specs.Reading.{read}
use Rattle.rules.specs.Refusals.{refusal}
use Rattle.rules.specs.Run.{run}
use Rattle.rules.specs.Table.{Row, ◌is◌, Holds}

-- ---- the words of the table

-- what is looked at in the state that some events leave from the standard fresh unit, on which document 01 has its cases
infix 69 ◌after◌
abbrev ◌after◌ : {A : Type 0} → (State → A) → List Event → A
look after events = look (run fresh events)

-- input 1's alarms
abbrev activity_alarm : State → Bool
activity_alarm s = (input s.inputs 1).activity.alarm

abbrev frequency_alarm : State → Bool
frequency_alarm s = (input s.inputs 1).frequency

abbrev set : Bool
set = true

abbrev clear : Bool
clear = false

abbrev register : ℕ → State → ℕ
register a s = (read s a).byte

-- the number that a write of v to a is turned down with, 0 if it is accepted
abbrev writing : ℕ → ℕ → State → ℕ
writing a v s = refusal s (write a v)

-- n ticks: irregular for input 1; clean for all inputs, without lock and with it
abbrev irregular : ℕ → List Event
irregular n = replicate n (tick_with 1 false (pos 0))

abbrev clean : ℕ → List Event
clean n = replicate n (tick_with 0 false (pos 0))

abbrev locked : ℕ → List Event
locked n = replicate n (tick_with 0 true (pos 0))

-- a measurement of input i; document 02, #106: "Cases C and D are of the old kind"
abbrev measured : ℕ → ℤ → List Event
measured i offset = old_kind i offset ∷ []

abbrev minus : ℕ → ℤ
minus n = neg_ℤ (pos n)

-- a write
infix 70 ◌≔◌
abbrev ◌≔◌ : ℕ → ℕ → List Event
a ≔ v = write a v ∷ []

abbrev automatic : List Event
automatic = 0x40 ≔ 1

-- J: input 2, with this register, is measured and becomes qualified, while input 1 is not
abbrev second : ℕ → List Event
second register = automatic ++ 0x1d ≔ register ++ measured 2 (pos 0) ++ clean 79

-- and then input 1, which has priority 0 as input 2 has
abbrev first : List Event
first = measured 1 (pos 0) ++ clean 79

-- ---- the table

unfoldable pub table : List Row
table =
    -- A "five irregular ticks: no alarm; a sixth: alarm."
    activity_alarm after irregular 5 is clear
    ∷ activity_alarm after irregular 6 is set
    -- B "then three clean ticks: alarm; a fourth: clear."
    ∷ activity_alarm after (irregular 6 ++ clean 3) is set
    ∷ activity_alarm after (irregular 6 ++ clean 4) is clear
    -- C "offset −128 sets."
    ∷ frequency_alarm after (measured 1 (pos 0)) is clear
    ∷ frequency_alarm after (measured 1 (pos 0) ++ measured 1 (minus 128)) is set
    -- D "fresh limits: 32 sets,
    ∷ frequency_alarm after (measured 1 (pos 0) ++ measured 1 (pos 32)) is set
    -- 31 and 26 keep": each keeps a clear alarm, and a set one
    ∷ frequency_alarm after (measured 1 (pos 0) ++ measured 1 (pos 31)) is clear
    ∷ frequency_alarm after (measured 1 (pos 32) ++ measured 1 (pos 31)) is set
    ∷ frequency_alarm after (measured 1 (pos 0) ++ measured 1 (pos 26)) is clear
    ∷ frequency_alarm after (measured 1 (pos 32) ++ measured 1 (pos 26)) is set
    -- "25 clears."
    ∷ frequency_alarm after (measured 1 (pos 32) ++ measured 1 (pos 25)) is clear
    -- E "fresh: 0x44 = 30 gives 4; after 0x45 = 24 it is accepted."
    ∷ writing 0x44 30 after [] is 4
    ∷ writing 0x45 24 after [] is 0
    ∷ writing 0x44 30 after (0x45 ≔ 24) is 0
    -- F "automatic, measurement 0 on input 1, 78 clean ticks: 0x48 is 0x00; the 79th: 0x21."
    ∷ register 0x48 after (automatic ++ measured 1 (pos 0) ++ clean 78) is 0x00
    ∷ register 0x48 after (automatic ++ measured 1 (pos 0) ++ clean 79) is 0x21
    -- G "15 lock ticks more: 0x21; a 16th: 0x31."
    ∷ register 0x48 after (automatic ++ measured 1 (pos 0) ++ clean 79 ++ locked 15) is 0x21
    ∷ register 0x48 after (automatic ++ measured 1 (pos 0) ++ clean 79 ++ locked 16) is 0x31
    -- H "kept block sums −1 and 42 times 0: value −1."
    ∷ value (replaced (minus 1 ∷ replicate 42 (pos 0)) fresh_history) is minus 1
    -- I "delay 1: n = 469; delay 255: 119,532."
    ∷ delay_ticks 1 is 469
    ∷ delay_ticks 255 is 119_532
    -- J "input 2 selected, revertive, delay 0: input 1 of equal priority takes over;
    ∷ selected after second 0b1000 is 2
    ∷ selected after (second 0b1000 ++ first) is 1
    -- non-revertive: it doesn't."
    ∷ selected after second 0b0000 is 2
    ∷ selected after (second 0b0000 ++ first) is 2
    ∷ []

abbrev pub Trials : Type 0
Trials = Holds table
