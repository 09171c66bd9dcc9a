-- The traps of document 01 and the cheap programs of "Every result is settled", avoided, and a few more wrong rules, each of them an edit in must-fail that is
-- refused at its row: for each a small case in which the rules give something else. All further cases run as tests.
-- A run is from the standard fresh unit, or from a unit that is written down: one history is enough to tell a wrong rule.
use Rattle.std.specs.Prelude.{ℕ, Bool, true, false, List, [], ◌∷◌, pos, negsuc, replicate, set, take, if◌then◌else◌}
use Rattle.rules.specs.Events.{tick_with, hit, write, set_bucket, assign_bucket, set_week, set_windows}
use Rattle.rules.specs.Monitors.{Activity, Input, measured, full_soak}
use Rattle.rules.specs.Pll.{holdover, pre_locked}
use Rattle.rules.specs.Settings.{Settings}
use Rattle.rules.specs.Week.{Window}
use Rattle.rules.specs.Inputs.{Inputs, input}
use Rattle.rules.specs.Selection.{Choice, settled, chosen, wait_after, switches}
use Rattle.rules.specs.History.{History, ready, with_blocks, completed, noted, value, replaced, fresh_history}
use Rattle.rules.specs.State.{State, selected, with_inputs, with_settings, with_loop, with_holding}
use Rattle.rules.specs.Tick.{holding_after}
use Rattle.rules.specs.Registers.{slot, written, fresh_table, fresh}
use Rattle.rules.specs.Reading.{read}
use Rattle.rules.specs.Refusals.{refusal}
use Rattle.rules.specs.Run.{next, run}
use Rattle.rules.specs.Loading.{loads, loading}
use Rattle.rules.specs.Table.{Row, ◌is◌, Holds}

-- ---- the words of the table

-- an input with all alarms clear, qualified or not
abbrev clock : Bool → Input
clock qualified =
    record { activity = record { level = 0; decay = 0; alarm = false }; frequency = false; remainder = 0; soak = if qualified then full_soak else 0 }

-- eight inputs, of which 1, 2 and 3 are qualified or not as given
abbrev clocks : Bool → Bool → Bool → Inputs
clocks one two three = clock one ∷ clock two ∷ clock three ∷ replicate 5 (clock false)

-- automatic control with no delay, and these registers of inputs 1 and 2; the others have 0
abbrev setting : ℕ → ℕ → Settings
setting first second = written 0x1c first (written 0x1d second (written 0x40 1 fresh.settings))

-- three ticks waited for 2
abbrev waiting : Choice
waiting = record { selected = 3; wait = 3; awaited = 2 }

-- a fresh unit with these inputs and settings
abbrev unit : Settings → Inputs → State
unit set inputs = with_settings set (with_inputs inputs fresh)

-- in Holdover for so many ticks
abbrev in_holdover : ℕ → State
in_holdover n = with_loop (record { mode = holdover; lock_run = 0; unlock_run = 0 }) (with_holding n fresh)

-- so many blocks in use, with a mean of 0, and so many building, with a mean of 1; the last reference is none
abbrev blocks : ℕ → ℕ → History
blocks kept building = with_blocks (replicate kept (pos 0)) true (replicate building (pos 128)) fresh_history

-- an input's bucket and activity alarm, and those of one that is put at level S
abbrev activity_of : ℕ → State → Activity
activity_of i s = (input s.inputs i).activity

abbrev full : ℕ → Activity
full size = record { level = size; decay = 0; alarm = true }

-- the standard table with another value for one register
abbrev table_with : ℕ → ℕ → List ℕ
table_with a v = set fresh_table (slot a) v

-- a window, by its first tick and its end
abbrev window : ℕ → ℕ → Window
window start end = record { start = start; end = end }

-- 2 is selected and revertive, 1 is better, and there is no delay: what is selected after a tick at this place, with a window of the places 4 and 5
abbrev after_tick : ℕ → ℕ
after_tick place =
    let start = run (unit (setting 0 0b1000) (clocks false true false)) (tick_with 0 false (pos 0) ∷ set_windows (window 4 6 ∷ []) ∷ set_week place ∷ []) in
    selected (next (with_inputs (clocks true true false) start) (tick_with 0 false (pos 0)))

-- ---- the table

unfoldable pub table : List Row
table =
    -- "Traps": "negating −128 in a byte"
    (measured 31 25 (negsuc 127) (clock true)).frequency is true
    -- "rounding the mean toward zero"
    ∷ value (replaced (negsuc 0 ∷ pos 0 ∷ []) fresh_history) is negsuc 0
    -- "reading bit 3 of the candidate, not of the selected": 1 is best, and revertive; 2 is selected, and not. Then the other way round.
    ∷ (chosen false (setting 0b1000 0b0001) (clocks true true false) (settled 2)).selected is 2
    ∷ (chosen false (setting 0b0000 0b1001) (clocks true true false) (settled 2)).selected is 1
    -- "equal priority taken as no reversion"
    ∷ (chosen false (setting 0b0000 0b1000) (clocks true true false) (settled 2)).selected is 1
    -- "carrying the wait over to another candidate"
    ∷ wait_after false 9 1 waiting is 1
    -- "These cheap programs have to be shut out": "one that never reselects": 2 is lost
    ∷ (chosen false (setting 0 0) (clocks false false true) (settled 2)).selected is 3
    -- "one that refuses each event"
    ∷ refusal fresh (tick_with 0 false (pos 0)) is 0
    -- "one fixed on input 1"
    ∷ (chosen false (setting 0 0) (clocks false true false) (settled 0)).selected is 2
    -- "one that settles at the first tick and only copies its record later": 1 is selected, and lost by a Hit
    ∷ (read (run (unit (setting 0 0) (clocks true false false)) (tick_with 0 false (pos 0) ∷ [])) 0x48).byte is 0x21
    ∷ (read (run (unit (setting 0 0) (clocks true false false)) (tick_with 0 false (pos 0) ∷ hit ∷ [])) 0x48).byte is 0x00
    -- "one with an invented 0x4e": 2 is masked
    ∷ (read (unit (written 0x42 0b11111101 fresh.settings) (clocks true true true)) 0x4e).byte is 2
    -- "or hour count": the entering tick does not count, and an hour has 28,125
    ∷ holding_after pre_locked holdover 0 is 0
    ∷ (read (in_holdover 28_124) 0x27).byte is 0
    ∷ (read (in_holdover 28_125) 0x27).byte is 1
    -- "one that says "not Ready" forever"
    ∷ ready (replaced (replicate 43 (pos 0)) fresh_history) is true
    -- "one that takes the best unmasked input unjudged, or says "Ready" from the start"
    ∷ (chosen false (setting 0 0) (clocks false false false) (settled 0)).selected is 0
    ∷ ready (replaced (replicate 42 (pos 0)) fresh_history) is false
    -- a switch that comes a tick early
    ∷ switches 3 3 is false
    -- manual control that heeds the mask
    ∷ (chosen false (written 0x41 2 (written 0x42 0 fresh.settings)) (clocks true true false) (settled 1)).selected is 2
    -- a value above Largest let through; a refused event that takes effect
    ∷ refusal fresh (write 0x40 2) is 3
    ∷ (next fresh (write 0x40 2)).settings 0x40 is 0
    -- #102: Ready lost at a switch; 42 building blocks that replace those in use
    ∷ ready (noted 0 2 (replaced (replicate 43 (pos 128)) fresh_history)) is true
    ∷ value (completed (pos 128) (blocks 64 41)) is pos 0
    -- #104: 14 before 6; a level above S after a smaller set
    ∷ refusal fresh (assign_bucket 9 4) is 6
    ∷ activity_of 1 (run fresh (set_bucket 0 255 1 0 3 ∷ set_bucket 0 8 6 4 1 ∷ [])) is full 8
    -- #105: a table of 26 bytes that loads, or one with limits 5 apart; a load that is turned down and clears the unit
    ∷ loads (take 26 fresh_table) is false
    ∷ loads (table_with 0x44 30) is false
    ∷ (loading (table_with 0x26 1) (in_holdover 5)).state.holding is 5
    -- #107: windows that touch, or a first at 0 with a last that ends the week, let through
    ∷ refusal fresh (set_windows (window 0 5 ∷ window 5 6 ∷ [])) is 16
    ∷ refusal fresh (set_windows (window 0 1 ∷ window 4_724_999 4_725_000 ∷ [])) is 16
    -- a place that advances before the selection; an end that blocks
    ∷ after_tick 5 is 2
    ∷ after_tick 6 is 1
    -- a window that blocks a lost reference; a wait that stands still in one
    ∷ (chosen true (setting 0 0b1000) (clocks true false false) (settled 2)).selected is 1
    ∷ wait_after true 3 2 waiting is 4
    ∷ []

abbrev pub Avoided : Type 0
Avoided = Holds table
