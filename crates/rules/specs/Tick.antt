-- A tick: its five steps in order, and after the selection the place in the week (#107).
use Rattle.std.specs.Prelude.{ℕ, ◌+◌, ◌*◌, min, Bool, ◌&&◌, ℤ, if◌then◌else◌}
use Rattle.rules.specs.Words.{bit_of, is_tracked}
use Rattle.rules.specs.Events.{Tick}
use Rattle.rules.specs.Monitors.{Bucket, monitored, lock_alarmed}
use Rattle.rules.specs.Pll.{Mode, holdover, locked, is, Loop, looped, alarm_due}
use Rattle.rules.specs.Settings.{policy, automatic, op_mode}
use Rattle.rules.specs.Week.{Week, advanced}
use Rattle.rules.specs.Inputs.{Inputs, altered, each_from}
use Rattle.rules.specs.Selection.{chosen, steered}
use Rattle.rules.specs.Buckets.{bucket_of}
use Rattle.rules.specs.History.{recorded}
use Rattle.rules.specs.State.{State, selected, mode, Blocked, Ready, with_inputs, with_loop, with_choice, with_history, with_holding, with_week}

-- Steps 1 and 2: each input by its bucket and its bit of the irregular mask.
unfoldable pub watched : (ℕ → Bucket) → ℕ → Inputs → Inputs
watched bucket mask inputs = each_from (λ i. monitored (bucket i) (bit_of mask i)) 1 inputs

unfoldable pub watched_after : ℕ → State → Inputs
watched_after mask s = watched (bucket_of s.buckets) mask s.inputs

-- Step 3: "Only if a reference 1 to 8 is selected when the tick begins."
unfoldable pub loop_after : Bool → State → Loop
loop_after lock s = if is_tracked (selected s) then looped lock s.loop else s.loop

-- the inputs after steps 1 to 3: the lock alarm is that of the input selected when the tick begins
unfoldable pub inputs_after : ℕ → Bool → State → Inputs
inputs_after mask lock s =
    if is_tracked (selected s) && alarm_due (loop_after lock s) then altered lock_alarmed (selected s) (watched_after mask s)
    else watched_after mask s

-- "whole hours (28,125 ticks) in Holdover after the entering event, at most 255": the count stops at 255 hours (`Hours` in Laws)
abbrev pub hour_ticks : ℕ
hour_ticks = 28_125

abbrev pub holding_limit : ℕ
holding_limit = 255 * hour_ticks

-- the ticks in Holdover: the tick that enters does not count
unfoldable pub holding_after : Mode → Mode → ℕ → ℕ
holding_after before after holding = if is holdover before && is holdover after then min holding_limit (holding + 1) else 0

-- #107: "each tick advances it after its selection step"
unfoldable pub week_after : Week → Week
week_after w = record { place = advanced w.place; windows = w.windows }

-- Steps 1 to 4. The selection is by the place that stands, and then the place advances.
unfoldable pub steps1to4 : Tick → State → State
steps1to4 t s =
    let inputs = inputs_after t.mask t.lock s in
    let choice = chosen (Blocked s) s.settings inputs s.choice in
    let loop = steered (automatic s.settings) (op_mode s.settings) (Ready s) (selected s) choice.selected (loop_after t.lock s) in
    with_inputs inputs
    (with_loop loop (with_choice choice (with_holding (holding_after (mode s) loop.mode s.holding) (with_week (week_after s.week) s))))

-- Step 5.
unfoldable pub step5 : ℤ → State → State
step5 x s = with_history (recorded (policy s.settings) (selected s) (is locked (mode s)) x s.history) s

unfoldable pub ticked : Tick → State → State
ticked t s = step5 t.sample (steps1to4 t s)
