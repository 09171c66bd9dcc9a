-- Document 01, "Demand 3", and requests #104 and #107 of document 02, on three histories, with r = 1: the promise's provisos can be met, and neither of its
-- numbers can be bettered, with the sets as they start, with one whose (S − L) times 2^d is larger than 782, and with a window that comes at the worst place.
use Rattle.std.specs.Prelude.{ℕ, ◌+◌, ◌-◌, ◌≡◌, true, false, List, [], ◌∷◌, ◌++◌, pos, replicate}
use Rattle.rules.specs.Events.{Event, tick_with, measurement, write, set_bucket, assign_bucket, set_week, set_windows}
use Rattle.rules.specs.Monitors.{alarm_ticks}
use Rattle.rules.specs.Week.{longest}
use Rattle.rules.specs.Inputs.{input}
use Rattle.rules.specs.State.{State, selected, Ready}
use Rattle.rules.specs.Registers.{fresh}
use Rattle.rules.specs.Run.{run}
use Rattle.rules.specs.Service.{Provisos, selected_ticks, ready_ticks, accepted_ticks, Served}
use Rattle.rules.specs.Table.{◌is◌, Holds}

-- ---- the three histories

-- Automatic, a delay of a minute, inputs 1 and 2 unmasked, input 2 revertive and of priority 1, so behind input 1, which has 0; both are measured.
unfoldable pub settings : List Event
settings = write 0x40 1 ∷ write 0x43 1 ∷ write 0x42 0b11 ∷ write 0x1d 0b1001 ∷ measurement 1 (pos 0) ∷ measurement 2 (pos 0) ∷ []

unlocked : ℕ → List Event
unlocked k = replicate k (tick_with 0 false (pos 0))

-- 79 ticks qualify both, and 1 is selected; 782 more without lock set its lock alarm, and 2 is selected.
unfoldable pub alarmed : List Event
unfolding unlocked
alarmed = settings ++ unlocked (79 + 782)

-- 79 ticks qualify both, and 1 is selected; then set 1 is set to 255, 1, 0, 3, and input 1 is assigned it.
unfoldable pub refilled : List Event
unfolding unlocked
refilled = settings ++ (unlocked 79 ++ (set_bucket 1 255 1 0 3 ∷ assign_bucket 1 1 ∷ []))

-- As `alarmed`, with a window of 100 ticks that ends with the week, and then the place so that its first tick is number 1,329 from the moment: the one in which
-- the wait is over.
unfoldable pub windowed : List Event
windowed = alarmed ++ (set_windows (record { start = 4_724_900; end = 4_725_000 } ∷ []) ∷ set_week (4_724_900 - 1_328) ∷ [])

-- the state at the moment; the standard fresh unit is enough, since one history shows that a number cannot be bettered
abbrev pub moment : List Event → State
moment lead = run fresh lead

-- at the moment: 1's lock alarm has just been set, and 2 is selected
abbrev pub AlarmSet : Type 0
AlarmSet = Holds ((input (moment alarmed).inputs 1).remainder is alarm_ticks ∷ selected (moment alarmed) is 2 ∷ [])

-- at the moment: 1 is still selected, its bucket is at its size, and its activity alarm is set
abbrev pub BucketFull : Type 0
BucketFull =
    Holds
    ((input (moment refilled).inputs 1).activity.level is 255
    ∷ (input (moment refilled).inputs 1).activity.alarm is true
    ∷ selected (moment refilled) is 1
    ∷ [])

-- at the moment: 2 is selected, and the longest window has 100 ticks
abbrev pub WindowSet : Type 0
WindowSet = Holds (longest (moment windowed).week.windows is 100 ∷ (moment windowed).week.place is 4_723_572 ∷ selected (moment windowed) is 2 ∷ [])

-- from the moment on: k ticks, irregular for no input, that report lock
abbrev pub one_tick : Event
one_tick = tick_with 0 true (pos 0)

abbrev pub ticks : ℕ → List Event
ticks k = replicate k one_tick

-- ---- the statements, of a history `lead` up to the moment

pub record Exact (lead : List Event) (toSelected toReady : ℕ) : Type 0 where
  -- the provisos hold, however many ticks come, and each of the ticks counts
  pub met : (k : ℕ) → Provisos 1 (moment lead) (ticks k)
  pub counted : (k : ℕ) → accepted_ticks (moment lead) (ticks k) ≡ k
  -- so the promise comes true, with these numbers
  pub kept : (k : ℕ) → Served toSelected toReady 1 (moment lead) (ticks k) (run fresh (lead ++ ticks k))
  pub first_number : selected_ticks 1 (moment lead) ≡ toSelected
  pub second_number : ready_ticks 1 (moment lead) ≡ toReady
  -- one tick fewer than each of them does not serve: 2 is still selected; Ready does not stand
  pub not_bettered : selected (run fresh (lead ++ ticks (toSelected - 1))) ≡ 2
  pub not_ready_before : Ready (run fresh (lead ++ ticks (toReady - 1))) ≡ false

-- 860 + n and 6,379 + n, with n = 469
abbrev pub AtStart : Type 0
AtStart = Exact alarmed 1_329 6_848

-- 2,118 + n and 5,519 more: (255 − 0) times 2^3 is 2,040
abbrev pub AtLargest : Type 0
AtLargest = Exact refilled 2_587 8_106

-- 860 + n + 100 and 5,519 more: 2 is still selected in the window's last tick, and 1 in the first of the new week
abbrev pub AtWindow : Type 0
AtWindow = Exact windowed 1_429 6_948
