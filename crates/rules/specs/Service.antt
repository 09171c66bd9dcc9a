-- Document 01, "Demand 3", as requests #104 to #107 of document 02 have it: the promise of service, one claim about whole histories from a fresh unit.
use Rattle.std.specs.Prelude.{ℕ, ◌+◌, ◌*◌, ◌-◌, ◌^◌, ◌≤◌, max, ◌≡◌, true, false, ◌&&◌, List, [], ◌∷◌, ◌++◌, nat_abs, if◌then◌else◌}
use Rattle.rules.specs.Words.{bit_of}
use Rattle.rules.specs.Events.{Event, tick, measurement, hit, write, set_bucket, assign_bucket, set_week, set_windows, half_ppm, is_tick}
use Rattle.rules.specs.Monitors.{Bucket, full_soak, alarm_ticks}
use Rattle.rules.specs.Pll.{lock_ticks}
use Rattle.rules.specs.Settings.{qualification, delay, reversion}
use Rattle.rules.specs.Week.{longest}
use Rattle.rules.specs.Inputs.{input}
use Rattle.rules.specs.Buckets.{bucket_from, start_bucket, bucket_of}
use Rattle.rules.specs.History.{block_samples, ready_blocks}
use Rattle.rules.specs.State.{State, selected, Ready}
use Rattle.rules.specs.Refusals.{accepted}
use Rattle.rules.specs.Run.{next, run}
use Rattle.rules.specs.Loading.{Fresh}
use Rattle.rules.specs.Laws.{LeastDelay}
use Rattle.rules.specs.Preference.{Automatic, Preferred}

-- ---- the events from the moment on

-- what is asked of a write, and of what counts as one: it is turned down
abbrev pub TurnedDown : State → Event → Type 0
TurnedDown s e = accepted s e ≡ false

-- What is asked of one event; s is the state in which it begins. No accepted tick is irregular for r ("its mask has r's bit set"), and while r is selected
-- ("selected is r when the event begins") it reports lock. No measurement of r is in magnitude above the qualification limit, which #106 has in finer steps
-- as 32 times its value. No Hit comes while r is selected. No write is accepted; #104: "setting or assigning counts as a write", and #107: "setting
-- the week or the windows is then a write". "Anything may stand in the other mask bits, the other inputs' measurements and the samples, and, while r is not
-- selected, in the lock flags; Hits may come then."
abbrev pub Fair : ℕ → State → Event → Type 0
Fair r s (tick t) = accepted s (tick t) ≡ true → (bit_of t.mask r ≡ false) × (selected s ≡ r → t.lock ≡ true)
Fair r s (measurement i offset) = i ≡ r → nat_abs offset ≤ half_ppm * qualification s.settings
Fair r s hit = selected s ≡ r → ⊥
Fair r s (write a v) = TurnedDown s (write a v)
Fair r s (set_bucket n size set_level clear_level d) = TurnedDown s (set_bucket n size set_level clear_level d)
Fair r s (assign_bucket i n) = TurnedDown s (assign_bucket i n)
Fair r s (set_week place) = TurnedDown s (set_week place)
Fair r s (set_windows windows) = TurnedDown s (set_windows windows)

-- each event of the list, on "the state that the one before it left"
abbrev pub AllFair : ℕ → State → List Event → Type 0
AllFair r s [] = Unit {0}
AllFair r s (e ∷ es) = Fair r s e × AllFair r (next s e) es

-- the provisos, where s is the state at the moment and `events` are all that follow it
pub record Provisos (r : ℕ) (s : State) (events : List Event) : Type 0 where
  pub low : 1 ≤ r
  pub high : r ≤ 8
  pub automatic : Automatic s.settings
  -- r's frequency alarm is clear
  pub clear : (input s.inputs r).frequency ≡ false
  pub preferred : Preferred r s.settings
  pub fair : AllFair r s events

-- ---- the numbers

-- until the lock alarm's remainder is 0 and the level of a clock that behaves has fallen to the clear level, whichever is later. #104: "the larger of 782
-- and (S − L) times 2^d"
abbrev pub settle_ticks : Bucket → ℕ
settle_ticks b = max alarm_ticks ((b.size - b.clear_level) * b.decay_ticks)

-- until it is qualified: its soak fills from there on
abbrev pub qualify_ticks : Bucket → ℕ
qualify_ticks b = full_soak - 1 + settle_ticks b

-- from its selection until Ready (5,519): its lock run, and 43 blocks of samples
abbrev pub fill_ticks : ℕ
fill_ticks = lock_ticks - 1 + ready_blocks * block_samples

-- until r is selected, with r's set at the moment, n being the reversion delay in ticks. #107: "The longest window is added to both tick counts"
abbrev pub selected_ticks : ℕ → State → ℕ
selected_ticks r s = qualify_ticks (bucket_of s.buckets r) + reversion s.settings + longest s.week.windows

-- until Ready stands too
abbrev pub ready_ticks : ℕ → State → ℕ
ready_ticks r s = selected_ticks r s + fill_ticks

-- in figures
pub record Numbers : Type 0 where
  pub qualify : (size set_level clear_level d : ℕ) → qualify_ticks (bucket_from size set_level clear_level d) ≡ 78 + max 782 ((size - clear_level) * 2 ^ d)
  pub start : qualify_ticks start_bucket ≡ 860
  pub fill : fill_ticks ≡ 5_519

-- how many accepted ticks a list has
unfoldable pub accepted_ticks : State → List Event → ℕ
accepted_ticks s [] = 0
accepted_ticks s (e ∷ es) = (if is_tick e && accepted s e then 1 else 0) + accepted_ticks (next s e) es

-- ---- the promise

-- what is promised of a state `now` that `after`, or more events, have led to from the moment, whose state is s: r is selected if `toSelected` accepted ticks
-- stand in `after`, and Ready stands if `toReady` do
pub record Served (toSelected toReady r : ℕ) (s : State) (after : List Event) (now : State) : Type 0 where
  pub selected_is : toSelected ≤ accepted_ticks s after → selected now ≡ r
  pub ready_is : toReady ≤ accepted_ticks s after → Ready now ≡ true

-- Take every fresh unit, the standard one or a buyer's own, every list of events from it, `before`, `after` and `later`, with the moment after `before`, and
-- every reference r for which the provisos hold. After the accepted tick with number `selected_ticks`, counted from the moment, and after every later event, r
-- is selected; after the one with number `ready_ticks`, and after every later event, Ready stands too.
abbrev pub Promise : Type 0
Promise =
    (start : State) → Fresh start → (before after later : List Event) (r : ℕ)
    → Provisos r (run start before) (after ++ later)
    → Served (selected_ticks r (run start before)) (ready_ticks r (run start before)) r (run start before) after (run start (before ++ (after ++ later)))

-- The same in figures: "n is the least whole number with 4n at least 1,875 times the reversion delay in minutes." #104: r's set at the moment
-- is S, U, L, d, and "78 + the larger of 782 and (S − L) times 2^d" stands "for its 860, with 5,519 more to Ready". #107: and the longest window.
abbrev pub PromiseInFigures : Type 0
PromiseInFigures =
    (start : State) → Fresh start → (before after later : List Event) (r n size set_level clear_level d : ℕ)
    → bucket_of (run start before).buckets r ≡ bucket_from size set_level clear_level d
    → LeastDelay (delay (run start before).settings) n
    → Provisos r (run start before) (after ++ later)
    → let toSelected = 78 + max 782 ((size - clear_level) * 2 ^ d) + n + longest (run start before).week.windows in
    Served toSelected (toSelected + 5_519) r (run start before) after (run start (before ++ (after ++ later)))

-- In a unit without windows at the moment this is what it was before #107.
abbrev pub PromiseWithoutWindows : Type 0
PromiseWithoutWindows =
    (start : State) → Fresh start → (before after later : List Event) (r n size set_level clear_level d : ℕ)
    → (run start before).week.windows ≡ []
    → bucket_of (run start before).buckets r ≡ bucket_from size set_level clear_level d
    → LeastDelay (delay (run start before).settings) n
    → Provisos r (run start before) (after ++ later)
    → let toSelected = 78 + max 782 ((size - clear_level) * 2 ^ d) + n in
    Served toSelected (toSelected + 5_519) r (run start before) after (run start (before ++ (after ++ later)))

-- And with r's set as the sets start this is document 01's: 860 + n, and 6,379 + n.
abbrev pub PromiseAtStart : Type 0
PromiseAtStart =
    (start : State) → Fresh start → (before after later : List Event) (r n : ℕ)
    → (run start before).week.windows ≡ []
    → bucket_of (run start before).buckets r ≡ start_bucket
    → LeastDelay (delay (run start before).settings) n
    → Provisos r (run start before) (after ++ later)
    → Served (860 + n) (6_379 + n) r (run start before) after (run start (before ++ (after ++ later)))
