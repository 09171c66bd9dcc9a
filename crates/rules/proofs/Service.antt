-- Demand 3 of the rules: the promise of service, proved.
use Prim.Native.Nat.{ℕ, ◌+◌, ◌-◌, ◌≤◌}
use mathlib.Core.Path.{◌≡◌, refl, ap, ◌∙◌}
use mathlib.Core.Logic.{inl, inr}
use mathlib.Core.Bool.{true}
use mathlib.Core.List.{List, [], ◌∷◌, ◌++◌}
use native.Mathlib.Omega.{arith}
use lib.ListN.{length}
use borrow.Author.Tests.{le-leb, eq-eqb}
use Rattle.rules.specs.Words.{is_input}
use Rattle.rules.specs.Events.{Event}
use Rattle.rules.specs.Monitors.{Bucket}
use Rattle.rules.specs.Settings.{delay, reversion}
use Rattle.rules.specs.Week.{longest}
use Rattle.rules.specs.Inputs.{input}
use Rattle.rules.specs.Buckets.{bucket_from, start_bucket, bucket_of}
use Rattle.rules.specs.History.{ready_blocks, ready}
use Rattle.rules.specs.State.{State, selected, Ready}
use Rattle.rules.specs.Run.{next, run}
use Rattle.rules.specs.Laws.{Lawful}
use Rattle.rules.specs.Service.{Provisos, qualify_ticks, fill_ticks, selected_ticks, ready_ticks, Numbers, accepted_ticks, Served, Promise, PromiseInFigures, PromiseWithoutWindows, PromiseAtStart}
use Rattle.rules.proofs.Tests.{is_between}
use Rattle.rules.proofs.OneInput.{calm_start}
use Rattle.rules.proofs.SoundBuckets.{bucket_works}
use Rattle.rules.proofs.Blocks.{filled_ready}
use Rattle.rules.proofs.Invariants.{invariants}
use Rattle.rules.proofs.Counts.{least_delay}
use Rattle.rules.proofs.Progress.{leading, Filled, Serving, early, waits, serves, phase_of, Going, going_run}

-- a list run in two parts
pub run_append : (before after : List Event) (s : State) → run s (before ++ after) ≡ run (run s before) after
unfolding run
run_append [] after s = refl
run_append (e ∷ es) after s = run_append es after (next s e)

pub ticks_append : (after later : List Event) (s : State) → accepted_ticks s (after ++ later) ≡ accepted_ticks s after + accepted_ticks (run s after) later
unfolding accepted_ticks run
ticks_append [] later s = omega arith
ticks_append (e ∷ es) later s = omega (arith, ticks_append es later (next s e))

pub numbers : Numbers
unfolding bucket_from start_bucket
numbers = record { qualify = λ size set_level clear_level d. refl; start = refl; fill = refl }

-- at the deadlines
module _ (b : Bucket) (m n r k : ℕ) (s : State) (g : Going b m n r k s) where
  -- r's bucket and the longest window are those of the moment
  same : qualify_ticks (bucket_of s.buckets r) ≡ qualify_ticks b
  same = ap qualify_ticks g.bucket_is

  selected_at : qualify_ticks b + n + m ≤ k → selected s ≡ r
  selected_at h = go g.phase
    where
      go : phase_of n r k s → selected s ≡ r
      go (early l) = omega (arith, same)
      go (waits lo (inl hi) u) = omega (arith, same)
      go (waits lo (inr hi) u) = omega (arith, same, g.longest_is)
      go (serves lo e sv) = e

  ready_at : qualify_ticks b + n + m + fill_ticks ≤ k → Ready s ≡ true
  unfolding ready
  ready_at h = le-leb ready_blocks (length s.history.kept) (go g.phase)
    where
      full : Filled (k - (qualify_ticks (bucket_of s.buckets r) + n + longest s.week.windows)) s.history → ready_blocks ≤ length s.history.kept
      full (inl l) = filled_ready s.history g.lawful.history.building (omega (arith, same, g.longest_is, g.lawful.history.open_lt))
      full (inr l) = l

      far : Serving (k - (qualify_ticks (bucket_of s.buckets r) + n + longest s.week.windows)) s.loop s.history → ready_blocks ≤ length s.history.kept
      far (inl w) = omega (arith, same, g.longest_is, w.1)
      far (inr w) = full w.1

      go : phase_of n r k s → ready_blocks ≤ length s.history.kept
      go (early l) = omega (arith, same)
      go (waits lo (inl hi) u) = omega (arith, same)
      go (waits lo (inr hi) u) = omega (arith, same, g.longest_is)
      go (serves lo e sv) = far sv

-- from any lawful state at the moment
served_from : (s : State) (after later : List Event) (r : ℕ)
    → Lawful s → Provisos r s (after ++ later)
    → Served (selected_ticks r s) (ready_ticks r s) r s after (run s (after ++ later))
served_from s after later r w p =
    record { selected_is = λ h. selected_at b m n r K now going (omega (arith, more)); ready_is = λ h. ready_at b m n r K now going (omega (arith, more)) }
  where
    n : ℕ
    n = reversion s.settings

    m : ℕ
    m = longest s.week.windows

    now : State
    now = run s (after ++ later)

    K : ℕ
    K = accepted_ticks s (after ++ later) + 0

    more : accepted_ticks s (after ++ later) ≡ accepted_ticks s after + accepted_ticks (run s after) later
    more = ticks_append after later s

    ref : is_input r ≡ true
    ref = is_between 1 8 r p.low p.high

    b : Bucket
    b = bucket_of s.buckets r

    start : Going b m n r 0 s
    start =
        record {
          auto = eq-eqb (s.settings 0x40) 1 p.automatic;
          prefer = leading r s.settings ref p.preferred;
          wait_is = refl;
          lawful = w;
          bucket_is = refl;
          longest_is = refl;
          calm = calm_start b (bucket_works s.buckets w.buckets r ref) (input s.inputs r) (w.inputs.each r ref) p.clear;
          phase = early (omega arith);
        }

    going : Going b m n r K now
    going = going_run b m n r ref (after ++ later) 0 s p.fair start

-- THE PROMISE OF SERVICE
pub promise : Promise
promise start f before after later r p =
    rw (run_append before (after ++ later) start) (served_from (run start before) after later r (invariants start f before) p)

-- THE PROMISE IN FIGURES
pub promise_in_figures : PromiseInFigures
promise_in_figures start f before after later r n size set_level clear_level d is delayed p =
    let served = promise start f before after later r p in
    let ticks = ap qualify_ticks is ∙ numbers.qualify size set_level clear_level d in
    let least = least_delay (delay (run start before).settings) n delayed in
    record {
      selected_is = λ h. served.selected_is (omega (arith, ticks, least));
      ready_is = λ h. served.ready_is (omega (arith, ticks, least, numbers.fill));
    }

-- WITHOUT WINDOWS, AS IT WAS
pub promise_without_windows : PromiseWithoutWindows
unfolding longest
promise_without_windows start f before after later r n size set_level clear_level d none is delayed p =
    let served = promise_in_figures start f before after later r n size set_level clear_level d is delayed p in
    record { selected_is = λ h. served.selected_is (omega (arith, ap longest none)); ready_is = λ h. served.ready_is (omega (arith, ap longest none)) }

-- AND WITH THE SETS AS THEY START
pub promise_at_start : PromiseAtStart
unfolding start_bucket
promise_at_start start f before after later r n none is delayed p =
    let served = promise_without_windows start f before after later r n 8 6 4 1 none is delayed p in
    record { selected_is = served.selected_is; ready_is = λ h. served.ready_is (omega arith) }
