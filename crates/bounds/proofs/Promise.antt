-- The provisos are met for every number of ticks by induction on it; all the rest is computed.
use Prim.Native.Nat.{ℕ, zero, suc, ◌-◌, ◌≤◌}
use mathlib.Core.Path.{◌≡◌, refl, sym, subst, ◌∙◌}
use mathlib.Core.Logic.{inl}
use mathlib.Core.Bool.{false, false≢true}
use mathlib.Core.List.{List, [], ◌++◌, append-nil}
use native.Mathlib.Omega.{arith}
use native.Mathlib.Nat.{div-eq_of_lt}
use lib.Pow.{pow_mono}
use Rattle.rules.specs.Words.{bit_of}
use Rattle.rules.specs.Events.{Event}
use Rattle.rules.specs.State.{State}
use Rattle.rules.specs.Run.{next, run}
use Rattle.rules.specs.Preference.{Unmasked, Preferred}
use Rattle.rules.specs.Service.{Provisos, AllFair, selected_ticks, ready_ticks, accepted_ticks, Served}
use Rattle.rules.specs.Registers.{fresh}
use Rattle.rules.proofs.Loading.{standard}
use Rattle.rules.proofs.Service.{promise}
use Rattle.rules.proofs.Computing.{computing}
use Rattle.bounds.specs.Promise.{settings, alarmed, refilled, windowed, moment, one_tick, ticks, AlarmSet, BucketFull, WindowSet, AtStart, AtLargest, AtWindow}

-- ---- the settings at the moment

-- the mask 0b11 has no bit but those of inputs 1 and 2
beyond : (i : ℕ) → 3 ≤ i → bit_of 0b11 i ≡ false
unfolding computing
beyond i h = rw (div-eq_of_lt (pow_mono {i = 2} {j = i - 1} (omega arith)))

-- so 2 is the only other input that is unmasked
second : (i : ℕ) → 1 ≤ i → (i ≡ 1 → ⊥) → Unmasked (moment settings).settings i → i ≡ 2
unfolding computing settings
second i low ne u =
    let within : 3 ≤ i → ⊥ = λ h. false≢true (sym (beyond i h) ∙ u) in
    omega arith

preferred : Preferred 1 (moment settings).settings
unfolding computing settings
preferred =
    record {
      unmasked = refl;
      inputs = λ i low high ne u. rw (second i low ne u) (inl (omega arith), refl);
      free_run = λ enabled. absurd (false≢true enabled);
    }

-- ---- the ticks from the moment on, from any state

fair : (k : ℕ) (s : State) → AllFair 1 s (ticks k)
unfolding computing
fair zero s = tt
fair (suc k) s = (λ accepted. (refl, λ e. refl), fair k (next s one_tick))

counted : (k : ℕ) (s : State) → accepted_ticks s (ticks k) ≡ k
unfolding computing
counted zero s = refl
counted (suc k) s = omega (arith, counted k (next s one_tick))

-- the promise, with nothing after the ticks
kept : (lead : List Event) (k : ℕ) → Provisos 1 (moment lead) (ticks k)
    → Served (selected_ticks 1 (moment lead)) (ready_ticks 1 (moment lead)) 1 (moment lead) (ticks k) (run fresh (lead ++ ticks k))
kept lead k met =
    subst (λ es. Served (selected_ticks 1 (moment lead)) (ready_ticks 1 (moment lead)) 1 (moment lead) (ticks k) (run fresh (lead ++ es))) (append-nil (ticks k))
    (promise fresh standard.is_fresh lead (ticks k) [] 1 (rw (append-nil (ticks k)) met))

-- ---- the statements

pub alarm_set : AlarmSet
unfolding computing settings alarmed
alarm_set = refl

pub bucket_full : BucketFull
unfolding computing settings refilled
bucket_full = refl

pub window_set : WindowSet
unfolding computing settings alarmed windowed
window_set = refl

met_alarmed : (k : ℕ) → Provisos 1 (moment alarmed) (ticks k)
unfolding computing settings alarmed
met_alarmed k = record { low = omega arith; high = omega arith; automatic = refl; clear = refl; preferred = preferred; fair = fair k (moment alarmed) }

met_refilled : (k : ℕ) → Provisos 1 (moment refilled) (ticks k)
unfolding computing settings refilled
met_refilled k = record { low = omega arith; high = omega arith; automatic = refl; clear = refl; preferred = preferred; fair = fair k (moment refilled) }

met_windowed : (k : ℕ) → Provisos 1 (moment windowed) (ticks k)
unfolding computing settings alarmed windowed
met_windowed k = record { low = omega arith; high = omega arith; automatic = refl; clear = refl; preferred = preferred; fair = fair k (moment windowed) }

pub at_start : AtStart
unfolding computing settings alarmed
at_start =
    record {
      met = met_alarmed;
      counted = λ k. counted k (moment alarmed);
      kept = λ k. kept alarmed k (met_alarmed k);
      first_number = refl;
      second_number = refl;
      not_bettered = refl;
      not_ready_before = refl;
    }

pub at_largest : AtLargest
unfolding computing settings refilled
at_largest =
    record {
      met = met_refilled;
      counted = λ k. counted k (moment refilled);
      kept = λ k. kept refilled k (met_refilled k);
      first_number = refl;
      second_number = refl;
      not_bettered = refl;
      not_ready_before = refl;
    }

pub at_window : AtWindow
unfolding computing settings alarmed windowed
at_window =
    record {
      met = met_windowed;
      counted = λ k. counted k (moment windowed);
      kept = λ k. kept windowed k (met_windowed k);
      first_number = refl;
      second_number = refl;
      not_bettered = refl;
      not_ready_before = refl;
    }
