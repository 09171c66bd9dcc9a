-- Document 01, "Selection (step 4)", with the busy hours of request #107 of document 02: which candidate is selected, the wait, and the state after the
-- choice.
use Rattle.std.specs.Prelude.{ℕ, zero, suc, ◌+◌, ◌-◌, min, Bool, not, ◌&&◌, ◌||◌, leb, eqb, if◌then◌else◌}
use Rattle.rules.specs.Words.{is_input}
use Rattle.rules.specs.Monitors.{qualified}
use Rattle.rules.specs.Inputs.{Inputs, input}
use Rattle.rules.specs.Pll.{Mode, free_run, holdover, pre_locked, pre_locked2, is, Loop}
use Rattle.rules.specs.Settings.{Settings, automatic, op_mode, usable, revertive, ahead, reversion}

-- ---- available

-- "available means qualified and unmasked"
unfoldable pub available : Settings → Inputs → ℕ → Bool
available set inputs i = is_input i && usable set i && qualified (input inputs i)

-- ---- automatic

-- "Selected is 0 (none), 1 to 8, or 9 (Free Run as a candidate)."
pub record Choice : Type 0 where
  pub selected : ℕ
  -- the wait, and the best that it counts for; that is 0 while the wait is 0
  pub wait : ℕ
  pub awaited : ℕ

-- "candidates are the available references ..; Free Run, if enabled"
unfoldable pub candidate : Settings → Inputs → ℕ → Bool
candidate set inputs c = if eqb c 9 then usable set c else available set inputs c

-- the best candidate among 1 to k, or 0: candidate k takes the place of the best below it if there is none or k is ahead of it
unfoldable pub best_up_to : Settings → Inputs → ℕ → ℕ
best_up_to set inputs zero = 0
best_up_to set inputs (suc k) =
    let b = best_up_to set inputs k in
    if candidate set inputs (suc k) && (eqb b 0 || ahead set (suc k) b) then suc k else b

-- the candidate that is ahead of every other (`BestCandidate` in Laws)
unfoldable pub best : Settings → Inputs → ℕ
best set inputs = best_up_to set inputs 9

-- selected, with the wait at 0: "Any change of selection zeroes the wait."
unfoldable pub settled : ℕ → Choice
settled c = record { selected = c; wait = 0; awaited = 0 }

-- two ticks more than the longest delay, 255 minutes: the wait stops here, and from fresh it never comes so far (`Saturation` in Laws)
abbrev pub wait_limit : ℕ
wait_limit = 119_534

-- "the wait rises by 1, or is 1 if it was 0 or counted for another best". So it is never carried over to another best. `blocked` says that the tick lies in a
-- window. #107: "meanwhile the wait rises only if it is below n + 1"
unfoldable pub wait_after : Bool → ℕ → ℕ → Choice → ℕ
wait_after blocked n b c =
    if eqb c.wait 0 || not (eqb c.awaited b) then 1
    else min wait_limit (if blocked && leb (n + 1) c.wait then c.wait else c.wait + 1)

-- "the switch comes when wait − 1 is n or more"
unfoldable pub switches : ℕ → ℕ → Bool
switches n wait = leb n (wait - 1)

-- the reversion from the selected candidate to the best. #107: windows "block the switch of a reversion"
unfoldable pub reverted : Bool → ℕ → ℕ → Choice → Choice
reverted blocked n b c =
    if not blocked && switches n (wait_after blocked n b c) then settled b
    else record { selected = c.selected; wait = wait_after blocked n b c; awaited = b }

-- "If the selected one is no candidate, the best is taken, or 0. If it is best, it stays and the wait is 0. If it is not best and non-revertive, it stays
-- and the wait is 0. If revertive, the wait rises ..". The bit that counts is the selected one's, not the best's; a best of equal priority is waited for too.
-- #107: "A switch off a lost reference is never blocked."
unfoldable pub reselected : Bool → Settings → Inputs → ℕ → Choice → Choice
reselected blocked set inputs b c =
    if not (candidate set inputs c.selected) then settled b
    else (if eqb c.selected b then settled c.selected
    else (if not (revertive set c.selected) then settled c.selected
    else reverted blocked (reversion set) b c))

-- ---- manual

-- "Op_Mode s in 1 to 8 selects s if qualified, masked or not, else 0; 0 and 9 select 0. Any manual tick zeroes the wait."
unfoldable pub manual : Settings → Inputs → Choice
manual set inputs = settled (if is_input (op_mode set) && qualified (input inputs (op_mode set)) then op_mode set else 0)

unfoldable pub chosen : Bool → Settings → Inputs → Choice → Choice
chosen blocked set inputs c = if automatic set then reselected blocked set inputs (best set inputs) c else manual set inputs

-- ---- the state

-- with nothing selected: "Holdover if Ready, otherwise Free Run"
unfoldable pub unselected_mode : Bool → Mode
unselected_mode ready = if ready then holdover else free_run

-- both runs 0, and the state by Ready: a Hit leaves the loop so
unfoldable pub unselected_loop : Bool → Loop
unselected_loop ready = record { mode = unselected_mode ready; lock_run = 0; unlock_run = 0 }

-- The state where `before` was selected and `next` now is; `control` says automatic, and `op` is Op_Mode. "Op_Mode 0 in manual, or selected 9, is Free Run.
-- Else selected 0 is Holdover if Ready, otherwise Free Run. A newly selected reference starts Pre-locked if the state was Free Run, else Pre-locked 2."
unfoldable pub mode_after : Bool → ℕ → Bool → ℕ → ℕ → Mode → Mode
mode_after control op ready before next mode =
    if (not control && eqb op 0) || eqb next 9 then free_run
    else (if eqb next 0 then unselected_mode ready
    else (if eqb next before then mode
    else (if is free_run mode then pre_locked
    else pre_locked2)))

-- "Both runs restart at 0 when the selection changes."
unfoldable pub steered : Bool → ℕ → Bool → ℕ → ℕ → Loop → Loop
steered control op ready before next p =
    record {
      mode = mode_after control op ready before next p.mode;
      lock_run = if eqb next before then p.lock_run else 0;
      unlock_run = if eqb next before then p.unlock_run else 0;
    }
