-- The history's rules as document 01 has them, before request #102, and the run of a list of events under them: for the comparison (Comparison.antt, and a table of
-- crate cases) and for nothing else. Everything but the history is as the rules have it, and nothing builds.
use Rattle.std.specs.Prelude.{ℕ, ◌+◌, Bool, false, not, ◌&&◌, List, [], ◌∷◌, leb, eqb, ℤ, ◌+ℤ◌, take, if◌then◌else◌}
use Rattle.rules.specs.Words.{is_counted}
use Rattle.rules.specs.Events.{Event, tick, measurement, hit, write, set_bucket, assign_bucket, set_week, set_windows}
use Rattle.rules.specs.Pll.{locked, is}
use Rattle.rules.specs.Settings.{policy}
use Rattle.rules.specs.History.{History, block_samples, kept_blocks, refilled, with_blocks, open_emptied, saturated, with_last, backed_up, with_command}
use Rattle.rules.specs.State.{State, selected, mode, with_history}
use Rattle.rules.specs.Tick.{steps1to4}
use Rattle.rules.specs.Refusals.{accepted}
use Rattle.rules.specs.Run.{effect}

-- with these kept blocks and an empty open block
unfoldable pub old_blocks : List ℤ → History → History
old_blocks blocks h = with_blocks blocks false [] h

-- "128 samples complete a block (16.384 s); the latest 64 block sums are kept (1,049 s)."
unfoldable pub old_sampled : ℤ → History → History
old_sampled x h =
    let sum = saturated (h.open_sum +ℤ x) in
    if leb block_samples (h.open_count + 1) then old_blocks (take kept_blocks (sum ∷ h.kept)) h
    else refilled h.kept false [] sum (h.open_count + 1) h

-- "With policy 0, selecting a reference other than the one of 1 to 8 selected last (0 and 9 don't count; fresh: none) empties blocks and open block first;
-- with policy 1 it doesn't."
unfoldable pub old_noted : ℕ → ℕ → History → History
old_noted policy selected h =
    if is_counted selected then with_last selected (if eqb policy 0 && not (eqb selected h.last) then old_blocks [] h else h)
    else h

-- "A tick that ends Locked adds its sample to the open block; a tick that ends otherwise empties it."
unfoldable pub old_recorded : ℕ → ℕ → Bool → ℤ → History → History
old_recorded policy selected endsLocked x h =
    let h' = old_noted policy selected h in
    if endsLocked then old_sampled x h' else open_emptied h'

-- "1 copies the kept blocks to backup, 2 replaces them by the backup and empties the open block, 3 empties both, not the backup."
unfoldable pub old_commanded : ℕ → History → History
old_commanded c h =
    with_command c
    (if eqb c 1 then backed_up h
    else (if eqb c 2 then old_blocks h.backup h
    else (if eqb c 3 then old_blocks [] h
    else h)))

-- ---- the run of a list

-- what an accepted event leaves: what the rules have it leave, but for the history after a tick's step 5 and after a command
unfoldable pub old_effect : State → Event → State
old_effect s (tick t) =
    let u = steps1to4 t s in
    with_history (old_recorded (policy u.settings) (selected u) (is locked (mode u)) t.sample u.history) u
old_effect s (measurement i offset) = effect s (measurement i offset)
old_effect s hit = effect s hit
old_effect s (set_bucket n size set_level clear_level d) = effect s (set_bucket n size set_level clear_level d)
old_effect s (assign_bucket i n) = effect s (assign_bucket i n)
old_effect s (set_week place) = effect s (set_week place)
old_effect s (set_windows windows) = effect s (set_windows windows)
old_effect s (write a v) = if eqb a 0x26 then with_history (old_commanded v s.history) s else effect s (write a v)

-- what any event leaves: one that is turned down leaves the state as it was
unfoldable pub old_next : State → Event → State
old_next s e = if accepted s e then old_effect s e else s

unfoldable pub old_run : State → List Event → State
old_run s [] = s
old_run s (e ∷ es) = old_run (old_next s e) es
