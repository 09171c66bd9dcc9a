-- Document 01, "Turned down", numbers 1 to 8, and 14 and 16 of requests #104 and #107: what an event is turned down with. "Checked in number order."
use Rattle.std.specs.Prelude.{ℕ, ◌+◌, Bool, not, ◌&&◌, ◌||◌, List, leb, ltb, eqb, nat_abs, if◌then◌else◌}
use Rattle.rules.specs.Words.{is_input, is_tracked}
use Rattle.rules.specs.Events.{Event, tick, measurement, hit, write, set_bucket, assign_bucket, set_week, set_windows, sample_limit}
use Rattle.rules.specs.Settings.{Settings, reject, qualification}
use Rattle.rules.specs.Week.{week_ticks, Window, windows_fit}
use Rattle.rules.specs.Buckets.{in_bounds, is_set_number}
use Rattle.rules.specs.History.{held}
use Rattle.rules.specs.State.{State, selected, Ready}
use Rattle.rules.specs.Registers.{in_map, read_only, largest, written}

-- "reject − qualification" is 6 or more: for 4 here, and for 15 in Loading
unfoldable pub limits_apart : Settings → Bool
limits_apart set = leb (qualification set + 6) (reject set)

-- 4: "reject − qualification would be under 6"; it concerns the writes of the two limits
unfoldable pub limits_refused : Settings → ℕ → ℕ → Bool
limits_refused set a v = (eqb a 0x44 || eqb a 0x45) && not (limits_apart (written a v set))

-- 8: "command 1 unless Ready, command 2 without backup"
unfoldable pub command_refused : Bool → Bool → ℕ → Bool
command_refused isReady is_held v = (eqb v 1 && not isReady) || (eqb v 2 && not is_held)

-- 1: "address not in the map"; 2: "write to R"; 3: "value above Largest". `isReady` says that Ready stands, `is_held` that a backup is held.
unfoldable pub write_refusal : Settings → Bool → Bool → ℕ → ℕ → ℕ
write_refusal set isReady is_held a v =
    if not (in_map a) then 1
    else (if read_only a then 2
    else (if ltb (largest a) v then 3
    else (if limits_refused set a v then 4
    else (if eqb a 0x26 && command_refused isReady is_held v then 8
    else 0))))

-- 14: "set out of these bounds or set number over 3"
unfoldable pub set_refusal : ℕ → ℕ → ℕ → ℕ → ℕ → ℕ
set_refusal n size set_level clear_level d = if is_set_number n && in_bounds size set_level clear_level d then 0 else 14

-- "an input not 1 to 8 gives 6 and is checked before it"
unfoldable pub assign_refusal : ℕ → ℕ → ℕ
assign_refusal i n = if not (is_input i) then 6 else (if is_set_number n then 0 else 14)

-- 16: "place 4,725,000 or more"
unfoldable pub week_refusal : ℕ → ℕ
week_refusal place = if ltb place week_ticks then 0 else 16

-- 16: "over eight windows, start not before end, end past the week, not ascending with a free tick between, or first at 0 with last ending the week"
unfoldable pub windows_refusal : List Window → ℕ
windows_refusal windows = if windows_fit windows then 0 else 16

-- 5: "Hit with no reference 1 to 8 selected"; 6: "input not 1 to 8"; 7: "sample out of range"; 0 where the event is accepted
unfoldable pub refusal : State → Event → ℕ
refusal s (tick t) = if leb (nat_abs t.sample) sample_limit then 0 else 7
refusal s (measurement i offset) = if is_input i then 0 else 6
refusal s hit = if is_tracked (selected s) then 0 else 5
refusal s (write a v) = write_refusal s.settings (Ready s) (held s.history.backup) a v
refusal s (set_bucket n size set_level clear_level d) = set_refusal n size set_level clear_level d
refusal s (assign_bucket i n) = assign_refusal i n
refusal s (set_week place) = week_refusal place
refusal s (set_windows windows) = windows_refusal windows

-- "An accepted event is one not turned down."
abbrev pub accepted : State → Event → Bool
accepted s e = eqb (refusal s e) 0
