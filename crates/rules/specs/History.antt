-- Document 01, "History (step 5)", as request #102 of document 02 has it: the holdover history, the one that builds beside it, and the commands.
use Rattle.std.specs.Prelude.{ℕ, ◌+◌, ◌-◌, ◌*◌, min, Bool, true, false, not, ◌&&◌, List, [], ◌∷◌, leb, eqb, ℤ, pos, negsuc, ◌+ℤ◌, length, take, if◌then◌else◌}
use Rattle.std.specs.Int.Signed.{shr_z}
use Rattle.rules.specs.Words.{is_counted}
use Rattle.rules.specs.Events.{sample_limit}

pub record History : Type 0 where
  -- the blocks in use: their sums, newest first
  pub kept : List ℤ
  -- whether a second history builds, and the sums of its blocks, newest first
  pub builds : Bool
  pub building : List ℤ
  -- the open block: its sum, and how many samples it has
  pub open_sum : ℤ
  pub open_count : ℕ
  -- "the one of 1 to 8 selected last (.. fresh: none)"; 0 for none
  pub last : ℕ
  -- 0x26: "command (reads the last accepted ..)"
  pub command : ℕ
  -- the backup's block sums; none is held where it is empty
  pub backup : List ℤ

-- "128 samples complete a block (16.384 s); the latest 64 block sums are kept (1,049 s). Ready means 43 blocks or more (701 s)."
abbrev pub block_samples : ℕ
block_samples = 128

abbrev pub kept_blocks : ℕ
kept_blocks = 64

abbrev pub ready_blocks : ℕ
ready_blocks = 43

unfoldable pub ready : History → Bool
ready h = leb ready_blocks (length h.kept)

-- "backup held"
unfoldable pub held : List ℤ → Bool
held [] = false
held (x ∷ xs) = true

-- the history with other blocks in use, others building or none, and another open block
abbrev pub refilled : List ℤ → Bool → List ℤ → ℤ → ℕ → History → History
refilled kept builds building sum count h =
    record {
      kept = kept;
      builds = builds;
      building = building;
      open_sum = sum;
      open_count = count;
      last = h.last;
      command = h.command;
      backup = h.backup;
    }

-- the history with another last reference, another command and another backup
abbrev pub annotated : ℕ → ℕ → List ℤ → History → History
annotated last command backup h =
    record {
      kept = h.kept;
      builds = h.builds;
      building = h.building;
      open_sum = h.open_sum;
      open_count = h.open_count;
      last = last;
      command = command;
      backup = backup;
    }

-- with these blocks in use, these building or none, and an empty open block
unfoldable pub with_blocks : List ℤ → Bool → List ℤ → History → History
with_blocks kept builds building h = refilled kept builds building (pos 0) 0 h

unfoldable pub open_emptied : History → History
open_emptied h = with_blocks h.kept h.builds h.building h

-- ---- a sample

-- A sum within ±16,000,000,000, which 128 samples of at most 125,000,000 keep: from fresh this changes nothing (`Saturation` in Laws).
abbrev pub sum_limit : ℕ
sum_limit = block_samples * sample_limit

unfoldable pub saturated : ℤ → ℤ
saturated (pos n) = pos (min sum_limit n)
saturated (negsuc n) = negsuc (min (sum_limit - 1) n)

-- the history that fills: the building one while one builds, else the one in use
unfoldable pub filling : History → List ℤ
filling h = if h.builds then h.building else h.kept

-- A completed block joins the history that fills. #102: "The kept blocks stay in use until the building history has 43 blocks, which then replace them."
unfoldable pub completed : ℤ → History → History
completed sum h =
    let blocks = take kept_blocks (sum ∷ filling h) in
    if h.builds && not (leb ready_blocks (length blocks)) then with_blocks h.kept true blocks h
    else with_blocks blocks false [] h

-- the sample joins the open block, and completes it as its 128th
unfoldable pub sampled : ℤ → History → History
sampled x h =
    let sum = saturated (h.open_sum +ℤ x) in
    if leb block_samples (h.open_count + 1) then completed sum h
    else refilled h.kept h.builds h.building sum (h.open_count + 1) h

-- ---- a switch

-- a building history with no block yet, and an empty open block
unfoldable pub starts_building : History → History
starts_building h = with_blocks h.kept true [] h

unfoldable pub with_last : ℕ → History → History
with_last c h = annotated c h.command h.backup h

-- Document 01: "With policy 0, selecting a reference other than the one of 1 to 8 selected last (0 and 9 don't count; fresh: none) empties blocks and open
-- block first; with policy 1 it doesn't." #102: "Where policy 0 emptied the blocks, the switch now starts a second, building history, and a further switch to
-- another reference empties it." "A switch under policy 1 leaves whichever history is filling as it is."
unfoldable pub noted : ℕ → ℕ → History → History
noted policy selected h =
    if is_counted selected then with_last selected (if eqb policy 0 && not (eqb selected h.last) then starts_building h else h)
    else h

-- Step 5. "A tick that ends Locked adds its sample to the open block; a tick that ends otherwise empties it."
unfoldable pub recorded : ℕ → ℕ → Bool → ℤ → History → History
recorded policy selected endsLocked x h =
    let h' = noted policy selected h in
    if endsLocked then sampled x h' else open_emptied h'

-- ---- the value

unfoldable pub sum_of : List ℤ → ℤ
sum_of [] = pos 0
sum_of (x ∷ xs) = x +ℤ sum_of xs

-- "The value is the greatest whole number not above the mean of the kept samples." The quotient is rounded down, for a negative sum too (`Value` in Laws).
unfoldable pub value : History → ℤ
value h = shr_z (sum_of h.kept) (block_samples * length h.kept)

-- ---- the commands

-- the backup is the blocks in use
unfoldable pub backed_up : History → History
backed_up h = annotated h.last h.command h.kept h

-- other blocks in use. #102, of commands 2 and 3: "Either also empties the open block, and a history that was building goes on building from nothing."
unfoldable pub replaced : List ℤ → History → History
replaced blocks h = with_blocks blocks h.builds [] h

unfoldable pub with_command : ℕ → History → History
with_command c h = annotated h.last c h.backup h

-- #102: "Command 1 saves the blocks in use; 2 replaces those and empties the building history; 3 empties both." Document 01: "not the backup"; "0 does nothing else"
unfoldable pub commanded : ℕ → History → History
commanded c h =
    with_command c
    (if eqb c 1 then backed_up h
    else (if eqb c 2 then replaced h.backup h
    else (if eqb c 3 then replaced [] h
    else h)))

unfoldable pub fresh_history : History
fresh_history = record { kept = []; builds = false; building = []; open_sum = pos 0; open_count = 0; last = 0; command = 0; backup = [] }
