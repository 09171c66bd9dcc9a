-- What the rows of a tick's steps 1 and 2 hold, number by number.
use Rattle.std.specs.Prelude.{ℕ, ◌+◌, ◌*◌, ◌/◌, ◌%◌, ◌^◌, max, leb, ltb, if◌then◌else◌}

-- the weight of bit k of a mask, 256 times 2^k, or 0 where it is clear
abbrev pub weight : ℕ → ℕ → ℕ
weight mask k = mask / 2 ^ k % 2 * 2 ^ (k + 8)

-- the decay count after a tick, by the weight of the input's bit: the rule `decay_after` has it of the weight of a mask's bit (`decay_rule`
-- in proofs/Rows)
unfoldable pub decay_number : ℕ → ℕ → ℕ → ℕ
decay_number last w decay = if ltb (max w decay) (last % 256) then decay + 1 else 0

-- the activity alarm's number after a tick: the rule `alarm_after` reads it
unfoldable pub activity_number : ℕ → ℕ → ℕ → ℕ → ℕ
activity_number set_level clear_level level activity = if leb set_level level then 1 else (if leb level clear_level then 0 else activity)
