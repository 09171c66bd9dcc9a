-- Document 01, "Monitors (tick steps 1, 2)", and what a measurement does: one input.
use Rattle.std.specs.Prelude.{ℕ, ◌+◌, ◌-◌, min, Bool, true, false, not, ◌&&◌, leb, ltb, eqb, ℤ, nat_abs, if◌then◌else◌}

-- ---- 1. the bucket

-- the numbers of a bucket. #104: "size S, set level U, clear level L, decay of 2^d ticks"; document 01 has 8, 6, 4 and 2 ticks
pub record Bucket : Type 0 where
  pub size : ℕ
  pub set_level : ℕ
  pub clear_level : ℕ
  pub decay_ticks : ℕ

pub record Activity : Type 0 where
  -- the bucket's level, and its decay count
  pub level : ℕ
  pub decay : ℕ
  -- the activity alarm
  pub alarm : Bool

-- "an irregular tick adds 1 up to 8 and zeroes the decay count. Otherwise the decay count rises; at 2 it is zeroed and the level falls by 1, not below 0"
unfoldable pub level_after : ℕ → ℕ → Bool → ℕ → ℕ → ℕ
level_after size decay_ticks irregular level decay =
    if irregular then min size (level + 1)
    else (if leb decay_ticks (decay + 1) then level - 1
    else level)

unfoldable pub decay_after : ℕ → Bool → ℕ → ℕ
decay_after decay_ticks irregular decay = if irregular then 0 else (if leb decay_ticks (decay + 1) then 0 else decay + 1)

-- "Activity alarm: set at level 6 or more, cleared at 4 or less, kept at 5"
unfoldable pub alarm_after : ℕ → ℕ → ℕ → Bool → Bool
alarm_after set_level clear_level level alarm = if leb set_level level then true else (if leb level clear_level then false else alarm)

unfoldable pub activity_after : Bucket → Bool → Activity → Activity
activity_after b irregular x =
    let level = level_after b.size b.decay_ticks irregular x.level x.decay in
    record {
      level = level;
      decay = decay_after b.decay_ticks irregular x.decay;
      alarm = alarm_after b.set_level b.clear_level level x.alarm;
    }

-- ---- 2. lock alarm, good, soak

pub record Input : Type 0 where
  pub activity : Activity
  -- the frequency alarm
  pub frequency : Bool
  -- the lock alarm's remainder: the alarm stands while it is not 0
  pub remainder : ℕ
  pub soak : ℕ

-- "An input is good when its activity and frequency alarms are clear and the remainder is 0"
unfoldable pub good : Bool → Bool → ℕ → Bool
good activity frequency remainder = not activity && not frequency && eqb remainder 0

-- the soak of a qualified input (10 s)
abbrev pub full_soak : ℕ
full_soak = 79

-- "Good adds 1 to its soak up to 79 (10 s), else soak is 0"
unfoldable pub soak_after : Bool → ℕ → ℕ
soak_after is_good soak = if is_good then min full_soak (soak + 1) else 0

-- Steps 1 and 2. "A standing lock alarm's remainder falls by 1."
unfoldable pub monitored : Bucket → Bool → Input → Input
monitored b irregular i =
    let activity = activity_after b irregular i.activity in
    record {
      activity = activity;
      frequency = i.frequency;
      remainder = i.remainder - 1;
      soak = soak_after (good activity.alarm i.frequency (i.remainder - 1)) i.soak;
    }

-- "Qualified means soak 79"
unfoldable pub qualified : Input → Bool
qualified i = eqb i.soak full_soak

-- the input with its soak at 0 (a Hit, and a lock alarm)
unfoldable pub unsoaked : Input → Input
unsoaked i = record { activity = i.activity; frequency = i.frequency; remainder = i.remainder; soak = 0 }

-- #104: "at level S, alarm set, decay count 0"; the soak is unchanged
unfoldable pub at_size : ℕ → Input → Input
at_size size i =
    record { activity = record { level = size; decay = 0; alarm = true }; frequency = i.frequency; remainder = i.remainder; soak = i.soak }

-- the lock alarm's length (100 s)
abbrev pub alarm_ticks : ℕ
alarm_ticks = 782

-- "sets that input's lock alarm remainder to 782 and its soak to 0"
unfoldable pub lock_alarmed : Input → Input
lock_alarmed i = record { activity = i.activity; frequency = i.frequency; remainder = alarm_ticks; soak = 0 }

-- ---- a measurement

-- "A measurement's magnitude above the reject limit sets the frequency alarm; at or below the qualification limit clears it; between, it is kept."
-- Magnitude and limits are in one unit.
unfoldable pub frequency_after : ℕ → ℕ → ℕ → Bool → Bool
frequency_after reject qualification magnitude alarm =
    if ltb reject magnitude then true
    else (if leb magnitude qualification then false
    else alarm)

-- The magnitude is that of the whole number: −32,768 has 32,768, which no signed number of 16 bits is.
unfoldable pub measured : ℕ → ℕ → ℤ → Input → Input
measured reject qualification offset i =
    record {
      activity = i.activity;
      frequency = frequency_after reject qualification (nat_abs offset) i.frequency;
      remainder = i.remainder;
      soak = i.soak;
    }

-- "Fresh: all counts 0, activity alarms clear, frequency alarms set"
unfoldable pub fresh_input : Input
fresh_input = record { activity = record { level = 0; decay = 0; alarm = false }; frequency = true; remainder = 0; soak = 0 }
