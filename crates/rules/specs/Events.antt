-- Document 01, "Events", with the finer readings of request #106 of document 02, and the calls of #104 and #107, which are events of a history too.
use Rattle.std.specs.Prelude.{ℕ, Bool, true, false, List, ℤ, pos, ◌*ℤ◌}
use Rattle.rules.specs.Week.{Window}

-- "Tick (irregular mask, bit i−1 for input i; lock flag; frequency sample in parts per 10^12"
pub record Tick : Type 0 where
  pub mask : ℕ
  pub lock : Bool
  pub sample : ℤ

pub data Event : Type 0 where
  -- "Tick"
  tick : Tick → Event
  -- "Measurement (input 1 to 8; ..": the input, and the offset, of #106 "a 16-bit signed number" in steps of 1/64 ppm; here any whole number
  measurement : ℕ → ℤ → Event
  -- "Hit"
  hit : Event
  -- "Write (address, value byte)"
  write : ℕ → ℕ → Event
  -- #104, "Setting .. a set": its number, size S, set level U, clear level L, and d, its decay being 2^d ticks
  set_bucket : ℕ → ℕ → ℕ → ℕ → ℕ → Event
  -- #104, ".. or assigning a set": the input, and the set's number
  assign_bucket : ℕ → ℕ → Event
  -- #107, "a call sets the place in the week"
  set_week : ℕ → Event
  -- #107, "setting .. the windows": all of them
  set_windows : List Window → Event

-- a tick, by its mask, its lock flag and its sample
abbrev pub tick_with : ℕ → Bool → ℤ → Event
tick_with mask lock sample = tick (record { mask = mask; lock = lock; sample = sample })

-- #106: "The new counter resolves 1/64 ppm." 0.5 ppm, in which the limits and the offsets of the old kind are, is so many of its steps.
abbrev pub half_ppm : ℕ
half_ppm = 32

-- A measurement of the old kind, "signed byte in 0.5 ppm". #106: it "means 32 times its byte"
abbrev pub old_kind : ℕ → ℤ → Event
old_kind i offset = measurement i (pos half_ppm *ℤ offset)

-- "sample .. −125,000,000 to 125,000,000"
abbrev pub sample_limit : ℕ
sample_limit = 125_000_000

abbrev pub is_tick : Event → Bool
is_tick (tick t) = true
is_tick (measurement i offset) = false
is_tick hit = false
is_tick (write a v) = false
is_tick (set_bucket n size set_level clear_level d) = false
is_tick (assign_bucket i n) = false
is_tick (set_week place) = false
is_tick (set_windows windows) = false

-- a call of the host's, which no run sheet can hold
abbrev pub is_call : Event → Bool
is_call (tick t) = false
is_call (measurement i offset) = false
is_call hit = false
is_call (write a v) = false
is_call (set_bucket n size set_level clear_level d) = true
is_call (assign_bucket i n) = true
is_call (set_week place) = true
is_call (set_windows windows) = true
