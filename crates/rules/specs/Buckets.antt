-- Request #104 of document 02, "Four bucket settings": the four sets, the set of each input, and what the two calls put the inputs at.
use Rattle.std.specs.Prelude.{ℕ, ◌-◌, ◌^◌, Bool, ◌&&◌, List, leb, ltb, eqb, get_or, set, replicate, if◌then◌else◌}
use Rattle.rules.specs.Monitors.{Bucket, at_size}
use Rattle.rules.specs.Inputs.{Inputs, each_from}

-- "size S, set level U, clear level L, decay of 2^d ticks"
unfoldable pub bucket_from : ℕ → ℕ → ℕ → ℕ → Bucket
bucket_from size set_level clear_level d = record { size = size; set_level = set_level; clear_level = clear_level; decay_ticks = 2 ^ d }

-- "with L < U ≤ S ≤ 255 and d from 0 to 3"
unfoldable pub in_bounds : ℕ → ℕ → ℕ → ℕ → Bool
in_bounds size set_level clear_level d = ltb clear_level set_level && leb set_level size && leb size 255 && leb d 3

-- set numbers are 0 to 3
abbrev pub is_set_number : ℕ → Bool
is_set_number n = leb n 3

pub record Buckets : Type 0 where
  -- the four sets, set 0 first
  pub sets : List Bucket
  -- the number of each input's set, input 1 first
  pub assigned : List ℕ

-- "All sets start as 8, 6, 4, 1."
unfoldable pub start_bucket : Bucket
start_bucket = bucket_from 8 6 4 1

-- "Each input has one of four sets, at first set 0"
unfoldable pub fresh_buckets : Buckets
fresh_buckets = record { sets = replicate 4 start_bucket; assigned = replicate 8 0 }

-- a set, by its number
abbrev pub set_at : Buckets → ℕ → Bucket
set_at bs n = get_or bs.sets n start_bucket

-- the number of an input's set, and the bucket that it so has
abbrev pub set_of : Buckets → ℕ → ℕ
set_of bs i = get_or bs.assigned (i - 1) 0

abbrev pub bucket_of : Buckets → ℕ → Bucket
bucket_of bs i = set_at bs (set_of bs i)

-- ---- the calls

-- set n is set
unfoldable pub with_set : ℕ → Bucket → Buckets → Buckets
with_set n b bs = record { sets = set bs.sets n b; assigned = bs.assigned }

-- input i is assigned set n
unfoldable pub with_assigned : ℕ → ℕ → Buckets → Buckets
with_assigned i n bs = record { sets = bs.sets; assigned = set bs.assigned (i - 1) n }

-- "Setting or assigning a set, even as it was, puts each input it concerns at level S, alarm set, decay count 0."
unfoldable pub put_at_size : (ℕ → Bool) → ℕ → Inputs → Inputs
put_at_size concerned size inputs = each_from (λ i x. if concerned i then at_size size x else x) 1 inputs

-- setting a set concerns the inputs that have it; assigning one, the input that gets it
abbrev pub having : Buckets → ℕ → ℕ → Bool
having bs n i = eqb (set_of bs i) n
