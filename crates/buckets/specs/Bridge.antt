-- From the stored sets and set numbers to the rules'.
use Rattle.std.specs.Prelude.{ℕ, ◌+◌, ◌-◌, ◌*◌, ◌/◌, ◌%◌, ◌^◌, min, List, [], ◌∷◌, eqb, get_or, if◌then◌else◌}
use Rattle.rules.specs.Monitors.{Bucket}
use Rattle.rules.specs.Buckets as rules
use Rattle.buckets.specs.declared.Buckets.{Buckets}
use Rattle.buckets.specs.declared.Numbers.{Numbers}

-- four and eight values, by their lanes
abbrev pub four : {A : Type 0} → (ℕ → A) → List A
four f = f 0 ∷ f 1 ∷ f 2 ∷ f 3 ∷ []

abbrev pub eight : {A : Type 0} → (ℕ → A) → List A
eight f = f 0 ∷ f 1 ∷ f 2 ∷ f 3 ∷ f 4 ∷ f 5 ∷ f 6 ∷ f 7 ∷ []

-- ---- a set in one word

-- the byte of a word at a unit: 1, 256, 65,536, 16,777,216
abbrev pub byte_of : ℕ → ℕ → ℕ
byte_of w unit = w / unit % 256

-- the ticks of a decay whose last count is stored so: the lowest byte counts
abbrev pub ticks_of : ℕ → ℕ
ticks_of last = last % 256 + 1

abbrev pub bucket_in : ℕ → Bucket
bucket_in w = record { size = byte_of w 1; set_level = byte_of w 256; clear_level = byte_of w 65_536; decay_ticks = ticks_of (byte_of w 16_777_216) }

-- the rules' sets that the words hold; of a stored set number the two lowest bits count
unfoldable pub buckets_of : Buckets → rules.Buckets
buckets_of b = record { sets = four (λ k. bucket_in (get_or b.sets k 0)); assigned = eight (λ k. get_or b.assigned k 0 % 4) }

-- ---- after a call

-- the word of a set: its size, set level, clear level, and the last count of a decay of 2^d ticks, d being 3 at most
unfoldable pub word_from : ℕ → ℕ → ℕ → ℕ → ℕ
word_from size set_level clear_level d = size + 256 * set_level + 65_536 * clear_level + 16_777_216 * (2 ^ min d 3 - 1)

-- with another word for set n
abbrev pub with_word : ℕ → ℕ → Buckets → Buckets
with_word n w b = record { sets = four (λ k. if eqb n k then w else get_or b.sets k 0); assigned = b.assigned }

-- with another set number for input i
abbrev pub with_number : ℕ → ℕ → Buckets → Buckets
with_number i n b = record { sets = b.sets; assigned = eight (λ k. if eqb i (k + 1) then n else get_or b.assigned k 0) }

-- ---- the numbers of each input

-- the word of the set of the input in a lane
abbrev pub word_of : List ℕ → List ℕ → ℕ → ℕ
word_of sets assigned k = get_or sets (get_or assigned k 0 % 4) 0

-- four rows of eight: sizes, set levels, clear levels, and last decay counts
abbrev pub numbers : List ℕ → List ℕ → List ℕ → List ℕ → Numbers
numbers sizes highs lows lasts = record { sizes = sizes; highs = highs; lows = lows; lasts = lasts }

-- the bucket in a lane of such rows
abbrev pub bucket_at : List ℕ → List ℕ → List ℕ → List ℕ → ℕ → Bucket
bucket_at sizes highs lows lasts k =
    record { size = get_or sizes k 0; set_level = get_or highs k 0; clear_level = get_or lows k 0; decay_ticks = ticks_of (get_or lasts k 0) }

-- for each input those of its set
unfoldable pub numbers_of : Buckets → Numbers
numbers_of b = numbers (row 1) (row 256) (row 65_536) (row 16_777_216)
  where
    row : ℕ → List ℕ
    row unit = eight (λ k. byte_of (word_of b.sets b.assigned k) unit)
