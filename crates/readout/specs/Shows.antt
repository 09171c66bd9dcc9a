-- What a read gives as one number.
use Rattle.std.specs.Prelude.{ℕ, ◌+◌, ◌*◌, ◌≡◌, Result, Ok, Err}
use Rattle.rules.specs.Reading.{Answer, read}
use Rattle.refusals.specs.declared.Refusal.{Refusal}
use Rattle.refusals.specs.Number.{number_of}
use Rattle.state.specs.Stored.{Stored, meaning}

-- an answer as one number: 256 times the refusal, plus the byte
abbrev pub word_of : Answer → ℕ
word_of n = 256 * n.refusal + n.byte

-- what a read of unit u at an address returns
abbrev pub Shows : Stored → ℕ → ℕ → Type 0
Shows u address n = n ≡ word_of (read (meaning u) address)

-- the byte or the refusal that the code gives, as that number
abbrev pub shown_word : Result ℕ Refusal → ℕ
shown_word (Ok b) = b
shown_word (Err r) = 256 * number_of r
