-- What was read.
use Rattle.std.specs.Prelude.{ℕ, Result, Ok, Err}

-- so many bytes, up to the end or up to a read that failed
abbrev pub bytes_read : Result ℕ ℕ → ℕ
bytes_read (Ok n) = n
bytes_read (Err n) = n
