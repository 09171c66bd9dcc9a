-- A floor of the reversion delay: a number of ticks that is not above it (proofs/Floor). A minute has 468.75 ticks.
use Rattle.std.specs.Prelude.{ℕ, ◌*◌}

abbrev pub delay_floor : ℕ → ℕ
delay_floor minutes = 468 * minutes
