-- The events of a part of a sheet, eight bytes each: the first, and those behind it.
use Rattle.std.proofs.Common.{ℕ, suc, ◌/◌, ◌<◌, ◌≡◌, refl, ◌&&◌, List, ◌++◌, length, get_or, drop_at, length-append, arith}
use Rattle.std.proofs.Math.ListN.{get_or-append}
use Rattle.rules.specs.Sheet.{is_event, decode, all_events}

module _ (x rest : List ℕ) (eight : length x ≡ 8) where
  -- it is what its own bytes decode to
  pub first_event : decode (x ++ rest) ≡ decode x
  unfolding decode
  first_event =
      let byte : (k : ℕ) → k < 8 → get_or (x ++ rest) k 0 ≡ get_or x k 0 = λ k h. get_or-append x rest 0 k (omega arith) in
      simp (
        byte 0 (omega arith),
        byte 1 (omega arith),
        byte 2 (omega arith),
        byte 3 (omega arith),
        byte 4 (omega arith),
        byte 5 (omega arith),
        byte 6 (omega arith),
        byte 7 (omega arith),
      )

  pub event_more : all_events (length (x ++ rest) / 8) (x ++ rest) ≡ (is_event (decode x) && all_events (length rest / 8) rest)
  unfolding all_events
  event_more =
      let one : length (x ++ rest) / 8 ≡ suc (length rest / 8) = omega (arith, length-append x rest) in
      rw (one, first_event, drop_at x rest 8 eight) refl
