-- A part of a list, from a place to the end, that is lent and comes back.
use Prim.Native.Nat.{ℕ, ◌+◌, ◌-◌}
use mathlib.Core.Path.{◌≡◌}
use mathlib.Core.List.{List, [], ◌++◌, append_assoc, append-nil}
use native.Mathlib.Omega.{arith}
use lib.ListN.{length, take, drop, length-drop, drop_of_length-le}
use lib.Seq.{take_all, drop-drop}
use Rattle.rules.specs.Sheet.{over}

-- the part from a to the end is what drop gives
pub part_all : (a : ℕ) (l : List ℕ) → take (length l - a) (drop a l) ≡ drop a l
part_all a l = take_all (length l - a) (drop a l) (omega (arith, length-drop a l))

-- nothing lies behind it
part_rest : (a : ℕ) (l : List ℕ) → drop (length l - a) (drop a l) ≡ []
part_rest a l = drop_of_length-le (drop a l) {i = length l - a} (omega (arith, length-drop a l))

-- the whole after the part came back as r over it
pub came_back : (a : ℕ) (r l : List ℕ)
    → take a l ++ (over r (take (length l - a) (drop a l)) ++ drop (length l - a) (drop a l)) ≡ (take a l ++ r) ++ drop (a + length r) l
came_back a r l = simp (part_all, part_rest, append-nil, append_assoc, drop-drop)
