-- What the number of a table says: 0 is that of a table that loads. The proofs of crates/service cite it.
use Rattle.std.proofs.Common.{ℕ, ◌≡◌, List, true, arith}
use Rattle.std.proofs.lemmas.Grind.{common_steps}
use Rattle.rules.specs.Loading.{loads, load_refusal}

pub loaded : (table : List ℕ) → load_refusal table ≡ 0 → loads table ≡ true
unfolding load_refusal
loaded table e = grind (arith, common_steps)
