-- No refusal has the number of what is carried out.
use Rattle.std.proofs.Common.{ℕ, ◌≡◌, ◌<◌, arith}
use Rattle.refusals.specs.declared.Refusal.{Refusal}
use Rattle.refusals.specs.declared.Refusal.TheVariants.{OutsideTheMap}
use Rattle.refusals.specs.Number.{number_of}

pub refused : (r : Refusal) → number_of r ≡ 0 → ⊥
refused r = elim r as (λ n. number_of n ≡ 0 → ⊥) [ OutsideTheMap ↦ λ e. omega arith | _ ↦ λ e. omega arith ]
