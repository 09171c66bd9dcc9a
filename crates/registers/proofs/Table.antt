-- The code's table is the rules', row by row, which antt computes.
use Rattle.std.proofs.Common.{◌≡◌, ℕ, Option, Some, None, MatchOption, get_or, sym, ◌∙◌, ap}
use Rattle.std.proofs.Math.ListN.{get_or-map}
use Rattle.rules.specs.Registers as rules
use Rattle.registers.specs.declared.Writable as code
use Rattle.registers.specs.Bridge.{row}

-- past the map, one register that is read only has the same row as another
pub any_row : (k a b : ℕ) → row (get_or rules.registers k (rules.reads a)) ≡ row (get_or rules.registers k (rules.reads b))
unfolding row
any_row k a b = sym (get_or-map row rules.registers k (rules.reads a)) ∙ get_or-map row rules.registers k (rules.reads b)

-- a row's byte of the column Fresh
abbrev fresh_in : Option code.Writable → ℕ
fresh_in None = 0
fresh_in (Some r) = r.fresh

matched : (o : Option code.Writable) (f : ℕ) → MatchOption o (f ≡ 0) (λ r. f ≡ r.fresh) → f ≡ fresh_in o
matched None f h = h
matched (Some r) f h = h

pub fresh_here : (k f : ℕ) (o : Option code.Writable) → o ≡ row (get_or rules.registers k (rules.reads 0))
    → MatchOption o (f ≡ 0) (λ r. f ≡ r.fresh) → f ≡ get_or rules.fresh_table k 0
unfolding row rules.fresh_table rules.registers
fresh_here k f o e h = matched o f h ∙ ap fresh_in e ∙ sym (get_or-map (λ (r : rules.Register). fresh_in (row r)) rules.registers k (rules.reads 0))
