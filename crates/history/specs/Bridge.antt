-- From the code's tally and sums to the rules' history.
use Rattle.std.specs.Prelude.{ℕ, zero, suc, min, ◌≡◌, not, List, [], ◌∷◌, eqb, ℤ, pos, take}
use Rattle.rules.specs.History.{History, saturated}
use Rattle.history.specs.declared.History as code
use Rattle.history.specs.declared.Tally.{Tally}

-- The first so many of the stored sums; one that is not there counts as 0. A sum past ±16,000,000,000, which no history makes, is read as that bound.
unfoldable pub first_sums : ℕ → List ℤ → List ℤ
first_sums zero sums = []
first_sums (suc n) [] = pos 0 ∷ first_sums n []
first_sums (suc n) (x ∷ sums) = saturated x ∷ first_sums n sums

-- the first `count` of them, at most 64
abbrev pub kept_of : List ℤ → ℕ → List ℤ
kept_of sums count = first_sums (min count 64) sums

-- THE BRIDGE: the history that a tally is, with the sums in use, those of the building history and the backup's
abbrev pub history_of : Tally → List ℤ → List ℤ → List ℤ → History
history_of t sums building backup =
    record {
      kept = kept_of sums t.count;
      builds = not (eqb t.builds 0);
      building = kept_of building t.built;
      open_sum = saturated t.open;
      open_count = t.filled;
      last = t.last;
      command = t.command;
      backup = kept_of backup t.backed;
    }

-- the same, with the sums as they are stored
abbrev pub kept_in : Tally → code.History → History
kept_in t h = history_of t h.sums h.building h.backup

-- the 64 sums with a new one first
abbrev pub pushed : ℤ → List ℤ → List ℤ
pushed x sums = x ∷ take 63 sums

-- From tally t to tally r is the rule's step, whatever the sums are; they stay.
abbrev pub Steps : Tally → Tally → (History → History) → Type 0
Steps t r rule = (sums building backup : List ℤ) → history_of r sums building backup ≡ rule (history_of t sums building backup)
