-- The laws of the rules, all in one place: each statement with its proof.
use Rattle.rules.specs.Laws.{Laws}
use Rattle.rules.proofs.Tables.{map_slots}
use Rattle.rules.proofs.Loading.{standard, reads_back}
use Rattle.rules.proofs.Counts.{delays, hours_held}
use Rattle.rules.proofs.Value.{value_floor, value_range}
use Rattle.rules.proofs.Best.{best_candidate}
use Rattle.rules.proofs.Chosen.{chosen_selectable, judged, non_revertive, wait_rule}
use Rattle.rules.proofs.Invariants.{invariants, saturation}
use Rattle.rules.proofs.Bytes.{bytes}
use Rattle.rules.proofs.Digits.{decimal_digits}
use Rattle.rules.proofs.Sheets.{outputs, output_kept}
use Rattle.rules.proofs.Callless.{no_calls, untouched}
use Rattle.rules.proofs.RecordBytes.{each_record}
use Rattle.rules.proofs.Refusals.{refused, not_ready, twos_complement}

pub laws : Laws
laws =
    record {
      invariants = invariants;
      saturation = saturation;
      hours = hours_held;
      delays = delays;
      best_candidate = best_candidate;
      judged = judged;
      selected = chosen_selectable;
      non_revertive = non_revertive;
      wait_rule = wait_rule;
      value = value_floor;
      value_range = value_range;
      twos_complement = twos_complement;
      not_ready = not_ready;
      refused = refused;
      map = map_slots;
      bytes = bytes;
      standard = standard;
      reads_back = reads_back;
      untouched = untouched;
      no_calls = no_calls;
      outputs = outputs;
      output_kept = output_kept;
      each_record = each_record;
      decimal = decimal_digits;
    }
