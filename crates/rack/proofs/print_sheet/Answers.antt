-- The refusal's line, or the lines of the part that `run` hands back.
use Rattle.std.proofs.Common.{ℕ, length, sym, ap, ◌∙◌, arith}
use Rattle.std.proofs.Math.ListN.{replicate, length-replicate}
use Rattle.rules.specs.Sheet.{check}
use Rattle.refusals.proofs.Numbers.{refused as no_zero}
use Rattle.text.specs.Text.{records_text}
use Rattle.rack.proofs.Room.{refusal_room, records_room}
use Rattle.rack.proofs.Printed.{at_front, printed_refusal, printed_records}
use Rattle.rack.proofs.print_sheet.Goals as goal

pub returns-in-Err : goal.returns-in-Err
returns-in-Err c =
    let number = c.from.ensures ∙ (c.in-Err.ensures {u = tt}).number in
    let room = refusal_room c.from.result (omega arith) in
    at_front (printed_refusal c.args.sheet.now c.from.result number (λ z. no_zero c.in-Err.refusal (sym c.from.ensures ∙ z))) (omega arith) c.refused.ensures

pub returns : goal.returns
returns c =
    let s = c.args.sheet.now in
    let out = replicate {A = ℕ} 33_532 0 in
    let length-out = length-replicate {A = ℕ} 33_532 0 in
    let zero = ap (check s) length-out ∙ sym (c.in_default.ensures {u = tt}).number in
    let same = ap records_text c.run-part.ensures.result_value in
    let room = records_room s out length-out zero in
    at_front (same ∙ printed_records s out length-out zero) (omega (arith, ap length same, room)) c.lines.ensures
