-- A line more at each turn, and at the end all lines of the pages.
use Rattle.std.proofs.Common.{◌≡◌, ◌+◌, ◌*◌, ◌≤◌, ◌/◌, [], length, refl, sym, ◌∙◌, arith}
use Rattle.rules.specs.Pages.{line_bytes, page_lines, page_count, joined}
use Rattle.pages.specs.Output.{laid_out}
use Rattle.pages.proofs.Turns.{pages_are, has_room, record_text, blank_text, line_behind, lines_are_pages}
use Rattle.pages.proofs.lay_out.Goals as goal
use Rattle.pages.proofs.lay_out.Goals.{in-Some, in-None}

pub returns-then-too_short : goal.returns-then-too_short
unfolding laid_out
returns-then-too_short c = rw (← c.as_chunks.ensures.front_len, sym c.too_short.ensures ∙ c.if-too_short.true) refl

pub loop-j-init : goal.loop-j-init
unfolding joined
loop-j-init c = record { room = has_room _ _ c.too_short.ensures c.if-too_short.false c.div_ceil-j-end.ensures; put = refl }

pub loop-j-preserved : goal.loop-j-preserved
loop-j-preserved c =
    let here : line_bytes * c.loop-j.j + line_bytes ≤ length c.loop-j.out = omega arith in
    record {
      room = omega arith;
      put = elim c.match-get.branch [
        | in-Some w ↦
            let found = (w.in-Some.ensures {u = tt}).lookup in
            let text = record_text _ _ _ c.as_chunks.ensures.front (rw c.as_chunks.ensures.front_len at found.0) (found.3.1 []) in
            rw w.out-is (line_behind _ _ _ _ here c.loop-j.invariant.put text w.put_columns.ensures)
        | in-None w ↦
            let none = (w.in-None.ensures {u = tt}).lookup in
            let text = blank_text _ _ _ (rw c.as_chunks.ensures.front_len at none.0) in
            rw w.out-is (line_behind _ _ _ _ here c.loop-j.invariant.put text w.put_word.ensures)
      ];
    }

pub returns : goal.returns
unfolding laid_out
returns c =
    let some : c.loop-j.j ≡ page_lines * page_count (length c.args.records.now / 4) = omega (arith, pages_are (length c.args.records.now / 4)) in
    rw (← c.as_chunks.ensures.front_len, sym c.too_short.ensures ∙ c.if-too_short.false, c.as_chunks.ensures.front_len)
    (c.loop-j.invariant.put ∙ lines_are_pages _ _ _ _ some)
