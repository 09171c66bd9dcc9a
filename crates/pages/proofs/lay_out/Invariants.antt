-- There is room for all lines, and the first j stand at the front.
use Rattle.std.proofs.Common.{◌≡◌, ◌*◌, ◌/◌, ◌≤◌, length}
use Rattle.rules.specs.Sheet.{over}
use Rattle.rules.specs.Pages.{line_bytes, page_line, joined}
use Rattle.pages.proofs.lay_out.Given as goal

abbrev pub invariant-loop-j : goal.invariant-loop-j
invariant-loop-j l = record {
  room : line_bytes * l.j-end ≤ length l.out;
  put : l.out ≡ over (joined (page_line (length l.records / 4) l.records) l.j 0) l.initial.out;
}
