-- A refusal leaves both outputs; else the pages are those of the part that `run_into` wrote.
use Rattle.std.proofs.Common.{refl, arith, ◌≡◌, ap, sym, ◌∙◌, List, ℕ, length, take}
use Rattle.rules.specs.Sheet.{front}
use Rattle.rules.specs.Pages.{print_check}
use Rattle.rules.proofs.Sheets.{outputs, front_part}
use Rattle.rules.proofs.Prints.{print_passed, ran, refused}
use Rattle.refusals.proofs.Numbers.{refused as no_zero}
use Rattle.pages.specs.Output.{laid_out}
use Rattle.print.proofs.LaidOut.{pages_laid_out}
use Rattle.print.proofs.sheet_print.Goals as goal
use Rattle.print.proofs.sheet_print.Goals.{After-run_into-n}

-- after the run: the sheet has passed its check, and the part written is what the rule hands back
record Ran (s records pages : List ℕ) (n : ℕ) (after : List ℕ) : Type 0 where
  zero : print_check s (length records) (length pages) ≡ 0
  part : take n after ≡ front s (length records)

ran_part : (c : After-run_into-n)
    → let a = c.args in
    Ran a.sheet.now a.records.now a.pages.now c.run_into-n.result c.run_into-n.new.out
ran_part c =
    let a = c.args in
    record {
      zero = sym c.in_default.ensures;
      part = ap (take c.run_into-n.result) c.run_into-n.ensures.out_after ∙ front_part a.sheet.now a.records.now c.run_into-n.result c.run_into-n.ensures.value;
    }

pub returns-in-Err : goal.returns-in-Err
returns-in-Err c =
    let a = c.args in
    let number = c.from.ensures ∙ c.in-Err.ensures in
    rw number (sym (refused a.sheet.now a.records.now a.pages.now (λ z. no_zero c.in-Err.r (c.in-Err.ensures ∙ z))))

pub slice_bounds-lay_out-end : goal.slice_bounds-lay_out-end
slice_bounds-lay_out-end c =
    let a = c.args in
    let fits = outputs a.sheet.now a.records.now (print_passed a.sheet.now _ _ (ran_part (goal.at.slice_bounds-lay_out-end c).After-run_into-n).zero).runs in
    omega (arith, c.run_into-n.ensures.value, ap length c.run_into-n.ensures.out_after, fits.written, fits.within, fits.kept)

pub slice_bounds-lay_out-end-2 : goal.slice_bounds-lay_out-end-2
slice_bounds-lay_out-end-2 c = c.run_into-n.ensures.value ∙ sym (ap length (ran_part (goal.at.slice_bounds-lay_out-end-2 c).After-run_into-n).part)

pub returns : goal.returns
returns c =
    let a = c.args in
    let r = ran_part (goal.at.returns c).After-run_into-n in
    let s = a.sheet.now in
    let pages = c.lay_out.ensures ∙ ap (λ (l : List ℕ). laid_out l a.pages.now) r.part ∙ pages_laid_out s a.records.now a.pages.now (print_passed s _ _ r.zero) in
    rw (c.run_into-n.ensures.out_after, pages) (sym (ran s a.records.now a.pages.now r.zero))
