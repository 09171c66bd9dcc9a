-- The sheet's own refusal; else 13 or 0 by the room for its pages.
use Rattle.std.proofs.Common.{rules, refl, arith, ◌≡◌, ◌+◌, ◌*◌, ap, sym, ◌∙◌, Err, ℕ, ltb, if◌then◌else◌, Bool, List}
use borrow.Author.Tests.{eq-eqb, ne_eqb}
use Rattle.rules.specs.Sheet.{record_count, settings_count, events_count, check}
use Rattle.rules.specs.Pages.{page_bytes, page_count, print_check}
use Rattle.refusals.proofs.Numbers.{refused}
use Rattle.print.proofs.print_check.Goals as goal

-- the sheet will run
by_pages : (s : List ℕ) (room paper settings events : ℕ) {short : Bool} → 0 ≡ check s room
    → (settings ≡ settings_count s) × (events ≡ events_count s)
    → short ≡ ltb paper (page_bytes * page_count (settings + events))
    → (if short then 13 else 0) ≡ print_check s room paper
unfolding print_check record_count
by_pages s room paper settings events z n e =
    rw (eq-eqb (check s room) 0 (sym z))
    (ap (λ b. if b then 13 else 0) (e ∙ (λ i. ltb paper (page_bytes * page_count (n.0 i + n.1 i)))))

pub returns-in_err-c : goal.returns-in_err-c
unfolding print_check
returns-in_err-c c =
    let r = c.in_err-c.field-0.0 in
    let e : c.from_residual.result ≡ Err r = search rules in
    rw (e, ← c.in_err-c.ensures.number, ne_eqb _ 0 (refused r)) refl

pub returns-then-too_short : goal.returns-then-too_short
returns-then-too_short c =
    let n = c.in_ok-c.ensures in
    sym (ap (λ b. if b then 13 else 0) c.if-too_short.true) ∙ by_pages c.args.sheet.now c.args.room c.args.paper _ _ n.number n.counts c.too_short.ensures

pub returns : goal.returns
returns c =
    let n = c.in_ok-c.ensures in
    sym (ap (λ b. if b then 13 else 0) c.if-too_short.false) ∙ by_pages c.args.sheet.now c.args.room c.args.paper _ _ n.number n.counts c.too_short.ensures
