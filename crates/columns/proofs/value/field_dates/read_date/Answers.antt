use Rattle.std.proofs.Common.{[], length, sym, ap, ◌∙◌, arith, append-nil}
use Rattle.columns.specs.Dates.{date_text}
use Rattle.columns.proofs.value.field_dates.read_date.Goals as goal

pub returns-in_err-date-clause-only : goal.returns-in_err-date-clause-only
returns-in_err-date-clause-only c year month day small e = absurd (c.in_err-date.ensures.only year month day [] small (e ∙ sym (append-nil (date_text year month day))))

pub returns-then-rest-gt0-clause-only : goal.returns-then-rest-gt0-clause-only
returns-then-rest-gt0-clause-only c year month day small e =
    let found = c.in_ok-date.ensures.only year month day [] small (e ∙ sym (append-nil (date_text year month day))) in
    omega (arith, c.if-rest-gt0.true, ap length found.3)

pub returns-clause-only : goal.returns-clause-only
returns-clause-only c year month day small e =
    let found = c.in_ok-date.ensures.only year month day [] small (e ∙ sym (append-nil (date_text year month day))) in
    (found.0, found.1, found.2)
