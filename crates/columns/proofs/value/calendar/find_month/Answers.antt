use Rattle.std.proofs.Common.{◌≡◌, ℕ, suc, ◌+◌, ◌-◌, sym, ap, ◌∙◌, arith}
use Rattle.columns.specs.Calendar.{month_from}
use Rattle.columns.proofs.CalendarSteps.{month_stops, month_goes_on, month_ends}
use Rattle.columns.proofs.value.calendar.find_month.Goals as goal

pub returns-then-left-length-clause-found : goal.returns-then-left-length-clause-found
returns-then-left-length-clause-found c =
    sym (month_stops c.args.year (12 - c.loop-month.month) c.loop-month.month c.loop-month.left (omega (arith, c.loop-month-test.true)) (omega (arith, c.if-left-length.true, c.month_length-length.ensures))) ∙ c.loop-month.invariant.0

pub loop-month-preserved : goal.loop-month-preserved
loop-month-preserved c =
    let one : 12 - c.loop-month.month ≡ suc (12 - (c.loop-month.month + 1)) = omega (arith, c.loop-month-test.true) in
    let length_is = c.month_length-length.ensures in (
      sym (ap (λ (n : ℕ). month_from c.args.year n c.loop-month.month c.loop-month.left) one ∙ month_goes_on c.args.year (12 - (c.loop-month.month + 1)) c.loop-month.month c.loop-month.left (omega (arith, c.if-left-length.false, length_is))
          ∙ ap (λ (n : ℕ). month_from c.args.year (12 - (c.loop-month.month + 1)) (c.loop-month.month + 1) (c.loop-month.left - n)) (sym length_is)) ∙ c.loop-month.invariant.0,
      omega (arith, c.loop-month.invariant.1),
    )

pub returns-clause-found : goal.returns-clause-found
returns-clause-found c =
    let ended : c.loop-month.month ≡ 12 = omega (arith, c.loop-month-test.false, c.loop-month.auto.month-end, c.loop-month.auto.month) in
    let none : 12 - c.loop-month.month ≡ 0 = omega (arith, ended) in
    sym ((λ i. month_from c.args.year (none i) (ended i) c.loop-month.left) ∙ month_ends c.args.year 12 c.loop-month.left) ∙ c.loop-month.invariant.0
