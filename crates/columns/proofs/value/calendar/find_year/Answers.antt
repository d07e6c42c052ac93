use Rattle.std.proofs.Common.{◌≡◌, ℕ, suc, ◌+◌, ◌-◌, sym, ap, ◌∙◌, arith}
use Rattle.columns.specs.Calendar.{year_from}
use Rattle.columns.proofs.CalendarSteps.{year_stops, year_goes_on, year_ends}
use Rattle.columns.proofs.value.calendar.find_year.Goals as goal

pub returns-then-left-length-clause-found : goal.returns-then-left-length-clause-found
returns-then-left-length-clause-found c =
    sym (year_stops (2038 - c.loop-year.year) c.loop-year.year c.loop-year.left (omega (arith, c.loop-year-test.true)) (omega (arith, c.if-left-length.true, c.year_length-length.ensures))) ∙ c.loop-year.invariant.0

pub loop-year-preserved : goal.loop-year-preserved
loop-year-preserved c =
    let one : 2038 - c.loop-year.year ≡ suc (2038 - (c.loop-year.year + 1)) = omega (arith, c.loop-year-test.true) in
    let length_is = c.year_length-length.ensures in (
      sym (ap (λ (n : ℕ). year_from n c.loop-year.year c.loop-year.left) one ∙ year_goes_on (2038 - (c.loop-year.year + 1)) c.loop-year.year c.loop-year.left (omega (arith, c.if-left-length.false, length_is))
          ∙ ap (λ (n : ℕ). year_from (2038 - (c.loop-year.year + 1)) (c.loop-year.year + 1) (c.loop-year.left - n)) (sym length_is)) ∙ c.loop-year.invariant.0,
      omega (arith, c.loop-year.invariant.1),
    )

pub returns-clause-found : goal.returns-clause-found
returns-clause-found c =
    let ended : c.loop-year.year ≡ 2038 = omega (arith, c.loop-year-test.false, c.loop-year.auto.year-end, c.loop-year.auto.year) in
    let none : 2038 - c.loop-year.year ≡ 0 = omega (arith, ended) in
    sym ((λ i. year_from (none i) (ended i) c.loop-year.left) ∙ year_ends 2038 c.loop-year.left) ∙ c.loop-year.invariant.0
