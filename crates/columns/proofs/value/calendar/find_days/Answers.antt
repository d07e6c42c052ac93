use Rattle.columns.proofs.Names.{◌≡◌, ℕ, ◌+◌, ap, ◌∙◌, arith, year_of, month_of}
use Rattle.columns.proofs.CalendarDays.{days_of}
use Rattle.columns.proofs.value.calendar.find_days.Goals as goal

pub returns-then-found_year-year-clause-only : goal.returns-then-found_year-year-clause-only
returns-then-found_year-year-clause-only c days is =
    let whole = days_of days c.args.year c.args.month c.args.day is in
    let same : c.days_before_year.result + c.days_before_month.result + c.from-after.result ≡ days =
    omega (arith, whole, c.days_before_year.ensures.days, c.days_before_month.ensures.days, c.from-after.ensures) in
    c.if-found_year-year.true (ap (λ p. p.0) c.find_year-found_year.ensures.found ∙ ap (λ (n : ℕ). (year_of n).0) same ∙ is.0)

pub returns-then-found_month-month-clause-only : goal.returns-then-found_month-month-clause-only
returns-then-found_month-month-clause-only c days is =
    let whole = days_of days c.args.year c.args.month c.args.day is in
    let same : c.days_before_year.result + c.days_before_month.result + c.from-after.result ≡ days =
    omega (arith, whole, c.days_before_year.ensures.days, c.days_before_month.ensures.days, c.from-after.ensures) in
    let of_year = c.find_year-found_year.ensures.found ∙ ap year_of same in
    c.if-found_month-month.true (ap (λ p. p.0) c.find_month-found_month.ensures.found ∙ (λ i. (month_of (of_year i).0 (of_year i).1).0) ∙ is.1)

pub returns-then-rest-after-clause-only : goal.returns-then-rest-after-clause-only
returns-then-rest-after-clause-only c days is =
    let whole = days_of days c.args.year c.args.month c.args.day is in
    let same : c.days_before_year.result + c.days_before_month.result + c.from-after.result ≡ days =
    omega (arith, whole, c.days_before_year.ensures.days, c.days_before_month.ensures.days, c.from-after.ensures) in
    let of_year = c.find_year-found_year.ensures.found ∙ ap year_of same in
    let rest : c.find_month-found_month.result.1 ≡ (month_of (year_of days).0 (year_of days).1).1 =
    ap (λ p. p.1) c.find_month-found_month.ensures.found ∙ (λ i. (month_of (of_year i).0 (of_year i).1).1) in
    c.if-rest-after.true (omega (arith, rest, is.2, c.from-after.ensures))

pub returns-clause-only : goal.returns-clause-only
returns-clause-only c days is =
    let whole = days_of days c.args.year c.args.month c.args.day is in
    omega (arith, whole, c.days_before_year.ensures.days, c.days_before_month.ensures.days, c.from-after.ensures)
