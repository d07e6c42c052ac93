use Rattle.columns.proofs.Names.{◌≡◌, ℕ, suc, ◌+◌, ◌-◌, ap, ◌∙◌, arith, month_length}
use Rattle.columns.specs.CalendarDays.{months_days}
use Rattle.columns.proofs.CalendarDays.{no_months, more_months, month_short}
use Rattle.columns.proofs.value.calendar.days_before_month.Goals as goal

pub loop-earlier-preserved : goal.loop-earlier-preserved
loop-earlier-preserved c =
    let year = c.args.year in
    let month = c.args.month in
    let earlier = c.loop-earlier.earlier in
    let one : month - earlier ≡ suc (month - (earlier + 1)) = omega (arith, c.loop-earlier-test.true) in
    let all : months_days year (month - earlier) earlier ≡ month_length year earlier + months_days year (month - (earlier + 1)) (earlier + 1) =
    ap (λ (n : ℕ). months_days year n earlier) one ∙ more_months year (month - (earlier + 1)) earlier in (
      omega (arith, c.loop-earlier.invariant.0, all, c.month_length-days.ensures),
      omega (arith, c.loop-earlier.invariant.1, c.month_length-days.ensures, month_short year earlier, c.loop-earlier.auto.earlier),
      omega (arith, c.loop-earlier-test.true),
    )

pub returns-clause-days : goal.returns-clause-days
returns-clause-days c =
    let left = c.args.month - c.loop-earlier.earlier in
    let none : left ≡ 0 = omega (arith, c.loop-earlier-test.false) in
    let no_days : months_days c.args.year left c.loop-earlier.earlier ≡ 0 =
    ap (λ (n : ℕ). months_days c.args.year n c.loop-earlier.earlier) none ∙ no_months c.args.year c.loop-earlier.earlier in
    omega (arith, c.loop-earlier.invariant.0, no_days)

pub returns-clause-few : goal.returns-clause-few
returns-clause-few c = omega (arith, c.loop-earlier.invariant.1)
