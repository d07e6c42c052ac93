use Rattle.columns.proofs.Names.{◌≡◌, ℕ, suc, ◌+◌, ◌-◌, ap, ◌∙◌, arith, year_length}
use Rattle.columns.specs.CalendarDays.{years_days}
use Rattle.columns.proofs.CalendarDays.{no_years, more_years, year_short}
use Rattle.columns.proofs.value.calendar.days_before_year.Goals as goal

pub loop-earlier-preserved : goal.loop-earlier-preserved
loop-earlier-preserved c =
    let year = c.args.year in
    let earlier = c.loop-earlier.earlier in
    let one : year - earlier ≡ suc (year - (earlier + 1)) = omega (arith, c.loop-earlier-test.true) in
    let all : years_days (year - earlier) earlier ≡ year_length earlier + years_days (year - (earlier + 1)) (earlier + 1) =
    ap (λ (n : ℕ). years_days n earlier) one ∙ more_years (year - (earlier + 1)) earlier in (
      omega (arith, c.loop-earlier.invariant.0, all, c.year_length-days.ensures),
      omega (arith, c.loop-earlier.invariant.1, c.year_length-days.ensures, year_short earlier, c.loop-earlier.auto.earlier),
      omega (arith, c.loop-earlier-test.true),
    )

pub returns-clause-days : goal.returns-clause-days
returns-clause-days c =
    let left = c.args.year - c.loop-earlier.earlier in
    let none : left ≡ 0 = omega (arith, c.loop-earlier-test.false) in
    let no_days : years_days left c.loop-earlier.earlier ≡ 0 = ap (λ (n : ℕ). years_days n c.loop-earlier.earlier) none ∙ no_years c.loop-earlier.earlier in
    omega (arith, c.loop-earlier.invariant.0, no_days)

pub returns-clause-few : goal.returns-clause-few
returns-clause-few c = omega (arith, c.loop-earlier.invariant.1)
