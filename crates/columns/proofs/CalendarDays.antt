-- The days of years and months, and the date that they lead to.
use Rattle.columns.proofs.Names.{◌≡◌, ℕ, zero, suc, ◌+◌, ◌-◌, ◌<◌, ◌≤◌, ◌⊎◌, inl, inr, ◌==◌, ◌||◌, Bool, true, false, if◌then◌else◌, refl, sym, ap, subst, ◌∙◌, arith, cases_lt, year_length, month_length, year_of, month_of}
use Rattle.columns.specs.Calendar.{is_leap, year_from, month_from}
use Rattle.columns.specs.CalendarDays.{years_days, months_days, IsDayOf}
use Rattle.columns.proofs.CalendarSteps.{year_stops, year_goes_on, year_ends, month_stops, month_goes_on, month_ends}

pub no_years : (year : ℕ) → years_days 0 year ≡ 0
unfolding years_days
no_years year = refl

pub more_years : (more year : ℕ) → years_days (suc more) year ≡ year_length year + years_days more (year + 1)
unfolding years_days
more_years more year = refl

pub no_months : (year month : ℕ) → months_days year 0 month ≡ 0
unfolding months_days
no_months year month = refl

pub more_months : (year more month : ℕ) → months_days year (suc more) month ≡ month_length year month + months_days year more (month + 1)
unfolding months_days
more_months year more month = refl

by_leap : (leap : Bool) → (if leap then 366 else 365) ≤ 366
by_leap true = omega arith
by_leap false = omega arith

pub year_short : (year : ℕ) → year_length year ≤ 366
year_short year = by_leap (is_leap year)

by_month : (a b leap : Bool) → (if a then (if leap then 29 else 28) else if b then 30 else 31) ≤ 31
by_month true b true = omega arith
by_month true b false = omega arith
by_month false true leap = omega arith
by_month false false leap = omega arith

pub month_short : (year month : ℕ) → month_length year month ≤ 31
month_short year month = by_month (month == 2) (month == 4 || month == 6 || month == 9 || month == 11) (is_leap year)

-- what counting on leads to: the year, the days before it, and the days after its first
pub record IsYear (more year days to left : ℕ) : Type 0 where
  pub from : year ≤ to
  pub within : to ≤ year + more
  pub days_are : days ≡ years_days (to - year) year + left
  pub stops : (to ≡ year + more) ⊎ (left < year_length to)

same_year : (more year days : ℕ) → (year ≡ year + more) ⊎ (days < year_length year) → IsYear more year days year days
same_year more year days stops = record {
  from = omega arith;
  within = omega arith;
  days_are = let none : year - year ≡ 0 = omega arith in let no_days : years_days (year - year) year ≡ 0 = ap (λ (n : ℕ). years_days n year) none ∙ no_years year in omega (arith, no_days);
  stops = stops;
}

pub year_is : (more year days : ℕ) → IsYear more year days (year_from more year days).0 (year_from more year days).1
year_is zero year days =
    subst (λ (p : ℕ × ℕ). IsYear 0 year days p.0 p.1) (sym (year_ends year days)) (same_year 0 year days (inl (omega arith)))
year_is (suc more) year days = by (cases_lt days (year_length year)) (λ above. year_is more (year + 1) (days - year_length year))
  where
    by : (days < year_length year) ⊎ (year_length year ≤ days) →
        (year_length year ≤ days → IsYear more (year + 1) (days - year_length year) (year_from more (year + 1) (days - year_length year)).0 (year_from more (year + 1) (days - year_length year)).1) →
        IsYear (suc more) year days (year_from (suc more) year days).0 (year_from (suc more) year days).1
    by (inl below) next =
        subst (λ (p : ℕ × ℕ). IsYear (suc more) year days p.0 p.1) (sym (year_stops (suc more) year days (omega arith) below)) (same_year (suc more) year days (inr below))
    by (inr above) next =
        let rest = next above in
        let to = (year_from more (year + 1) (days - year_length year)).0 in
        let left = (year_from more (year + 1) (days - year_length year)).1 in
        let one : to - year ≡ suc (to - (year + 1)) = omega (arith, rest.from) in
        let all : years_days (to - year) year ≡ year_length year + years_days (to - (year + 1)) (year + 1) =
        ap (λ (n : ℕ). years_days n year) one ∙ more_years (to - (year + 1)) year in
        subst (λ (p : ℕ × ℕ). IsYear (suc more) year days p.0 p.1) (sym (year_goes_on more year days above)) (record {
          from = omega (arith, rest.from);
          within = omega (arith, rest.within);
          days_are = omega (arith, rest.days_are, all, above);
          stops = elim rest.stops [ inl last ↦ inl (omega (arith, last)) | inr below ↦ inr below ];
        })

-- the same for the months of a year
pub record IsMonth (year more month days to left : ℕ) : Type 0 where
  pub from : month ≤ to
  pub within : to ≤ month + more
  pub days_are : days ≡ months_days year (to - month) month + left
  pub stops : (to ≡ month + more) ⊎ (left < month_length year to)

same_month : (year more month days : ℕ) → (month ≡ month + more) ⊎ (days < month_length year month) → IsMonth year more month days month days
same_month year more month days stops = record {
  from = omega arith;
  within = omega arith;
  days_are = let none : month - month ≡ 0 = omega arith in let no_days : months_days year (month - month) month ≡ 0 = ap (λ (n : ℕ). months_days year n month) none ∙ no_months year month in omega (arith, no_days);
  stops = stops;
}

pub month_is : (year more month days : ℕ) → IsMonth year more month days (month_from year more month days).0 (month_from year more month days).1
month_is year zero month days =
    subst (λ (p : ℕ × ℕ). IsMonth year 0 month days p.0 p.1) (sym (month_ends year month days)) (same_month year 0 month days (inl (omega arith)))
month_is year (suc more) month days = by (cases_lt days (month_length year month)) (λ above. month_is year more (month + 1) (days - month_length year month))
  where
    by : (days < month_length year month) ⊎ (month_length year month ≤ days) →
        (month_length year month ≤ days →
        IsMonth year more (month + 1) (days - month_length year month) (month_from year more (month + 1) (days - month_length year month)).0 (month_from year more (month + 1) (days - month_length year month)).1) →
        IsMonth year (suc more) month days (month_from year (suc more) month days).0 (month_from year (suc more) month days).1
    by (inl below) next =
        subst (λ (p : ℕ × ℕ). IsMonth year (suc more) month days p.0 p.1) (sym (month_stops year (suc more) month days (omega arith) below)) (same_month year (suc more) month days (inr below))
    by (inr above) next =
        let rest = next above in
        let to = (month_from year more (month + 1) (days - month_length year month)).0 in
        let left = (month_from year more (month + 1) (days - month_length year month)).1 in
        let one : to - month ≡ suc (to - (month + 1)) = omega (arith, rest.from) in
        let all : months_days year (to - month) month ≡ month_length year month + months_days year (to - (month + 1)) (month + 1) =
        ap (λ (n : ℕ). months_days year n month) one ∙ more_months year (to - (month + 1)) month in
        subst (λ (p : ℕ × ℕ). IsMonth year (suc more) month days p.0 p.1) (sym (month_goes_on year more month days above)) (record {
          from = omega (arith, rest.from);
          within = omega (arith, rest.within);
          days_are = omega (arith, rest.days_are, all, above);
          stops = elim rest.stops [ inl last ↦ inl (omega (arith, last)) | inr below ↦ inr below ];
        })

-- the days of a date are those of the years before it, of the months before it, and those before it in its month
pub days_of : (days year month day : ℕ) → IsDayOf days year month day → days ≡ years_days (year - 1970) 1970 + months_days year (month - 1) 1 + (day - 1)
days_of days year month day (year_same, month_same, day_same) =
    let first = year_is 68 1970 days in
    let found = (year_of days).0 in
    let left = (year_of days).1 in
    let second = month_is found 11 1 left in
    let of_years : years_days (found - 1970) 1970 ≡ years_days (year - 1970) 1970 = ap (λ (n : ℕ). years_days (n - 1970) 1970) year_same in
    let of_months : months_days found ((month_of found left).0 - 1) 1 ≡ months_days year (month - 1) 1 = λ i. months_days (year_same i) (month_same i - 1) 1 in
    omega (arith, first.days_are, second.days_are, of_years, of_months, day_same)

all_years : years_days 68 1970 ≡ 24837
unfolding years_days
all_years = refl

by_february : (year : ℕ) → 334 ≤ months_days year 11 1
unfolding months_days
by_february year = by (is_leap year)
  where
    by : (leap : Bool) → 334 ≤ 31 + ((if leap then 29 else 28) + (31 + (30 + (31 + (30 + (31 + (31 + (30 + (31 + (30 + 0))))))))))
    by true = omega arith
    by false = omega arith

pub record IsDayRange (year month day : ℕ) : Type 0 where
  pub from : 1970 ≤ year
  pub to : year ≤ 2038
  pub first : 1 ≤ month
  pub last : month ≤ 12
  pub some : 1 ≤ day
  pub most : day ≤ 32

-- the numbers of a day of a TIMESTAMP are in range
pub day_range : (days : ℕ) → days ≤ 24855 → IsDayRange (year_of days).0 (month_of (year_of days).0 (year_of days).1).0 ((month_of (year_of days).0 (year_of days).1).1 + 1)
day_range days few =
    let first = year_is 68 1970 days in
    let found = (year_of days).0 in
    let left = (year_of days).1 in
    let second = month_is found 11 1 left in
    let month = (month_of found left).0 in
    let rest = (month_of found left).1 in
    let left_few : left ≤ 365 = elim first.stops [
      | inl last ↦ (let all : years_days (found - 1970) 1970 ≡ 24837 = ap (λ (n : ℕ). years_days (n - 1970) 1970) last ∙ all_years in omega (arith, all, first.days_are, few))
      | inr below ↦ omega (arith, below, year_short found)
    ] in
    let rest_few : rest ≤ 31 = elim second.stops [
      | inl last ↦ (let all : months_days found (month - 1) 1 ≡ months_days found 11 1 = ap (λ (n : ℕ). months_days found (n - 1) 1) last in omega (arith, all, by_february found, second.days_are, left_few))
      | inr below ↦ omega (arith, below, month_short found month)
    ] in
    record {
      from = first.from;
      to = omega (arith, first.within);
      first = second.from;
      last = omega (arith, second.within);
      some = omega arith;
      most = omega (arith, rest_few);
    }
