use Rattle.columns.proofs.Names.{◌≡◌, ℕ, ◌<◌, ◌≤◌, ◌⊎◌, inl, inr, List, ◌∷◌, ◌++◌, sym, ap, ◌∙◌, arith, cases_lt, zero_padded}
use Rattle.columns.proofs.ClockTexts.{no_three, three_digits}
use Rattle.columns.proofs.value.field_dates.take_hours.Goals as goal

-- from 100 on the hours are three digits
as_three : (hour : ℕ) (text rest : List ℕ) → 100 ≤ hour → hour < 1000 → text ≡ zero_padded 2 hour ++ rest → text ≡ zero_padded 3 hour ++ rest
as_three hour text rest great small e = e ∙ ap (λ (xs : List ℕ). xs ++ rest) (three_digits hour great small)

pub returns-then-hour-lt100-clause-only : goal.returns-then-hour-lt100-clause-only
returns-then-hour-lt100-clause-only c hour rest small e = by (cases_lt hour 100)
  where
    by : (hour < 100) ⊎ (100 ≤ hour) → ⊥
    by (inl few) = no_three c.in-Some.hour hour c.in-Some.rest.now rest c.args.text.now (omega (arith, c.if-hour-lt100.true)) few c.in-Some.ensures.found e
    by (inr great) = let found = c.in-Some.ensures.only hour (58 ∷ rest) (omega (arith, small)) (as_three hour c.args.text.now (58 ∷ rest) great small e) in omega (arith, found.0, great, c.if-hour-lt100.true)

pub returns-in-Some-clause-found : goal.returns-in-Some-clause-found
returns-in-Some-clause-found c =
    let same = three_digits c.in-Some.hour (omega (arith, c.if-hour-lt100.false)) (omega (arith, c.in-Some.ensures.small)) in
    c.in-Some.ensures.found ∙ ap (λ (xs : List ℕ). xs ++ c.in-Some.rest.now) (sym same)

pub returns-in-Some-clause-only : goal.returns-in-Some-clause-only
returns-in-Some-clause-only c hour rest small e = by (cases_lt hour 100)
  where
    by : (hour < 100) ⊎ (100 ≤ hour) → (c.in-Some.hour ≡ hour) × (c.in-Some.rest.now ≡ 58 ∷ rest)
    by (inl few) = absurd (no_three c.in-Some.hour hour c.in-Some.rest.now rest c.args.text.now (omega (arith, c.in-Some.ensures.small)) few c.in-Some.ensures.found e)
    by (inr great) = c.in-Some.ensures.only hour (58 ∷ rest) (omega (arith, small)) (as_three hour c.args.text.now (58 ∷ rest) great small e)

pub returns-in_err-hour-clause-only : goal.returns-in_err-hour-clause-only
returns-in_err-hour-clause-only c hour rest small e = absurd (by (cases_lt hour 100))
  where
    by : (hour < 100) ⊎ (100 ≤ hour) → ⊥
    by (inl few) = c.in_err-hour.ensures.only hour (58 ∷ rest) (omega (arith, few)) e
    by (inr great) = c.in_default.ensures.only hour (58 ∷ rest) (omega (arith, small)) (as_three hour c.args.text.now (58 ∷ rest) great small e)

pub returns-clause-only : goal.returns-clause-only
returns-clause-only c hour rest small e = by (cases_lt hour 100)
  where
    by : (hour < 100) ⊎ (100 ≤ hour) → (c.in_ok-hour.hour ≡ hour) × (c.in_ok-hour.rest.now ≡ 58 ∷ rest)
    by (inl few) = c.in_ok-hour.ensures.only hour (58 ∷ rest) (omega (arith, few)) e
    by (inr great) = absurd (c.in_default.ensures.only hour (58 ∷ rest) (omega (arith, small)) (as_three hour c.args.text.now (58 ∷ rest) great small e))
