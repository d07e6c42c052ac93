use Rattle.columns.proofs.Names.{◌≡◌, ℕ, ◌<◌, ◌^◌, List, length, sym, ap, subst, ◌∙◌, arith, IsTrue, IsDigitsOf}
use Rattle.columns.specs.Dates.{is_year, year_text}
use Rattle.columns.proofs.FieldDigits.{padded_is, padded_long, whole_small, is_padded}
use Rattle.columns.proofs.value.year.Year.read_field.Goals as goal

year_small : (year : ℕ) → IsTrue (is_year year) → year < 10000
year_small year h = grind (arith, h)

year_long : (year : ℕ) (text : List ℕ) → IsTrue (is_year year) → text ≡ year_text year → length text ≡ 4
year_long year text h e = ap length e ∙ padded_long 4 year (omega arith) (omega (arith, year_small year h)) (omega (arith, year_small year h))

year_whole : (year : ℕ) (text : List ℕ) → IsTrue (is_year year) → text ≡ year_text year → IsDigitsOf year text
year_whole year text h e = subst (IsDigitsOf year) (sym e) (padded_is 4 year (omega (arith, year_small year h)))

four_small : (n : ℕ) (text : List ℕ) → length text ≡ 4 → IsDigitsOf n text → n < 10000
four_small n text long is = omega (arith, subst (λ (k : ℕ). n < 10 ^ k) long (whole_small n text is))

pub returns-then-field-ne4-clause-only : goal.returns-then-field-ne4-clause-only
returns-then-field-ne4-clause-only c year h e = c.if-field-ne4.true (year_long year c.args.field.now h e)

pub returns-in_err-number-clause-only : goal.returns-in_err-number-clause-only
returns-in_err-number-clause-only c year h e =
    let other = c.in_err-number.ensures.only year (omega (arith, year_small year h)) (year_whole year c.args.field.now h e) in
    absurd (grind (arith, other))

pub overflow_cast-number : goal.overflow_cast-number
overflow_cast-number c = omega (arith, four_small c.in_ok-number.number c.args.field.now (omega arith) c.in_ok-number.ensures.found)

pub returns-in-Some-clause-found : goal.returns-in-Some-clause-found
returns-in-Some-clause-found c =
    is_padded 4 c.in_ok-number.number c.args.field.now (omega arith) (omega (arith, four_small c.in_ok-number.number c.args.field.now (omega arith) c.in_ok-number.ensures.found)) c.in_ok-number.ensures.found
    ∙ ap year_text (sym c.in-Some.ensures.year)

pub returns-in-Some-clause-only : goal.returns-in-Some-clause-only
returns-in-Some-clause-only c year h e =
    let whole = year_whole year c.args.field.now h e in
    c.in-Some.ensures.year ∙ sym c.in_ok-number.ensures.found.1 ∙ whole.1

pub returns-in-None-clause-only : goal.returns-in-None-clause-only
returns-in-None-clause-only c year h e =
    let whole = year_whole year c.args.field.now h e in
    let same : c.in_ok-number.number ≡ year = sym c.in_ok-number.ensures.found.1 ∙ whole.1 in
    absurd (grind (arith, c.in-None.ensures.lawful.1 (subst (λ (n : ℕ). IsTrue (is_year n)) (sym same) h)))
