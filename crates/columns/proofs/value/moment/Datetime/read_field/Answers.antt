use Rattle.columns.proofs.Names.{◌∷◌, ◌++◌, sym, ap, subst, ◌∙◌, IsTrue, is_fraction, clock_text}
use Rattle.columns.specs.Dates.{date_text}
use Rattle.columns.proofs.ClockTexts.{date_range, clock_range}
use Rattle.columns.proofs.value.moment.Datetime.read_field.Goals as goal

pub returns-in-Some-made-clause-only : goal.returns-in-Some-made-clause-only
returns-in-Some-made-clause-only c other digits is =
    let clock = clock_range other.hour other.minute other.second other.lawful in
    let lawful = subst (λ d. IsTrue (is_fraction d other.fraction.number)) digits other.fraction.lawful in
    let text = is ∙ ap (λ d. date_text other.date.year other.date.month other.date.day ++ 32 ∷ clock_text other.hour other.minute other.second d other.fraction.number) digits in
    let read = c.in-Some.ensures.only other.date.year other.date.month other.date.day other.hour other.minute other.second other.fraction.number
    (date_range other.date.year other.date.month other.date.day other.date.lawful) clock.0 clock.1 lawful text in
    let date = c.in-Some-new.ensures.parts in
    let made = c.in-Some-made.ensures.parts in
    record {
      year = ap (λ d. d.year) made.0 ∙ date.0 ∙ read.0;
      month = ap (λ d. d.month) made.0 ∙ date.1 ∙ read.1;
      day = ap (λ d. d.day) made.0 ∙ date.2 ∙ read.2;
      hour = made.1.hour_is ∙ read.3;
      minute = made.1.minute_is ∙ read.4;
      second = made.1.second_is ∙ read.5;
      digits = ap (λ f. f.digits) made.2 ∙ c.in-Some.ensures.digits ∙ sym digits;
      number = ap (λ f. f.number) made.2 ∙ read.6;
    }
