use Rattle.columns.proofs.Names.{◌≡◌, ℕ, ◌<◌, Bool, List, ◌++◌, sym, ap, subst, ◌∙◌, arith, IsTrue, is_fraction, clock_text, is_time, IsClockRange}
use Rattle.columns.specs.Reals.{minus_part}
use Rattle.columns.specs.declared.value.span.Time.{Time}
use Rattle.columns.proofs.ClockTexts.{clock_no_minus}
use Rattle.columns.proofs.value.span.Time.read_field.Goals as goal

time_range : (negative : Bool) (hour minute second number : ℕ) → IsTrue (is_time negative hour minute second number) → (hour < 1000) × IsClockRange minute second
time_range negative hour minute second number h = (grind (arith, h), (grind (arith, h), grind (arith, h)))

-- the text with the digits of the column
text_of : (other : Time) (digits : ℕ) (text : List ℕ) → other.fraction.digits ≡ digits → text ≡ minus_part other.negative ++ clock_text other.hour other.minute other.second other.fraction.digits other.fraction.number →
    text ≡ minus_part other.negative ++ clock_text other.hour other.minute other.second digits other.fraction.number
text_of other digits text same is = is ∙ ap (λ d. minus_part other.negative ++ clock_text other.hour other.minute other.second d other.fraction.number) same

pub returns-in_default-clause-only : goal.returns-in_default-clause-only
returns-in_default-clause-only c other digits is =
    let range = time_range other.negative other.hour other.minute other.second other.fraction.number other.lawful in
    let lawful = subst (λ d. IsTrue (is_fraction d other.fraction.number)) digits other.fraction.lawful in
    let cut = c.split_sign-negative.ensures.only other.negative (clock_text other.hour other.minute other.second c.args.digits other.fraction.number)
    (λ more. clock_no_minus other.hour other.minute other.second c.args.digits other.fraction.number more range.0) (text_of other c.args.digits c.args.field.now digits is) in
    c.in_default.ensures.only other.hour other.minute other.second other.fraction.number range.0 range.1 lawful cut.1

pub returns-in_default-clause-fault : goal.returns-in_default-clause-fault
returns-in_default-clause-fault c (negative, hour, minute, second, number, early, clocked, lawful, e) =
    let cut = c.split_sign-negative.ensures.only negative (clock_text hour minute second c.args.digits number)
    (λ more. clock_no_minus hour minute second c.args.digits number more early) e in
    c.in_default.ensures.only hour minute second number early clocked lawful cut.1

pub returns-in-Some-new-clause-only : goal.returns-in-Some-new-clause-only
returns-in-Some-new-clause-only c other digits is =
    let range = time_range other.negative other.hour other.minute other.second other.fraction.number other.lawful in
    let lawful = subst (λ d. IsTrue (is_fraction d other.fraction.number)) digits other.fraction.lawful in
    let cut = c.split_sign-negative.ensures.only other.negative (clock_text other.hour other.minute other.second c.args.digits other.fraction.number)
    (λ more. clock_no_minus other.hour other.minute other.second c.args.digits other.fraction.number more range.0) (text_of other c.args.digits c.args.field.now digits is) in
    let read = c.in-Some.ensures.only other.hour other.minute other.second other.fraction.number range.0 range.1 lawful cut.1 in
    let made = c.in-Some-new.ensures.parts in
    record {
      negative = made.0 ∙ cut.0;
      hour = made.1.hour_is ∙ read.0;
      minute = made.1.minute_is ∙ read.1;
      second = made.1.second_is ∙ read.2;
      digits = ap (λ f. f.digits) made.2 ∙ c.in-Some.ensures.digits ∙ sym digits;
      number = ap (λ f. f.number) made.2 ∙ read.3;
    }

pub returns-in-None-clause-only : goal.returns-in-None-clause-only
returns-in-None-clause-only c other digits is =
    let range = time_range other.negative other.hour other.minute other.second other.fraction.number other.lawful in
    let lawful = subst (λ d. IsTrue (is_fraction d other.fraction.number)) digits other.fraction.lawful in
    let cut = c.split_sign-negative.ensures.only other.negative (clock_text other.hour other.minute other.second c.args.digits other.fraction.number)
    (λ more. clock_no_minus other.hour other.minute other.second c.args.digits other.fraction.number more range.0) (text_of other c.args.digits c.args.field.now digits is) in
    let read = c.in-Some.ensures.only other.hour other.minute other.second other.fraction.number range.0 range.1 lawful cut.1 in
    let same : is_time c.split_sign-negative.result.0 c.in-Some.hour c.in-Some.minute c.in-Some.second c.in-Some.fraction.number ≡ is_time other.negative other.hour other.minute other.second other.fraction.number =
    λ i. is_time (cut.0 i) (read.0 i) (read.1 i) (read.2 i) (read.3 i) in
    let there = c.in-None.ensures.lawful.1 (same ∙ other.lawful) in
    absurd (grind (arith, there))
