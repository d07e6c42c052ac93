use Rattle.columns.proofs.Names.{◌≡◌, ℕ, List, ◌∷◌, ◌++◌, ap, sym, subst, ◌∙◌, arith, IsTrue, is_fraction, clock_text, is_stamp}
use Rattle.columns.specs.Dates.{date_text}
use Rattle.columns.specs.Stamps.{stamp_text}
use Rattle.columns.specs.StampParts.{IsStampOf}
use Rattle.columns.specs.declared.value.stamp.Timestamp.{Timestamp}
use Rattle.columns.proofs.StampTexts.{HasNumbers, numbers_of, text_of, stamp_small}
use Rattle.columns.proofs.value.stamp.Timestamp.read_field.Goals as goal

-- the text of another value with the digits of the column
text_is : (other : Timestamp) (digits : ℕ) (text : List ℕ) (has : HasNumbers other) → other.fraction.digits ≡ digits → text ≡ stamp_text other →
    text ≡ date_text has.year has.month has.day ++ 32 ∷ clock_text has.hour has.minute has.second digits other.fraction.number
text_is other digits text has same is =
    is ∙ text_of other has.year has.month has.day has.hour has.minute has.second has.is
    ∙ ap (λ d. date_text has.year has.month has.day ++ 32 ∷ clock_text has.hour has.minute has.second d other.fraction.number) same

lawful_is : (other : Timestamp) (digits : ℕ) → other.fraction.digits ≡ digits → IsTrue (is_fraction digits other.fraction.number)
lawful_is other digits same = subst (λ d. IsTrue (is_fraction d other.fraction.number)) same other.fraction.lawful

pub returns-in_default-clause-only : goal.returns-in_default-clause-only
returns-in_default-clause-only c other digits is =
    let has = numbers_of other in
    c.in_default.ensures.only has.year has.month has.day has.hour has.minute has.second other.fraction.number has.dated has.early has.clocked (lawful_is other c.args.digits digits)
    (text_is other c.args.digits c.args.field.now has digits is)

pub returns-in_default-find_seconds-clause-only : goal.returns-in_default-find_seconds-clause-only
returns-in_default-find_seconds-clause-only c other digits is =
    let has = numbers_of other in
    let read = c.in-Some.ensures.only has.year has.month has.day has.hour has.minute has.second other.fraction.number has.dated has.early has.clocked (lawful_is other c.args.digits digits)
    (text_is other c.args.digits c.args.field.now has digits is) in
    let parts = c.in-Some.parts in
    let there : IsStampOf other.seconds parts.date.year parts.date.month parts.date.day parts.hour parts.minute parts.second = rw (read.0, read.1, read.2, read.3, read.4, read.5) has.is in
    c.in_default-find_seconds.ensures.only other.seconds (stamp_small other.seconds other.fraction.number other.lawful) there

pub returns-in-Some-new-clause-found : goal.returns-in-Some-new-clause-found
returns-in-Some-new-clause-found c =
    let parts = c.in-Some.parts in
    let made = c.in-Some-new.made in
    let same = c.in-Some-new.ensures.parts in
    let there : IsStampOf made.seconds parts.date.year parts.date.month parts.date.day parts.hour parts.minute parts.second =
    subst (λ (n : ℕ). IsStampOf n parts.date.year parts.date.month parts.date.day parts.hour parts.minute parts.second) (sym same.0) c.in-Some-find_seconds.ensures.found in
    let digits : c.args.digits ≡ made.fraction.digits = sym c.in-Some.ensures.digits ∙ sym (ap (λ f. f.digits) same.1) in
    let number : parts.fraction.number ≡ made.fraction.number = sym (ap (λ f. f.number) same.1) in
    c.in-Some.ensures.found
    ∙ (λ i. date_text parts.date.year parts.date.month parts.date.day ++ 32 ∷ clock_text parts.hour parts.minute parts.second (digits i) (number i))
    ∙ sym (text_of made parts.date.year parts.date.month parts.date.day parts.hour parts.minute parts.second there)

pub returns-in-Some-new-clause-only : goal.returns-in-Some-new-clause-only
returns-in-Some-new-clause-only c other digits is =
    let has = numbers_of other in
    let read = c.in-Some.ensures.only has.year has.month has.day has.hour has.minute has.second other.fraction.number has.dated has.early has.clocked (lawful_is other c.args.digits digits)
    (text_is other c.args.digits c.args.field.now has digits is) in
    let parts = c.in-Some.parts in
    let there : IsStampOf other.seconds parts.date.year parts.date.month parts.date.day parts.hour parts.minute parts.second = rw (read.0, read.1, read.2, read.3, read.4, read.5) has.is in
    let seconds = c.in-Some-find_seconds.ensures.only other.seconds (stamp_small other.seconds other.fraction.number other.lawful) there in
    let same = c.in-Some-new.ensures.parts in
    record {
      seconds = same.0 ∙ seconds;
      digits = ap (λ f. f.digits) same.1 ∙ c.in-Some.ensures.digits ∙ sym digits;
      number = ap (λ f. f.number) same.1 ∙ read.6;
    }

pub returns-in-None-clause-only : goal.returns-in-None-clause-only
returns-in-None-clause-only c other digits is =
    let has = numbers_of other in
    let read = c.in-Some.ensures.only has.year has.month has.day has.hour has.minute has.second other.fraction.number has.dated has.early has.clocked (lawful_is other c.args.digits digits)
    (text_is other c.args.digits c.args.field.now has digits is) in
    let parts = c.in-Some.parts in
    let there : IsStampOf other.seconds parts.date.year parts.date.month parts.date.day parts.hour parts.minute parts.second = rw (read.0, read.1, read.2, read.3, read.4, read.5) has.is in
    let seconds = c.in-Some-find_seconds.ensures.only other.seconds (stamp_small other.seconds other.fraction.number other.lawful) there in
    let lawful : IsTrue (is_stamp c.in-Some-find_seconds.seconds parts.fraction.number) = rw (seconds, read.6) other.lawful in
    absurd (grind (arith, c.in-None.ensures.lawful.1 lawful))
