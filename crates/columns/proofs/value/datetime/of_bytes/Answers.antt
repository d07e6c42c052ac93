use Rattle.columns.proofs.Names.{◌≡◌, take, ap, sym, subst, ◌∙◌, IsTrue, big_bytes, is_fraction, clock_number}
use Rattle.std.proofs.Common.{drop}
use Rattle.columns.specs.Times.{moment_number, fraction_bytes}
use Rattle.columns.proofs.Types.{and_then}
use Rattle.columns.proofs.MomentRange.{moment_fits}
use Rattle.columns.proofs.value.datetime.of_bytes.Goals as goal

pub returns-clause-only : goal.returns-clause-only
returns-clause-only c other digits is =
    let cut = c.in_ok-front.ensures.cases in
    let number = moment_number other.date.year other.date.month other.date.day (clock_number other.hour other.minute other.second) in
    let front : c.in_ok-front.front.now ≡ big_bytes 5 number = cut.1 ∙ ap (take 5) is in
    let end : c.in_ok-front.end.now ≡ fraction_bytes c.args.digits other.fraction.number =
    cut.2 ∙ ap (drop 5) is ∙ ap (λ d. fraction_bytes d other.fraction.number) digits in
    let fits = moment_fits other.date.year other.date.month other.date.day other.hour other.minute other.second other.date.lawful other.lawful in
    let read = c.read_big.ensures.only number (rw cut.3 fits) (rw cut.3 front) in
    let part = c.in_ok-fraction.ensures.only other.fraction.number (subst (λ d. IsTrue (is_fraction d other.fraction.number)) digits other.fraction.lawful) end in
    let found = c.of_number.ensures.only other.date.year other.date.month other.date.day other.hour other.minute other.second other.date.lawful other.lawful read in
    and_then _ _ _ c.of_number.result found c.of_number.ensures.fraction (λ made p q. record {
      year = p.0;
      month = p.1;
      day = p.2;
      hour = p.3.hour_is;
      minute = p.3.minute_is;
      second = p.3.second_is;
      digits = ap (λ f. f.digits) q ∙ c.in_ok-fraction.ensures.digits ∙ sym digits;
      number = ap (λ f. f.number) q ∙ part;
    })
