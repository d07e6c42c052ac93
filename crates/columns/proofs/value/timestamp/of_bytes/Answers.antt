use Rattle.columns.proofs.Names.{◌≡◌, ◌<◌, ◌^◌, ◌||◌, ◌==◌, nat_lt, take, suc, ap, sym, subst, ◌∙◌, arith, IsTrue, big_bytes, is_fraction, is_stamp}
use Rattle.std.proofs.Common.{drop}
use Rattle.columns.specs.Times.{fraction_bytes}
use Rattle.columns.proofs.Types.{and_parts, le_of, some_and}
use Rattle.columns.proofs.value.timestamp.of_bytes.Goals as goal

pub returns-clause-only : goal.returns-clause-only
returns-clause-only c other digits is =
    let cut = c.in_ok-front.ensures.cases in
    let front : c.in_ok-front.front.now ≡ big_bytes 4 other.seconds = cut.1 ∙ ap (take 4) is in
    let end : c.in_ok-front.end.now ≡ fraction_bytes c.args.digits other.fraction.number =
    cut.2 ∙ ap (drop 4) is ∙ ap (λ d. fraction_bytes d other.fraction.number) digits in
    let below = le_of (suc other.seconds) (2 ^ 31) (and_parts (nat_lt other.seconds (2 ^ 31)) (nat_lt 0 other.seconds || other.fraction.number == 0) other.lawful).0 in
    let fits : other.seconds < 256 ^ 4 = omega (arith, below) in
    let read = c.read_big.ensures.only other.seconds (rw cut.3 fits) (rw cut.3 front) in
    let part = c.in_ok-fraction.ensures.only other.fraction.number (subst (λ d. IsTrue (is_fraction d other.fraction.number)) digits other.fraction.lawful) end in
    let lawful : IsTrue (is_stamp c.read_big.result c.in_ok-fraction.fraction.number) = rw (read, part) other.lawful in
    some_and _ _ c.new.result (c.new.ensures.lawful.1 lawful) c.new.ensures.parts (λ made p. record {
      seconds = p.0 ∙ read;
      digits = ap (λ f. f.digits) p.1 ∙ c.in_ok-fraction.ensures.digits ∙ sym digits;
      number = ap (λ f. f.number) p.1 ∙ part;
    })
