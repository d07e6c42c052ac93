use Rattle.columns.proofs.Names.{◌≡◌, ℕ, ◌+◌, ◌^◌, ◌≤◌, length, ap, sym, subst, ◌∙◌, arith, IsTrue, big_bytes, is_fraction, fraction_size, even_digits, is_time}
use Rattle.columns.proofs.Types.{and_two}
use Rattle.columns.proofs.SpanNumbers.{parts_of, number_fits, number_is, all_three}
use Rattle.columns.proofs.value.time.of_bytes.Goals as goal

pub returns-in_err-fraction-clause-only : goal.returns-in_err-fraction-clause-only
returns-in_err-fraction-clause-only c other digits is =
    let size = fraction_size c.args.digits in
    let few : size ≤ 3 = omega (arith, c.requires) in
    let size_is : size ≡ fraction_size other.fraction.digits = ap fraction_size (sym digits) in
    let long : length c.args.bytes.now ≡ 3 + size = c.if-bytes-size.false ∙ ap (λ (k : ℕ). 3 + k) c.size-size.ensures in
    let number = c.read_big.ensures.only _ (rw long (number_fits size other few size_is)) (rw long is) in
    let parts = parts_of size c.unit_of-unit.result c.read_big.result c.split_sign-negative.result.1 c.split_sign-negative.result.0 other size_is
    (c.unit_of-unit.ensures.value ∙ ap (λ (k : ℕ). 256 ^ k) c.size-size.ensures) c.split_sign-negative.ensures.number c.split_sign-negative.ensures.amount c.split_sign-negative.ensures.zero number in
    absurd (c.in_err-fraction.ensures.only other.fraction.number (subst (λ d. IsTrue (is_fraction d other.fraction.number)) digits other.fraction.lawful)
    (parts.stored ∙ ap (λ d. even_digits d other.fraction.number) digits))

pub returns-clause-found : goal.returns-clause-found
returns-clause-found c =
    let size = fraction_size c.args.digits in
    let long : length c.args.bytes.now ≡ 3 + size = c.if-bytes-size.false ∙ ap (λ (k : ℕ). 3 + k) c.size-size.ensures in
    all_three _ _ _ _ c.of_clock.result c.of_clock.ensures.negative c.of_clock.ensures.fraction c.of_clock.ensures.found (λ made sign part clock.
    let stored = c.in_ok-fraction.ensures.found ∙ (λ i. even_digits (sym (ap (λ f. f.digits) part ∙ c.in_ok-fraction.ensures.digits) i) (sym (ap (λ f. f.number) part) i)) in
    let number = number_is size c.unit_of-unit.result c.read_big.result c.split_sign-negative.result.1 c.split_sign-negative.result.0 made
    (c.unit_of-unit.ensures.value ∙ ap (λ (k : ℕ). 256 ^ k) c.size-size.ensures) c.split_sign-negative.ensures.number sign clock stored in
    c.read_big.ensures.bytes ∙ (λ i. big_bytes (long i) (number i)))

pub returns-clause-only : goal.returns-clause-only
returns-clause-only c other digits is =
    let size = fraction_size c.args.digits in
    let few : size ≤ 3 = omega (arith, c.requires) in
    let size_is : size ≡ fraction_size other.fraction.digits = ap fraction_size (sym digits) in
    let long : length c.args.bytes.now ≡ 3 + size = c.if-bytes-size.false ∙ ap (λ (k : ℕ). 3 + k) c.size-size.ensures in
    let number = c.read_big.ensures.only _ (rw long (number_fits size other few size_is)) (rw long is) in
    let parts = parts_of size c.unit_of-unit.result c.read_big.result c.split_sign-negative.result.1 c.split_sign-negative.result.0 other size_is
    (c.unit_of-unit.ensures.value ∙ ap (λ (k : ℕ). 256 ^ k) c.size-size.ensures) c.split_sign-negative.ensures.number c.split_sign-negative.ensures.amount c.split_sign-negative.ensures.zero number in
    let part = c.in_ok-fraction.ensures.only other.fraction.number (subst (λ d. IsTrue (is_fraction d other.fraction.number)) digits other.fraction.lawful)
    (parts.stored ∙ ap (λ d. even_digits d other.fraction.number) digits) in
    let lawful : IsTrue (is_time c.split_sign-negative.result.0 other.hour other.minute other.second c.in_ok-fraction.fraction.number) =
    rw (parts.sign, part) other.lawful in
    let found = c.of_clock.ensures.only other.hour other.minute other.second lawful parts.clock in
    and_two _ _ _ _ c.of_clock.result found c.of_clock.ensures.negative c.of_clock.ensures.fraction (λ made clock sign whole. record {
      negative = sign ∙ parts.sign;
      hour = clock.hour_is;
      minute = clock.minute_is;
      second = clock.second_is;
      digits = ap (λ f. f.digits) whole ∙ c.in_ok-fraction.ensures.digits ∙ sym digits;
      number = ap (λ f. f.number) whole ∙ part;
    })
