use Rattle.columns.proofs.Names.{ℕ, ◌<◌, ◌^◌, length, refl, arith, ◌∙◌, sym, subst, digits_number}
use Rattle.columns.proofs.DigitNumbers.{number_small, same_digits}
use Rattle.columns.proofs.value.decimal.read_group.Goals as goal

pub returns-then-number-pow-clause-only : goal.returns-then-number-pow-clause-only
returns-then-number-pow-clause-only c other long lawful fits is =
    let number = c.read_big-number.ensures.only (digits_number other) fits is in
    let small : digits_number other < 10 ^ length c.args.digits.now = subst (λ (k : ℕ). digits_number other < 10 ^ k) long (number_small other lawful) in
    absurd (omega (arith, number, small, c.if-number-pow.true, c.pow.ensures))

pub returns-clause-only : goal.returns-clause-only
returns-clause-only c other long lawful fits is =
    let number = c.read_big-number.ensures.only (digits_number other) fits is in
    (refl, same_digits c.put_digits.new.digits other (c.put_digits.auto.digits ∙ sym long) c.put_digits.ensures.lawful lawful (c.put_digits.ensures.number ∙ number))
