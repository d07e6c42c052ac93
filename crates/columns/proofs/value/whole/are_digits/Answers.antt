use Rattle.columns.proofs.Names.{subst, arith, take, ◌+◌, suc, ℕ, ◌≡◌, AllDigits}
use Rattle.columns.proofs.FieldDigits.{one_digit_more, digit_there}
use Rattle.columns.proofs.value.whole.are_digits.Goals as goal

pub returns-then-not-is_digit : goal.returns-then-not-is_digit
returns-then-not-is_digit c = (
  λ t. grind (arith, t),
  λ all. let is = c.is_digit.ensures.1 (digit_there c.loop-digit.digit-index c.args.field.now (omega arith) all) in grind (arith, c.if-not-is_digit.true, is),
)

pub loop-digit-preserved : goal.loop-digit-preserved
loop-digit-preserved c =
    let same : suc c.loop-digit.digit-index ≡ c.loop-digit.digit-index + 1 = omega arith in
    subst (λ (n : ℕ). AllDigits 10 (take n c.args.field.now)) same
    (one_digit_more c.loop-digit.digit-index c.args.field.now (omega arith) c.loop-digit.invariant (c.is_digit.ensures.0 c.if-not-is_digit.false))
