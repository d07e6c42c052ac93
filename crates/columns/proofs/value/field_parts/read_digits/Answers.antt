use Rattle.columns.proofs.Names.{[], length, sym, ap, ◌∙◌, arith, append-nil, zero_padded}
use Rattle.columns.proofs.value.field_parts.read_digits.Goals as goal

pub returns-in_err-number-clause-only : goal.returns-in_err-number-clause-only
returns-in_err-number-clause-only c n small e = absurd (c.in_err-number.ensures.only n [] small (e ∙ sym (append-nil (zero_padded c.args.count n))))

pub returns-then-rest-gt0-clause-only : goal.returns-then-rest-gt0-clause-only
returns-then-rest-gt0-clause-only c n small e =
    let found = c.in_ok-number.ensures.only n [] small (e ∙ sym (append-nil (zero_padded c.args.count n))) in
    omega (arith, c.if-rest-gt0.true, ap length found.1)

pub returns-clause-only : goal.returns-clause-only
returns-clause-only c n small e =
    let found = c.in_ok-number.ensures.only n [] small (e ∙ sym (append-nil (zero_padded c.args.count n))) in
    found.0
