use Rattle.std.proofs.Common.{ap, arith, refl, length}
use Rattle.columns.proofs.EscapeCodes.{none_of_one, none_of_two, second_of, none_of_none}
use Rattle.columns.proofs.Types.{none_some}
use Rattle.columns.proofs.escape.take_byte.Goals as goal

pub returns-in_default-rest-clause-none : goal.returns-in_default-rest-clause-none
returns-in_default-rest-clause-none c =
    none_of_one c.args.layer c.args.text.now (omega arith) (omega (arith, ap length c.in-Some.ensures.0, c.in-Some.ensures.1))

pub returns-in_err-byte-clause-none : goal.returns-in_err-byte-clause-none
returns-in_err-byte-clause-none c =
    none_of_none _ c.from_residual.result
    (none_of_two c.args.layer c.args.text.now _ _ refl (second_of c.args.text.now) (omega (arith, ap length c.in-Some.ensures.0, c.in-Some.ensures.1))
    (λ b is. none_some b (c.in_err-byte.ensures.only b is)))
