use Rattle.std.proofs.Common.{◌≡◌, ◌-◌, ◌++◌, take, drop, map}
use Rattle.columns.proofs.value.field_decimals.set_digits.Given as goal

abbrev pub invariant-loop-digit : goal.invariant-loop-digit
invariant-loop-digit l = l.digits ≡ map (λ b. b - 48) (take l.digit-index l.initial.digits) ++ drop l.digit-index l.initial.digits
