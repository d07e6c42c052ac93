use Rattle.columns.proofs.Names.{take, AllDigits}
use Rattle.columns.proofs.value.whole.are_digits.Given as goal

abbrev pub invariant-loop-digit : goal.invariant-loop-digit
invariant-loop-digit l = AllDigits 10 (take l.digit-index l.field)
