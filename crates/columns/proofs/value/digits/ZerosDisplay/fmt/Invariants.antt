use Rattle.columns.proofs.Names.{replicate, HasWritten, IsPlainFormatter}
use Rattle.columns.proofs.value.digits.ZerosDisplay.fmt.Given as goal

abbrev pub invariant-loop-i : goal.invariant-loop-i
invariant-loop-i g l =
    IsPlainFormatter l.initial.f → HasWritten g.W.Write.write_str_gives l.initial.f (replicate l._i 48) l.f
