use Rattle.gtid.proofs.Names.{length, IsPassed, Lo, Hi}
use Rattle.gtid.proofs.grammar.pass_digits.Given as goal

abbrev pub invariant-loop-rest : goal.invariant-loop-rest
invariant-loop-rest l = IsPassed Lo l.text Lo l.left × IsPassed Hi l.text Hi l.left

abbrev pub decreases-loop-rest : goal.decreases-loop-rest
decreases-loop-rest l = length l.left
