use Rattle.gtid.proofs.Names.{length, IsPlaced, IsPassed, Start}
use Rattle.gtid.proofs.grammar.scan.Given as goal

abbrev pub invariant-loop-left : goal.invariant-loop-left
invariant-loop-left l = IsPassed Start l.text l.state l.left × IsPlaced l.state

abbrev pub decreases-loop-left : goal.decreases-loop-left
decreases-loop-left l = length l.left
