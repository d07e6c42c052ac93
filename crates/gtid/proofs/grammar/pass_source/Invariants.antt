use Rattle.gtid.proofs.Names.{◌≤◌, length, IsPassed}
use Rattle.gtid.specs.declared.grammar.State.TheVariants.{Source}
use Rattle.gtid.proofs.grammar.pass_source.Given as goal

abbrev pub invariant-loop-left : goal.invariant-loop-left
invariant-loop-left l = IsPassed (Source l.fn.place) l.text (Source l.place) l.left × (l.place ≤ 36)

abbrev pub decreases-loop-left : goal.decreases-loop-left
decreases-loop-left l = length l.left
