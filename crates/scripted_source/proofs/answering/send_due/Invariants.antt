use Rattle.std.proofs.Common.{drop}
use Rattle.scripted_source.specs.Script.{script_values}
use Rattle.scripted_source.proofs.Packings.{Going}
use Rattle.scripted_source.proofs.answering.send_due.Given as goal

abbrev pub invariant-loop-at : goal.invariant-loop-at
invariant-loop-at l = Going l.executed l.fn.sequence l.next l.fn.out.items l.out.items (script_values l.history) l.at (script_values (drop l.at l.history))
