use Rattle.store.proofs.Verdicts.{verdict_rowids}
use Rattle.store.proofs.table.held.answer.Goals as goal

pub returns-in-Lawful-clause-judged : goal.returns-in-Lawful-clause-judged
returns-in-Lawful-clause-judged c rows so = let it = rw c.in-Lawful.is at so in (it.0, verdict_rowids _ rows it)
