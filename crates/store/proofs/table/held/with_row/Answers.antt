use Rattle.store.proofs.Verdicts.{still_unlawful, now_unlawful}
use Rattle.store.proofs.table.held.with_row.Goals as goal

pub returns-in-Unlawful-clause-judged : goal.returns-in-Unlawful-clause-judged
returns-in-Unlawful-clause-judged c rows so = still_unlawful rows c.args.row.now (rw c.in-Unlawful.is at so)

pub returns-in-Some-clause-judged : goal.returns-in-Some-clause-judged
returns-in-Some-clause-judged c rows so = now_unlawful rows c.args.row.now (rw c.in-Some.is at c.in_ok-held_rule.ensures)
