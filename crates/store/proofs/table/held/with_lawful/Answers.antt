use Rattle.store.proofs.Verdicts.{then_ordered, still_unlawful}
use Rattle.store.proofs.table.held.with_lawful.Goals as goal

pub returns-in-Lawful : goal.returns-in-Lawful
returns-in-Lawful c rows so held = then_ordered _ rows c.args.row.now c.ordered.result (rw c.in-Lawful.is at so) held c.ordered.ensures

pub returns-in-Unlawful : goal.returns-in-Unlawful
returns-in-Unlawful c rows so held = still_unlawful rows c.args.row.now (rw c.in-Unlawful.is at so)
