use Rattle.std.proofs.Common.{rules}
use Rattle.sqlite.specs.Held.{state}
use Rattle.store.proofs.OnlyReading.{executed_only}
use Rattle.store.proofs.TableQueries.{executed_table, on_seen, judged_fault}
use Rattle.store.proofs.table.executed.load_executed.Goals as goal

pub returns-in_err-rows : goal.returns-in_err-rows
returns-in_err-rows g c = record { judged = search rules; same = search rules; rested = search rules; crash = search rules; calm = c.read_all.ensures.calm executed_only; fault = search rules; autocommit = search rules }

pub returns : goal.returns
returns g c = record {
  judged = λ clean tree asks. executed_table ((state g.S.Store c.args.conn.now).now.trees tree) _ (c.in_ok-rows.ensures.rows clean tree asks) c.executed_from.result (rw c.deref.ensures.value at c.executed_from.ensures);
  same = λ clean tree asks. on_seen c.executed_from.result (c.in_ok-rows.ensures.same clean tree asks);
  rested = search rules;
  crash = search rules;
  calm = c.read_all.ensures.calm executed_only;
  fault = judged_fault _ _ c.executed_from.result (rw c.deref.ensures.value at c.executed_from.ensures);
  autocommit = search rules;
}
