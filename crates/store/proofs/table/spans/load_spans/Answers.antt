use Rattle.std.proofs.Common.{rules}
use Rattle.sqlite.specs.Held.{state}
use Rattle.store.proofs.OnlyReading.{spans_only}
use Rattle.store.proofs.TableQueries.{spans_table, on_seen, judged_fault}
use Rattle.store.proofs.table.spans.load_spans.Goals as goal

pub returns-in_err-rows : goal.returns-in_err-rows
returns-in_err-rows g c = record { judged = search rules; same = search rules; rested = search rules; crash = search rules; calm = c.read_all.ensures.calm spans_only; fault = search rules; autocommit = search rules }

pub returns : goal.returns
returns g c = record {
  judged = λ clean tree asks. spans_table ((state g.S.Store c.args.conn.now).now.trees tree) _ (c.in_ok-rows.ensures.rows clean tree asks) c.spans_from.result (rw c.deref.ensures.value at c.spans_from.ensures);
  same = λ clean tree asks. on_seen c.spans_from.result (c.in_ok-rows.ensures.same clean tree asks);
  rested = search rules;
  crash = search rules;
  calm = c.read_all.ensures.calm spans_only;
  fault = judged_fault _ _ c.spans_from.result (rw c.deref.ensures.value at c.spans_from.ensures);
  autocommit = search rules;
}
