use Rattle.store.proofs.Names.{◌≡◌, ◌+◌, length, take, None, HasCleanDisk, IsWorking, DoesAll}
use Rattle.std.proofs.Common.{drop}
use Rattle.sqlite.specs.Held.{state}
use Rattle.store.proofs.Keeps.{HaveStayed}
use Rattle.store.proofs.row_change.make_all.Given as goal

abbrev pub invariant-loop-change : goal.invariant-loop-change
invariant-loop-change g l = record {
  left : l.change-iterator ≡ drop l.at l.changes;
  within : l.at + length l.change-iterator ≡ length l.changes;
  under_way : HasCleanDisk (state g.S.Store l.tx.conn.now) → IsWorking (state g.S.Store l.fn.tx.conn.now) → DoesAll l.filter (take l.at l.changes) (state g.S.Store l.fn.tx.conn.now) (state g.S.Store l.tx.conn.now) None;
  stays : HaveStayed g.S.Store l.fn.tx.conn l.tx.conn;
}
