use Rattle.store.proofs.Names.{take, HasCleanDisk, name_list, IsNaming}
use Rattle.std.specs.FinSet as set
use Rattle.sqlite.specs.Held.{state}
use Rattle.store.proofs.Keeps.{HaveStayed}
use Rattle.store.proofs.table.follow.add_names.Given as goal

abbrev pub invariant-loop-name : goal.invariant-loop-name
invariant-loop-name g l = record {
  named : HasCleanDisk (state g.S.Store l.tx.conn.now) → IsNaming set.empty (state g.S.Store l.fn.tx.conn.now) → IsNaming (set.from_list (take l.name-index (name_list l.names))) (state g.S.Store l.tx.conn.now);
  stays : HaveStayed g.S.Store l.fn.tx.conn l.tx.conn;
}
