use Rattle.store.proofs.Names.{take, HasCleanDisk, name_list, IsWorking, AreNames, follow_rows}
use Rattle.std.specs.FinSet as set
use Rattle.sqlite.specs.Held.{state}
use Rattle.store.specs.Changes.{widened}
use Rattle.store.specs.Inside.{StoresNames}
use Rattle.store.proofs.Keeps.{HaveStayed}
use Rattle.store.proofs.table.follow.add_missing.Given as goal

abbrev pub invariant-loop-name : goal.invariant-loop-name
invariant-loop-name g l = record {
  named : HasCleanDisk (state g.S.Store l.tx.conn.now) → IsWorking (state g.S.Store l.fn.tx.conn.now) → AreNames (follow_rows (state g.S.Store l.fn.tx.conn.now).now) l.following
      → StoresNames (state g.S.Store l.fn.tx.conn.now) (state g.S.Store l.tx.conn.now) (widened l.following (set.from_list (take l.name-index (name_list l.names))));
  stays : HaveStayed g.S.Store l.fn.tx.conn l.tx.conn;
}
