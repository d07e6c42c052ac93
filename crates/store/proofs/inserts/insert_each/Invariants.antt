use Rattle.store.proofs.Names.{map, take, HasCleanDisk, IsWorking, Adds}
use Rattle.sqlite.specs.Held.{state}
use Rattle.store.specs.Rows.{key_of}
use Rattle.store.proofs.Keeps.{HaveStayed}
use Rattle.store.proofs.inserts.insert_each.Given as goal

abbrev pub invariant-loop-image : goal.invariant-loop-image
invariant-loop-image g l = record {
  under_way : HasCleanDisk (state g.S.Store l.tx.conn.now) → IsWorking (state g.S.Store l.fn.tx.conn.now)
      → Adds (map (λ r. key_of l.schema l.table r.now) (take l.image-index l.images)) (state g.S.Store l.fn.tx.conn.now) (state g.S.Store l.tx.conn.now);
  stays : HaveStayed g.S.Store l.fn.tx.conn l.tx.conn;
}
