use Rattle.store.proofs.Names.{◌≡◌, HasCleanDisk, span_rows, held_rows, IsWorking, StaysOpen, AreRowsOf}
use Rattle.sqlite.specs.Held.{state}
use Rattle.store.proofs.Keeps.{HaveStayed}
use Rattle.store.proofs.table.spans.remove_all.Given as goal

abbrev pub invariant-loop-span : goal.invariant-loop-span
invariant-loop-span g l =
    let old = state g.S.Store l.fn.tx.conn.now in
    let new = state g.S.Store l.tx.conn.now in
    record {
      goes : HasCleanDisk new → IsWorking old → StaysOpen old new;
      left : HasCleanDisk new → IsWorking old → AreRowsOf (span_rows old.now) l.fn.spans → AreRowsOf (span_rows new.now) l.span-iterator × (held_rows new.now ≡ held_rows old.now);
      stays : HaveStayed g.S.Store l.fn.tx.conn l.tx.conn;
    }
