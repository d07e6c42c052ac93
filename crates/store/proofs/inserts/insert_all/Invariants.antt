use Rattle.store.proofs.Names.{◌≡◌, ℕ, List, ◌++◌, Bor, map, length, HasCleanDisk, IsWorking, Adds}
use Rattle.std.specs.Slice.Iter.{chunks_rest}
use Rattle.sqlite.specs.Held.{state}
use Rattle.store.specs.Rows.{key_of}
use Rattle.store.proofs.Keeps.{HaveStayed}
use Rattle.store.proofs.inserts.insert_all.Given as goal

abbrev pub invariant-loop-some : goal.invariant-loop-some
invariant-loop-some g l = record {
  steps : (goal.iterator-loop-some g).can_next l.some-iterator × (goal.iterator-loop-some g).is_finite l.some-iterator;
  way : (taken : List (Bor (List ℕ))) × (l.images ≡ taken ++ chunks_rest l.some-iterator) × (l.done ≡ length taken)
      × (HasCleanDisk (state g.S.Store l.tx.conn.now) → IsWorking (state g.S.Store l.fn.tx.conn.now) → Adds (map (λ r. key_of l.schema l.table r.now) taken) (state g.S.Store l.fn.tx.conn.now) (state g.S.Store l.tx.conn.now));
  stays : HaveStayed g.S.Store l.fn.tx.conn l.tx.conn;
}
