use Rattle.store.proofs.Names.{AllByRecursion, IsSource, HasCleanDisk, IsWorking, HasLeft}
use Rattle.sqlite.specs.Held.{state}
use Rattle.store.proofs.Keeps.{HaveStayed}
use Rattle.store.proofs.table.spans.add_all.Given as goal

abbrev pub invariant-loop-span : goal.invariant-loop-span
invariant-loop-span g l = record {
  sources : AllByRecursion (λ s. IsSource s.source) l.span-iterator → AllByRecursion (λ s. IsSource s.source) l.fn.spans;
  under_way : HasCleanDisk (state g.S.Store l.tx.conn.now) → IsWorking (state g.S.Store l.fn.tx.conn.now) → HasLeft (state g.S.Store l.fn.tx.conn.now) (state g.S.Store l.tx.conn.now) l.fn.spans l.span-iterator;
  stays : HaveStayed g.S.Store l.fn.tx.conn l.tx.conn;
}
