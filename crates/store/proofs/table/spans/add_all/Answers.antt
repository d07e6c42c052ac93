use Rattle.store.proofs.Names.{subst, arith, HasCleanDisk, HasLeft}
use Rattle.sqlite.specs.Held.{state}
use Rattle.store.proofs.Keeps.{stays_then, stays_ok}
use Rattle.store.proofs.SpanLists.{left_less}
use Rattle.store.proofs.table.spans.add_all.Goals as goal

pub loop-span-preserved : goal.loop-span-preserved
loop-span-preserved g c = record {
  sources = λ rest. c.loop-span.invariant.sources (rw c.in-Some.ensures.steps (c.add.ensures.source, rest));
  under_way = λ clean was.
      let old = state g.S.Store c.args.tx.now.conn.now in
      let mid = state g.S.Store c.loop-span.tx.conn.now in
      let new = state g.S.Store c.add.new.tx.conn.now in
      let early : HasCleanDisk mid = omega (arith, c.add.ensures.stays.survives.clean) in
      let way = c.loop-span.invariant.under_way early was in
      left_less old mid new c.args.spans c.next.new.self c.in-Some.span (subst (HasLeft old mid c.args.spans) c.in-Some.ensures.steps way)
      (c.in_ok-add.ensures.moves clean way.on.working);
  stays = stays_ok (stays_then c.loop-span.invariant.stays c.in_ok-add.ensures.stays);
}
