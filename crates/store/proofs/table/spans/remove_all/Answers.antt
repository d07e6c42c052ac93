use Rattle.store.proofs.Names.{subst, arith, HasCleanDisk, span_rows, AreRowsOf}
use Rattle.sqlite.specs.Held.{state}
use Rattle.store.proofs.Keeps.{stays_then, stays_ok}
use Rattle.store.proofs.BetweenCalls.{goes_then}
use Rattle.store.proofs.SpanLists.{one_removed}
use Rattle.store.proofs.table.spans.remove_all.Goals as goal

pub loop-span-preserved : goal.loop-span-preserved
loop-span-preserved g c =
    let old = state g.S.Store c.args.tx.now.conn.now in
    let mid = state g.S.Store c.loop-span.tx.conn.now in
    let new = state g.S.Store c.remove.new.tx.conn.now in
    record {
      goes = λ clean was.
          let early : HasCleanDisk mid = omega (arith, c.remove.ensures.stays.survives.clean) in
          let so_far = c.loop-span.invariant.goes early was in
          goes_then old mid new so_far (c.in_ok-remove.ensures.goes clean so_far.working);
      left = λ clean was lists.
          let early : HasCleanDisk mid = omega (arith, c.remove.ensures.stays.survives.clean) in
          let so_far = c.loop-span.invariant.left early was lists in
          let there = subst (AreRowsOf (span_rows mid.now)) c.in-Some.ensures.steps so_far.0 in
          one_removed old mid new c.in-Some.span c.next.new.self there so_far.1 (c.in_ok-remove.ensures.moves clean (c.loop-span.invariant.goes early was).working c.next.new.self there);
      stays = stays_ok (stays_then c.loop-span.invariant.stays c.in_ok-remove.ensures.stays);
    }
