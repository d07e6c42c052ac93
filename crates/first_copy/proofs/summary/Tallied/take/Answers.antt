use Rattle.std.specs.Io.KnownBytes.{prepend_known}
use Rattle.gather.specs.View.{delivery_value}
use Rattle.first_copy.proofs.TextDigests.{one_taken, all_taken, of_none, of_some}
use Rattle.first_copy.proofs.summary.Tallied.take.Goals as goal

pub returns-then-is_none-clause-hashed : goal.returns-then-is_none-clause-hashed
returns-then-is_none-clause-hashed g c m going holds =
    let l = c.loop.loader in
    let after = c.next.new.self in
    all_taken l.given l.rows after.given after.rows (prepend_known c.args.loader.now.line.items (g.R.Read.remaining c.args.loader.now.reader)) (prepend_known l.line.items (g.R.Read.remaining l.reader)) c.args.loader.now.hasher l.hasher after.hasher
    (c.loop.invariant.taken going) (of_none c.in_ok-next.next c.is_none.result _ c.is_none.ensures c.if-is_none.true c.in_ok-next.ensures.finished (c.loop.invariant.going going)) m holds

pub loop-preserved : goal.loop-preserved
loop-preserved g c = record {
  going = λ on. (of_some c.in_ok-next.next c.is_none.result _ c.is_none.ensures c.if-is_none.false c.in_ok-next.ensures.going).1.1;
  taken = λ on.
      let l = c.loop.loader in
      let after = c.next.new.self in
      let it = of_some c.in_ok-next.next c.is_none.result _ c.is_none.ensures c.if-is_none.false c.in_ok-next.ensures.given in
      one_taken l.taker.description.value.tables.items l.source l.given l.rows after.given after.rows (delivery_value it.0) (prepend_known c.args.loader.now.line.items (g.R.Read.remaining c.args.loader.now.reader)) (prepend_known l.line.items (g.R.Read.remaining l.reader))
      (prepend_known after.line.items (g.R.Read.remaining after.reader)) c.args.loader.now.hasher l.hasher after.hasher (c.loop.invariant.taken on) it.1;
}
