use Rattle.replica.proofs.Names.{◌∙◌, arith, sym, adopted}
use Rattle.replica.proofs.InOrder.{none_taken, one_taken, until_ended, too_many, ended, counts, counts_one}
use Rattle.replica.proofs.Keeps.{keeps_same, keeps_then}
use Rattle.replica.proofs.change.changing.apply_all.Goals as goal

pub loop-taken-init : goal.loop-taken-init
loop-taken-init g c = record {
  fewer = omega arith;
  keeps = keeps_same g.S.Store;
  takes = λ clean old holds. none_taken g.S.Store c.args.store.now.following c.args.store.now old (g.I.Deliveries.supply c.args.deliveries.now) holds;
}

pub loop-taken-preserved : goal.loop-taken-preserved
loop-taken-preserved g c =
    let inv = c.loop-taken.invariant in
    record {
      fewer = omega (arith, inv.fewer, counts c.in-Ok.is_new, c.from-applied.ensures);
      keeps = keeps_then g.S.Store inv.keeps c.take_next.ensures.keeps;
      takes = λ clean old holds.
          let t = inv.takes (c.take_next.ensures.keeps.store.clean clean) old holds in
          one_taken g.S.Store c.args.store.now.following c.loop-taken.store c.take_next.new.store old (g.I.Deliveries.supply c.args.deliveries.now) (g.I.Deliveries.supply c.loop-taken.deliveries) (g.I.Deliveries.supply c.take_next.new.deliveries) c.loop-taken.taken c.loop-taken.applied c.from-applied.result c.in-Ok.is_new inv.keeps.store.following (c.from-applied.ensures ∙ counts_one c.in-Ok.is_new) t (c.in-Ok.ensures.takes clean t.new t.holds);
    }

pub overflow_add-applied : goal.overflow_add-applied
overflow_add-applied g c = omega (arith, c.loop-taken.invariant.fewer, counts c.in-Ok.is_new, c.from-applied.ensures)

pub returns-then-is_done-clause-changes : goal.returns-then-is_done-clause-changes
returns-then-is_done-clause-changes g c clean old ids holds =
    until_ended g.S.Store (λ h db is_open may. g.met.S.Store.settled h.store db is_open may) c.args.store.now.following c.loop-taken.store old ids (g.I.Deliveries.supply c.args.deliveries.now) (g.I.Deliveries.supply c.loop-taken.deliveries) c.loop-taken.taken c.loop-taken.applied (c.loop-taken.invariant.takes clean (adopted old ids) holds)

pub returns-then-is_done-clause-asked : goal.returns-then-is_done-clause-asked
returns-then-is_done-clause-asked g c = (c.is_done.ensures.stopped c.if-is_done.true, sym c.is_done.ensures.done ∙ c.if-is_done.true)

pub returns-in-Err-clause-changes : goal.returns-in-Err-clause-changes
returns-in-Err-clause-changes g c clean old ids holds =
    let inv = c.loop-taken.invariant in
    let t = inv.takes (c.take_next.ensures.keeps.store.clean clean) (adopted old ids) holds in
    ended g.S.Store (λ h db is_open may. g.met.S.Store.settled h.store db is_open may) c.args.store.now.following c.loop-taken.store c.take_next.new.store old ids (g.I.Deliveries.supply c.args.deliveries.now) (g.I.Deliveries.supply c.loop-taken.deliveries) (g.I.Deliveries.supply c.take_next.new.deliveries) c.loop-taken.taken c.loop-taken.applied inv.keeps.store.following c.take_next.ensures.keeps.store.following t c.in-Err.end (c.in-Err.ensures.takes clean t.new t.holds)

pub returns-clause-changes : goal.returns-clause-changes
returns-clause-changes g c clean old ids holds =
    too_many g.S.Store (λ h db is_open may. g.met.S.Store.settled h.store db is_open may) c.args.store.now.following c.loop-taken.store old ids (g.I.Deliveries.supply c.args.deliveries.now) (g.I.Deliveries.supply c.loop-taken.deliveries) c.loop-taken.taken c.loop-taken.applied (omega arith) (c.loop-taken.invariant.takes clean (adopted old ids) holds)

pub returns-in-Err-clause-keeps : goal.returns-in-Err-clause-keeps
returns-in-Err-clause-keeps g c = keeps_then g.S.Store c.loop-taken.invariant.keeps c.take_next.ensures.keeps
