use Rattle.store.proofs.Names.{◌≡◌, ◌∷◌, None, Some, arith, ap, length, HasCleanDisk}
use Rattle.sqlite.specs.Held.{state}
use Rattle.gather.specs.View.{change_value}
use Rattle.store.specs.Inside.{Does}
use Rattle.store.proofs.Keeps.{stays_then, stays_ok}
use Rattle.store.proofs.Loop.{left_is, goes_under_way, is_refused}
use Rattle.store.proofs.row_change.make_all.Goals as goal

pub loop-change-preserved : goal.loop-change-preserved
loop-change-preserved g c =
    let changes = c.args.changes.now in
    let left = c.loop-change.change-iterator in
    let change = change_value c.in-Some.change in
    let steps : left ≡ change ∷ c.next.new.self = c.in-Some.ensures.steps in
    record {
      left = left_is changes left c.loop-change.at change c.next.new.self c.loop-change.invariant.left steps;
      within = omega (arith, c.loop-change.invariant.within, ap length steps);
      under_way = λ clean was.
          let old = state g.S.Store c.args.tx.now.conn.now in
          let mid = state g.S.Store c.loop-change.tx.conn.now in
          let new = state g.S.Store c.step.new.tx.conn.now in
          let early : HasCleanDisk mid = omega (arith, c.step.ensures.stays.survives.clean) in
          let way = c.loop-change.invariant.under_way early was in
          let done : Does c.args.filter.now change mid new None = rw c.in_default.is at (c.in_ok-why.ensures.does clean way.0.on.working) in
          goes_under_way changes left c.loop-change.at change c.next.new.self c.loop-change.invariant.left steps c.args.filter.now old mid new way done;
      stays = stays_ok (stays_then c.loop-change.invariant.stays c.in_ok-why.ensures.stays);
    }

pub returns-in-Some-2-clause-does : goal.returns-in-Some-2-clause-does
returns-in-Some-2-clause-does g c clean was =
    let changes = c.args.changes.now in
    let left = c.loop-change.change-iterator in
    let change = change_value c.in-Some.change in
    let steps : left ≡ change ∷ c.next.new.self = c.in-Some.ensures.steps in
    let old = state g.S.Store c.args.tx.now.conn.now in
    let mid = state g.S.Store c.loop-change.tx.conn.now in
    let new = state g.S.Store c.step.new.tx.conn.now in
    let early : HasCleanDisk mid = omega (arith, c.step.ensures.stays.survives.clean) in
    let way = c.loop-change.invariant.under_way early was in
    let why : Does c.args.filter.now change mid new (Some c.in-Some-2.why) = rw c.in-Some-2.is at (c.in_ok-why.ensures.does clean way.0.on.working) in
    is_refused changes left c.loop-change.at change c.next.new.self c.loop-change.invariant.left steps c.args.filter.now old mid new way c.in-Some-2.why why
