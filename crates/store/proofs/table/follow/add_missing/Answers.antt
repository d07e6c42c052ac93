use Rattle.store.proofs.Names.{◌<◌, length, subst, sym, arith, rules, HasCleanDisk}
use Rattle.sqlite.specs.Held.{state}
use Rattle.store.specs.Changes.{widened}
use Rattle.store.specs.Inside.{StoresNames}
use Rattle.store.proofs.Keeps.{stays_then, stays_ok}
use Rattle.store.proofs.NewTables.{one_name}
use Rattle.store.proofs.MoreNames.{named_same, named_then, widened_none}
use Rattle.store.proofs.table.follow.add_missing.Goals as goal

pub loop-name-init : goal.loop-name-init
loop-name-init g c = record {
  named = λ clean was were. let s = state g.S.Store c.args.tx.now.conn.now in subst (StoresNames s s) (sym (widened_none c.args.following.now)) (named_same s c.args.following.now was were);
  stays = search rules;
}

pub loop-name-preserved : goal.loop-name-preserved
loop-name-preserved g c =
    let low : c.loop-name.name-index < length c.args.names.now = omega arith in
    record {
      named = λ clean was were.
          let old = state g.S.Store c.args.tx.now.conn.now in
          let mid = state g.S.Store c.loop-name.tx.conn.now in
          let new = state g.S.Store c.add_if_missing.new.tx.conn.now in
          let early : HasCleanDisk mid = omega (arith, c.add_if_missing.ensures.stays.survives.clean) in
          let so_far = c.loop-name.invariant.named early was were in
          let one = (rw (c.as_slice.ensures.value, c.as_slice-in-loop-name.ensures.value) at c.in_ok-add_if_missing.ensures.named) _ clean so_far.working so_far.names_are in
          subst (λ names. StoresNames old new (widened c.args.following.now names)) (sym (one_name c.args.names.now c.loop-name.name-index c.name-item.result low c.name-item.is))
          (named_then old mid new _ _ so_far one);
      stays = stays_ok (stays_then c.loop-name.invariant.stays c.in_ok-add_if_missing.ensures.stays);
    }
