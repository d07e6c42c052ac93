use Rattle.store.proofs.Names.{subst, sym, arith, HasCleanDisk, IsNaming}
use Rattle.sqlite.specs.Held.{state}
use Rattle.store.proofs.Keeps.{stays_then, stays_ok}
use Rattle.store.proofs.NewTables.{one_name}
use Rattle.store.proofs.table.follow.add_names.Goals as goal

pub loop-name-preserved : goal.loop-name-preserved
loop-name-preserved g c = record {
  named = λ clean was.
      let mid = state g.S.Store c.loop-name.tx.conn.now in
      let new = state g.S.Store c.add_name.new.tx.conn.now in
      let early : HasCleanDisk mid = omega (arith, c.add_name.ensures.stays.survives.clean) in
      let so_far = c.loop-name.invariant.named early was in
      subst (λ names. IsNaming names new) (sym (one_name c.args.names.now c.loop-name.name-index c.name-item.result (omega arith) c.name-item.is))
      ((rw (c.as_slice.ensures.value, c.as_slice-in-loop-name.ensures.value) at c.in_ok-add_name.ensures.named) _ clean so_far);
  stays = stays_ok (stays_then c.loop-name.invariant.stays c.in_ok-add_name.ensures.stays);
}
