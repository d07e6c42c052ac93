use Rattle.std.proofs.Common.{◌≡◌, refl}
use Rattle.replica.proofs.ClearStore.{stays_whole, lists_all}
use Rattle.replica.proofs.change.clearing.list_deletes.Goals as goal

pub returns-in-Err-clause-lists : goal.returns-in-Err-clause-lists
returns-in-Err-clause-lists g c clean content holds = (tt, stays_whole g.S.Store (λ h db is_open may. g.met.S.Store.settled h.store db is_open may) c.args.store.now content (λ left. left ≡ content) refl holds)

pub returns-clause-lists : goal.returns-clause-lists
returns-clause-lists g c clean content holds =
    lists_all g.S.Store (λ h db is_open may. g.met.S.Store.settled h.store db is_open may) c.args.schema.now c.args.table.now c.args.store.now c.list-listed.new.self content _ c.list-listed.new.visitor c.list-listed.result c.gathered.result
    c.gathered.ensures c.new.ensures c.in-Ok.ensures.schema c.in-Ok.ensures.table c.list-listed.ensures.following (c.list-listed.ensures.lists clean content holds) (c.list-listed.ensures.crash clean content holds)
