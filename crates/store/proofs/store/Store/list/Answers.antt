use Rattle.std.proofs.Common.{refl}
use Rattle.sqlite.specs.Held.{state}
use Rattle.store.proofs.ExecutedInMemory.{spares_kept}
use Rattle.store.proofs.RowVisits.{held_listed, kept_now}
use Rattle.store.proofs.store.Store.list.Goals as goal

pub returns-clause-lists : goal.returns-clause-lists
returns-clause-lists g c clean content was =
    let handed = c.list_held.ensures.hands clean c.args.self.now.following content was.rest in
    (handed.0, held_listed g.S.Store c.args.self.now _ content c.list_held.result was was.whole refl refl handed.1)

pub returns-clause-unchanged : goal.returns-clause-unchanged
returns-clause-unchanged g c clean content was is_open =
    kept_now (state g.S.Store c.args.self.now.conn) (state g.S.Store c.list_held.new.conn) c.list_held.result (c.list_held.ensures.hands clean c.args.self.now.following content was.rest).1 was.rest.settled is_open

pub returns-clause-crash_beside : goal.returns-clause-crash_beside
returns-clause-crash_beside g c clean content was trees left =
    spares_kept g.S.Store c.args.self.now.following content (λ h db is_open may. g.met.S.Store.settled h.store db is_open may) c.args.self.now.conn c.list_held.new.conn trees was.rest (c.list_held.ensures.survives was.rest.stands.laid_out) clean left
