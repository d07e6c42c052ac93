use Rattle.store.proofs.store.Store.open.Goals as goal

pub returns : goal.returns
returns g c = c.open_for.ensures
