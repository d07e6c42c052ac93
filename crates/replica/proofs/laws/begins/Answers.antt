use Rattle.replica.proofs.Runs as lemma
use Rattle.replica.proofs.laws.begins.Goals as goal

pub returns : goal.returns
returns g c was content holds stands = lemma.begins g.S.Store (λ h db is_open may. g.met.S.Store.settled h.store db is_open may) c.args._session.now c.args._store.now was content holds stands
