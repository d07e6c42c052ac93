use Rattle.std.proofs.Common.{refl}
use Rattle.store.proofs.store.Store.close.Goals as goal

pub returns-clause-same : goal.returns-clause-same
returns-clause-same g c = refl
