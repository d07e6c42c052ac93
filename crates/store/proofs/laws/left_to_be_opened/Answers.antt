use Rattle.store.proofs.CrashOpenings.{left_by}
use Rattle.store.proofs.laws.left_to_be_opened.Goals as goal

pub returns : goal.returns
returns g c content holds trees left only = left_by _ c.args._store.now.following content trees (c.left_over_a_crash.ensures content holds trees left) only
