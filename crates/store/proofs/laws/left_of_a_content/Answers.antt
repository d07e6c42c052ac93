use Rattle.store.proofs.CrashOpenings.{left_by}
use Rattle.store.proofs.laws.left_of_a_content.Goals as goal

pub returns : goal.returns
returns g c schema names content trees h only = left_by schema names content trees h only
