use Rattle.replica.proofs.RestartFiles.{unopened_found}
use Rattle.replica.proofs.laws.found_unopened.Goals as goal

pub returns : goal.returns
returns g c = λ wanted names content before next hold away may. unopened_found wanted names content before next c.args._why.now hold away may
