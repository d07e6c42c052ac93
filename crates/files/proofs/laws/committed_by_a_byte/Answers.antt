use Rattle.files.proofs.Writers.{gate_opens}
use Rattle.files.proofs.laws.committed_by_a_byte.Goals as goal

pub returns : goal.returns
returns c durable newest log db ready = gate_opens durable newest log db ready
