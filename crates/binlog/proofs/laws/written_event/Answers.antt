use Rattle.binlog.proofs.EventBytes.{written}
use Rattle.binlog.proofs.laws.written_event.Goals as goal

pub returns : goal.returns
returns c = written
