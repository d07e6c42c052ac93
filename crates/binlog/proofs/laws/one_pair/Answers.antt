use Rattle.wire.proofs.Cuts.{IsBytes-all}
use Rattle.binlog.proofs.RowEnds.{pair_stops, pair_stopped}
use Rattle.binlog.proofs.RowsItems.{pair_is_read}
use Rattle.binlog.proofs.laws.one_pair.Goals as goal

pub returns-clause-whole : goal.returns-clause-whole
returns-clause-whole c kind types pair first rest is = (pair_is_read kind types pair first rest is).0

pub returns-clause-early : goal.returns-clause-early
returns-clause-early c kind types bytes place all is = pair_stops kind types bytes place (IsBytes-all bytes all) is

pub returns-clause-ends : goal.returns-clause-ends
returns-clause-ends c = pair_stopped
