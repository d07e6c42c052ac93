use Rattle.binlog.proofs.NamesOnce.{none_rise}
use Rattle.binlog.proofs.filter.Follow.all.Goals as goal

pub invariant_of-result : goal.invariant_of-result
invariant_of-result c = none_rise c.new.result.items c.new.ensures.items
