use Rattle.gtid.proofs.Sets.{no_groups, ascend_none}
use Rattle.gtid.proofs.set.GtidSet.new.Goals as goal

pub invariant_of-result : goal.invariant_of-result
invariant_of-result c = ascend_none c.new.result.items c.new.ensures.items

pub returns : goal.returns
returns c = no_groups c.new.result.items c.new.ensures.items
