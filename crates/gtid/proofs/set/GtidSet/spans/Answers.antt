use Rattle.gtid.proofs.LeastList.{least_list_of}
use Rattle.gtid.proofs.set.GtidSet.spans.Goals as goal

pub returns : goal.returns
returns c = least_list_of c.new.result c.deref.result.now c.self.inside.groups.items c.args.self.now c.self.invariant c.new.ensures c.deref.ensures.value c.self.view_is
