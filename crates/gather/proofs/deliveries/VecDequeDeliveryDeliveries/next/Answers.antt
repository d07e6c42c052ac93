use Rattle.std.proofs.Common.{rules}
use Rattle.gather.proofs.ListedOnes.{pops}
use Rattle.gather.proofs.deliveries.VecDequeDeliveryDeliveries.next.Goals as goal

pub returns : goal.returns
returns c = record { gives = pops c.args.self.now.items c.pop_front.new.self.items c.pop_front.result c.pop_front.ensures.items (search rules) }
