use Rattle.binlog.specs.FilterView.{name_list}
use Rattle.binlog.proofs.NamesOnce.{once_rise, once_same}
use Rattle.binlog.proofs.filter.Follow.new.Goals as goal

pub invariant_of-result : goal.invariant_of-result
invariant_of-result c = once_rise c.sort_unstable.new.self.items c.dedup.new.self.items c.sort_unstable.ensures.sorted c.dedup.ensures.filtered

pub returns-clause-ok : goal.returns-clause-ok
returns-clause-ok c =
    once_same c.in_ok-names.names.items c.sort_unstable.new.self.items c.dedup.new.self.items (name_list c.args.names.now) c.in_ok-names.ensures.ok c.sort_unstable.ensures.permutation c.dedup.ensures.filtered
