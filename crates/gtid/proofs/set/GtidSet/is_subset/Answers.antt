use Rattle.std.proofs.Common.{ap, ◌∙◌}
use Rattle.gtid.specs.Group.{ids_of}
use Rattle.gtid.proofs.Sets.{is_subset_is}
use Rattle.gtid.proofs.set.GtidSet.is_subset.Goals as goal

pub returns : goal.returns
returns c =
    is_subset_is c.are_subset.result c.deref.result.now c.deref-2.result.now c.args.self.now c.args.other.now (ap ids_of c.deref.ensures.value ∙ c.self.view_is)
    (ap ids_of c.deref-2.ensures.value ∙ c.other.view_is) c.are_subset.ensures
