use Rattle.gtid.proofs.Names.{ap, ◌∙◌, id, is_listed}
use Rattle.gtid.proofs.Sets.{contained}
use Rattle.gtid.proofs.set.GtidSet.contains.Goals as goal

pub returns : goal.returns
returns c =
    c.contains.ensures
    ∙ c.intervals_of.ensures.listed c.args.gtid.number
    ∙ ap (is_listed (id c.args.gtid)) c.deref.ensures.value
    ∙ contained c.self.inside.groups.items c.args.self.now c.self.view_is (id c.args.gtid)
