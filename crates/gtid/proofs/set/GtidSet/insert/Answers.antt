use Rattle.gtid.proofs.Names.{not, ap, ◌∙◌, on_err_weaker, id}
use Rattle.gtid.proofs.GroupLookUp.{if_ok}
use Rattle.gtid.proofs.Sets.{contained, inserted, same_ids}
use Rattle.gtid.proofs.set.GtidSet.insert.Goals as goal

pub returns-clause-ok : goal.returns-clause-ok
returns-clause-ok c =
    let old = c.self.inside.groups.items in
    if_ok c.insert.result c.insert.ensures.answer c.insert.ensures.ok (λ new answer adds.
    (answer ∙ ap not (contained old c.args.self.now c.self.view_is (id c.args.gtid)), inserted old c.insert.new.groups.items c.args.self.now (id c.args.gtid) c.self.view_is adds))

pub returns-clause-there : goal.returns-clause-there
returns-clause-there c there = c.insert.ensures.there (contained c.self.inside.groups.items c.args.self.now c.self.view_is (id c.args.gtid) ∙ there)

pub returns-clause-err : goal.returns-clause-err
returns-clause-err c =
    on_err_weaker c.insert.result (λ kept.
    (kept.0, same_ids c.args.self.now c.insert.new.groups.items (λ q. kept.1 q ∙ contained c.self.inside.groups.items c.args.self.now c.self.view_is q))) c.insert.ensures.err

pub returns-clause-near : goal.returns-clause-near
returns-clause-near c n beside one = c.insert.ensures.near n beside (contained c.self.inside.groups.items c.args.self.now c.self.view_is (c.args.gtid.source, n) ∙ one)
