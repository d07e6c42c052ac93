use Rattle.gtid.proofs.Names.{◌≡◌, ap, refl, subst, id}
use Rattle.gtid.specs.Beside.{Joins}
use Rattle.gtid.proofs.Around.{joins, beside_lawful}
use Rattle.gtid.proofs.reserved.Reserved.beside.Goals as goal

pub returns-clause-joins : goal.returns-clause-joins
returns-clause-joins c spans of =
    let it = c.self.inside in
    let t = c.beside-below.ensures in
    let set = ap (λ p. p.0) c.self.view_is in
    let one : id it.gtid ≡ c.args.self.now.1 = ap (λ p. p.1) c.self.view_is in
    subst (λ q. Joins c.args.self.now.0 q c.of.result spans) one
    (joins it.groups.items it.groups.items c.args.self.now.0 it.gtid.source it.gtid.number t.intervals c.beside-below.result.0 c.beside-below.result.1 c.of.result c.self.invariant.0 refl set t.among t.touches
    c.of.ensures.below c.of.ensures.above spans of)

pub returns-clause-below : goal.returns-clause-below
returns-clause-below c =
    let t = c.beside-below.ensures in
    (beside_lawful c.self.inside.gtid.source c.self.inside.gtid.number t.intervals c.beside-below.result.0 c.beside-below.result.1 c.of.result t.least t.touches c.of.ensures.below c.of.ensures.above).0

pub returns-clause-above : goal.returns-clause-above
returns-clause-above c =
    let t = c.beside-below.ensures in
    (beside_lawful c.self.inside.gtid.source c.self.inside.gtid.number t.intervals c.beside-below.result.0 c.beside-below.result.1 c.of.result t.least t.touches c.of.ensures.below c.of.ensures.above).1
