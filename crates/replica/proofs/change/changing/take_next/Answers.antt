use Rattle.replica.proofs.Names.{refl, subst, delivery_value}
use Rattle.gather.specs.Given.{GivesOne}
use Rattle.replica.proofs.Keeps.{keeps_same}
use Rattle.replica.proofs.change.changing.take_next.Goals as goal

pub returns-in-Ok-None-clause-takes : goal.returns-in-Ok-None-clause-takes
returns-in-Ok-None-clause-takes g c clean now holds =
    let none = subst (λ o. GivesOne (g.I.Deliveries.supply c.args.deliveries.now) (g.I.Deliveries.supply c.next.new.self) o) c.in-Ok-None.field-0-is c.in-Ok-None.ensures.gives in
    (none.0, none.1, refl)

pub returns-in-Err-clause-takes : goal.returns-in-Err-clause-takes
returns-in-Err-clause-takes g c clean now holds = (c.in-Err.ensures.gives, refl)

pub returns-in-Ok-clause-takes : goal.returns-in-Ok-clause-takes
returns-in-Ok-clause-takes g c clean now holds = (
  delivery_value c.in-Ok-Some.delivery,
  subst (λ o. GivesOne (g.I.Deliveries.supply c.args.deliveries.now) (g.I.Deliveries.supply c.next.new.self) o) c.in-Ok-Some.field-0-is c.in-Ok-Some.ensures.gives,
  c.in-Ok.ensures.alone clean now holds,
)

pub returns-in-Ok-None-clause-keeps : goal.returns-in-Ok-None-clause-keeps
returns-in-Ok-None-clause-keeps g c = keeps_same g.S.Store

pub returns-in-Err-clause-keeps : goal.returns-in-Err-clause-keeps
returns-in-Err-clause-keeps g c = keeps_same g.S.Store
