use Rattle.replica.proofs.Names.{List, [], ◌∷◌, ap, subst, ChangeValue, delivery_value}
use Rattle.gather.specs.Given.{GivesOne, empty_of}
use Rattle.replica.proofs.LastOnes.{gives_first, gives_last, gives_none, gives_error}
use Rattle.replica.proofs.change.then_last.ThenLastDeliveries.next.Goals as goal

pub returns-then-self : goal.returns-then-self
returns-then-self g c = record { gives = gives_none c.args.self.now.is_given (g.I.Deliveries.supply c.args.self.now.inner) (empty_of c.args.self.now.last) c.if-self.true }

pub returns-in-Some : goal.returns-in-Some
returns-in-Some g c = record {
  gives = gives_first c.args.self.now.is_given (g.I.Deliveries.supply c.args.self.now.inner) (g.I.Deliveries.supply c.next.new.self) (empty_of c.args.self.now.last) (delivery_value c.in-Some.delivery ∷ []) c.if-self.false (subst (λ next. GivesOne (g.I.Deliveries.supply c.args.self.now.inner) (g.I.Deliveries.supply c.next.new.self) next) c.in-Some.is c.in_ok-delivery.ensures.gives);
}

pub returns-in_err-delivery : goal.returns-in_err-delivery
returns-in_err-delivery g c = record { gives = gives_error c.args.self.now.is_given (g.I.Deliveries.supply c.args.self.now.inner) (g.I.Deliveries.supply c.next.new.self) (empty_of c.args.self.now.last) c.from_residual.result c.if-self.false c.from_residual.ensures.0 c.in_err-delivery.ensures.gives }

pub returns : goal.returns
returns g c = record {
  gives = gives_last c.args.self.now.is_given (g.I.Deliveries.supply c.args.self.now.inner) (g.I.Deliveries.supply c.next.new.self) (empty_of c.args.self.now.last) _ c.if-self.false (ap (λ (changes : List ChangeValue). record { source = c.args.self.now.last.source; number = c.args.self.now.last.number; changes = changes }) c.new.ensures) (subst (λ next. GivesOne (g.I.Deliveries.supply c.args.self.now.inner) (g.I.Deliveries.supply c.next.new.self) next) c.in_default.is c.in_ok-delivery.ensures.gives);
}
