use Rattle.replica.proofs.Names.{rules, [], ◌≡◌, true, false, delivery_value, is_executed}
use Rattle.replica.proofs.Notices.{asked_known, asked_new, noted_none}
use Rattle.replica.proofs.session.dump.is_halted.Goals as goal

pub returns-then-contains-clause-noticed : goal.returns-then-contains-clause-noticed
returns-then-contains-clause-noticed g c is now holds =
    let known : is_executed now (delivery_value c.args.delivery.now) ≡ true = search rules in
    asked_known now (delivery_value c.args.delivery.now) (g.W.Observer.account c.args.observer.now) known

pub returns-clause-noticed : goal.returns-clause-noticed
returns-clause-noticed g c is now holds =
    let fresh : is_executed now (delivery_value c.args.delivery.now) ≡ false = search rules in
    asked_new now (delivery_value c.args.delivery.now) (g.W.Observer.account c.args.observer.now) (g.W.Observer.account c.before_apply.new.self) c.before_apply.result fresh c.before_apply.ensures.noticed

pub returns-then-contains-clause-grows : goal.returns-then-contains-clause-grows
returns-then-contains-clause-grows g c = ([], noted_none (g.W.Observer.account c.args.observer.now).noted)

pub returns-clause-grows : goal.returns-clause-grows
returns-clause-grows g c = (_, c.before_apply.ensures.noticed.noted)
