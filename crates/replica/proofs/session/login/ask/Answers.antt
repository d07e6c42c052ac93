use Rattle.replica.proofs.Names.{IsDumpTooLong, Sends, ◌∙◌}
use Rattle.replica.specs.PayloadStep.{SendsDump}
use Rattle.replica.proofs.SentBytes.{on_ok, asks_for, short_enough}
use Rattle.replica.proofs.session.login.ask.Goals as goal

pub returns-clause-ok : goal.returns-clause-ok
returns-clause-ok c =
    on_ok c.send.result (Sends 0 c.deref-2.result.now c.args.out.now.items c.send.new.out.items) (SendsDump c.args.config.now c.args.executed.now c.args.out.now.items c.send.new.out.items)
    (asks_for c.args.config.now c.args.executed.now c.in_ok-set.set.items c.deref-2.result.now c.args.out.now.items c.send.new.out.items c.in_ok-set.ensures.ok.0
    (c.deref-2.ensures.value ∙ rw c.deref.ensures.value at c.in_ok-payload.ensures.ok))
    c.send.ensures.ok

pub returns-clause-short : goal.returns-clause-short
returns-clause-short c =
    on_ok c.send.result (Sends 0 c.deref-2.result.now c.args.out.now.items c.send.new.out.items) (IsDumpTooLong c.args.executed.now → ⊥)
    (λ _. short_enough c.args.executed.now c.in_ok-set.set.items c.in_ok-set.ensures.ok.0 c.in_ok-set.ensures.ok.1)
    c.send.ensures.ok
