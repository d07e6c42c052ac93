use Rattle.replica.proofs.Names.{◌∙◌, ◌++◌, ap, List, ℕ, Sends}
use Rattle.greet.specs.Message.{checksum_query}
use Rattle.replica.proofs.SentBytes.{on_ok, sends_other}
use Rattle.replica.proofs.session.login.turn_checksums_off.Goals as goal

pub returns-in-Ok-clause-ok : goal.returns-in-Ok-clause-ok
returns-in-Ok-clause-ok c =
    on_ok c.send.result (Sends 0 c.deref.result.now c.args.out.now.items c.send.new.out.items) (Sends 0 checksum_query c.args.out.now.items c.send.new.out.items)
    (sends_other 0 checksum_query c.deref.result.now c.args.out.now.items c.send.new.out.items
    (c.deref.ensures.value ∙ c.in-Ok.ensures.ok ∙ ap (λ (l : List ℕ). l ++ checksum_query) c.new-payload.ensures.items))
    c.send.ensures.ok
