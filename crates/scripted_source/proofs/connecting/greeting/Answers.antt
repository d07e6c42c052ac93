use Rattle.scripted_source.proofs.Packings.{greeting_made}
use Rattle.scripted_source.proofs.connecting.greeting.Goals as goal

pub returns-in-Ok-clause-ok : goal.returns-in-Ok-clause-ok
returns-in-Ok-clause-ok c = greeting_made c.in_ok-from_slice.field-0.items c.args.scramble.now c.new-payload.result.items c.write.new.out.items c.new-payload.ensures.items c.in_ok-from_slice.ensures.items c.in-Ok.ensures.ok
