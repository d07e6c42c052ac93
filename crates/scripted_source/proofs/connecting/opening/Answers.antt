use Rattle.std.proofs.Common.{◌∙◌}
use Rattle.scripted_source.proofs.Packings.{opened}
use Rattle.scripted_source.proofs.connecting.opening.Goals as goal

pub returns-clause-ok : goal.returns-clause-ok
returns-clause-ok c = opened c.args.scramble.now c.deref.result.now c.new-out.result.items c.send.new.out.items c.send-2.new.out.items c.send-3.new.out.items c.new-out.ensures.items
    (c.deref.ensures.value ∙ c.in_ok-greeting.ensures.ok) c.in_ok-send.ensures.ok c.in_ok-send-2.ensures.ok c.in_ok-send-3.ensures.ok
