use Rattle.std.proofs.Common.{sym}
use Rattle.scripted_source.specs.Script.{script_value}
use Rattle.scripted_source.proofs.Packings.{script_sent}
use Rattle.scripted_source.proofs.sending.send_script.Goals as goal

pub returns-clause-ok : goal.returns-clause-ok
returns-clause-ok c =
    script_sent c.send_end.result c.args.sequence c.in_ok-next.next c.in_ok-next-2.next (script_value c.args.script.now) c.args.out.now.items c.announce.new.out.items c.send_parts.new.out.items c.send_end.new.out.items
    c.in_ok-next.ensures.ok (rw (sym c.deref.ensures.value) c.in_ok-next-2.ensures.ok) c.send_end.ensures.ok
