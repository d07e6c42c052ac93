use Rattle.scripted_source.proofs.Names.{arith}
use Rattle.binlog.proofs.EventBytes.{writes_gtid, writes_begin}
use Rattle.scripted_source.proofs.Packings.{on_ok, if_appends}
use Rattle.scripted_source.proofs.sending.announce.Goals as goal

pub send_short-requires-clause-event : goal.send_short-requires-clause-event
send_short-requires-clause-event c = let id = c.args.id in writes_gtid id.source id.number (omega arith) id.at_least_one id.at_most

pub send_short-requires-2-clause-event : goal.send_short-requires-2-clause-event
send_short-requires-2-clause-event c = writes_begin

pub returns-clause-ok : goal.returns-clause-ok
returns-clause-ok c = if_appends c.send_short-2.result c.args.sequence _ _ _ _ _ c.in_ok-next.next c.in_ok-next.ensures.ok c.send_short-2.ensures.ok

pub returns-clause-event : goal.returns-clause-event
returns-clause-event c = let id = c.args.id in on_ok c.send_short-2.result (writes_gtid id.source id.number (omega arith) id.at_least_one id.at_most)
