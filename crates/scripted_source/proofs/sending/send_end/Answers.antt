use Rattle.scripted_source.proofs.Names.{subst, sym, arith, IsWritable}
use Rattle.scripted_source.proofs.Packings.{on_ok}
use Rattle.binlog.proofs.EventBytes.{writes_xid, writes_commit}
use Rattle.scripted_source.specs.Script.{end_event}
use Rattle.scripted_source.proofs.sending.send_end.Goals as goal

pub send_short-requires-clause-event : goal.send_short-requires-clause-event
send_short-requires-clause-event c = writes_xid c.args.number (omega arith)

pub send_short-requires-in-Commit-clause-event : goal.send_short-requires-in-Commit-clause-event
send_short-requires-in-Commit-clause-event c = writes_commit

pub returns-in-Xid-clause-event : goal.returns-in-Xid-clause-event
returns-in-Xid-clause-event c = on_ok c.send_short.result (subst (λ e. IsWritable (end_event e c.args.number)) (sym c.in-Xid.is) (writes_xid c.args.number (omega arith)))

pub returns-in-Commit-clause-event : goal.returns-in-Commit-clause-event
returns-in-Commit-clause-event c = on_ok c.send_short-in-Commit.result (subst (λ e. IsWritable (end_event e c.args.number)) (sym c.in-Commit.is) writes_commit)
