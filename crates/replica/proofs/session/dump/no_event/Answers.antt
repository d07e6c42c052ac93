use Rattle.replica.proofs.Names.{InDump, refusal_of}
use Rattle.replica.proofs.Messages.{dump_ends}
use Rattle.replica.proofs.session.dump.no_event.Goals as goal

pub returns-in-Err-clause-ends : goal.returns-in-Err-clause-ends
returns-in-Err-clause-ends c names es = dump_ends names es c.args.payload.now c.reported.result c.requires (c.reported.ensures.reported (refusal_of InDump c.args.payload.now) c.in-Err.ensures.fault)
