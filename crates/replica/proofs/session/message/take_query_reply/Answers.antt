use Rattle.replica.proofs.Names.{QueryReply, refusal_of}
use Rattle.replica.proofs.Messages.{message_ends}
use Rattle.replica.proofs.session.message.take_query_reply.Goals as goal

pub returns-in-Err-clause-err : goal.returns-in-Err-clause-err
returns-in-Err-clause-err c names = message_ends names c.args.executed.now QueryReply c.args.payload.now c.reported.result tt (c.reported.ensures.reported (refusal_of QueryReply c.args.payload.now) c.in-Err.ensures.fault)
