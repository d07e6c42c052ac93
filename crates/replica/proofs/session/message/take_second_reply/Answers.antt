use Rattle.replica.proofs.Names.{SecondReply, refusal_of}
use Rattle.replica.proofs.Messages.{message_ends}
use Rattle.replica.proofs.session.message.take_second_reply.Goals as goal

pub returns-in-Err-clause-err : goal.returns-in-Err-clause-err
returns-in-Err-clause-err c names executed = message_ends names executed SecondReply c.args.payload.now c.reported.result tt (c.reported.ensures.reported (refusal_of SecondReply c.args.payload.now) c.in-Err.ensures.fault)
