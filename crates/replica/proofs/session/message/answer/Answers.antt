use Rattle.replica.proofs.Names.{sym, ap, Hello, Reply, SecondReply, QueryReply, due_at}
use Rattle.replica.proofs.Messages.{ends_in}
use Rattle.replica.proofs.session.message.answer.Goals as goal

pub returns-in-Greeting-clause-err : goal.returns-in-Greeting-clause-err
returns-in-Greeting-clause-err c names = ends_in names c.args.executed.now (due_at c.args.login) Hello c.args.payload.now c.take_greeting.result (sym (ap due_at c.in-Greeting.is)) (c.take_greeting.ensures.err names c.args.executed.now)

pub returns-in-Reply-clause-err : goal.returns-in-Reply-clause-err
returns-in-Reply-clause-err c names = ends_in names c.args.executed.now (due_at c.args.login) Reply c.args.payload.now c.take_reply.result (sym (ap due_at c.in-Reply.is)) (c.take_reply.ensures.err names c.args.executed.now)

pub returns-in-SecondReply-clause-err : goal.returns-in-SecondReply-clause-err
returns-in-SecondReply-clause-err c names = ends_in names c.args.executed.now (due_at c.args.login) SecondReply c.args.payload.now c.take_second_reply.result (sym (ap due_at c.in-SecondReply.is)) (c.take_second_reply.ensures.err names c.args.executed.now)

pub returns-in-QueryReply-clause-err : goal.returns-in-QueryReply-clause-err
returns-in-QueryReply-clause-err c names = ends_in names c.args.executed.now (due_at c.args.login) QueryReply c.args.payload.now c.take_query_reply.result (sym (ap due_at c.in-QueryReply.is)) (c.take_query_reply.ensures.err names)
