use Rattle.replica.proofs.Names.{ap, Ok, Reply, refusal_of}
use Rattle.replica.proofs.Messages.{message_ends, answered_again, switch_due}
use Rattle.replica.proofs.session.message.take_reply.Goals as goal

pub returns-in-Err-clause-err : goal.returns-in-Err-clause-err
returns-in-Err-clause-err c names executed = message_ends names executed Reply c.args.payload.now c.reported.result tt (c.reported.ensures.reported (refusal_of Reply c.args.payload.now) c.in-Err.ensures.fault)

pub returns-in_ok-log_in_again-in-Ok-Switch-clause-ok : goal.returns-in_ok-log_in_again-in-Ok-Switch-clause-ok
returns-in_ok-log_in_again-in-Ok-Switch-clause-ok c names executed =
    let is = c.in-Ok-Switch.ensures.switch c.in-Ok-Switch.scramble (ap Ok c.in-Ok-Switch.field-0-is) in
    answered_again c.args.config.now names executed c.in-Ok-Switch.scramble c.args.payload.now c.args.out.now.items c.log_in_again.new.out.items is c.in_ok-log_in_again-in-Ok-Switch.ensures.ok

pub returns-in_ok-log_in_again-in-Ok-Switch-clause-due : goal.returns-in_ok-log_in_again-in-Ok-Switch-clause-due
returns-in_ok-log_in_again-in-Ok-Switch-clause-due c =
    switch_due c.in-Ok-Switch.scramble c.args.payload.now (c.in-Ok-Switch.ensures.switch c.in-Ok-Switch.scramble (ap Ok c.in-Ok-Switch.field-0-is))
