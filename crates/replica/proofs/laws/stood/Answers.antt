use Rattle.replica.specs.Standing.{end_of}
use Rattle.replica.proofs.Positions as stood
use Rattle.replica.proofs.Report as reported
use Rattle.replica.proofs.laws.stood.Goals as goal

pub returns-clause-conn : goal.returns-clause-conn
returns-clause-conn c = stood.conn_of c.args._session.now

pub returns-clause-sent : goal.returns-clause-sent
returns-clause-sent c = stood.sent_of c.args._session.now

pub returns-clause-store : goal.returns-clause-store
returns-clause-store c = stood.store_of c.args._session.now

pub returns-clause-state : goal.returns-clause-state
returns-clause-state c names pos is now s =
    let session = c.args._session.now in
    reported.begun_of session.config.limit names pos.was pos.old pos.read now (end_of session) (stood.conn_of session names pos is now s)

pub returns-clause-reason : goal.returns-clause-reason
returns-clause-reason c names pos is now s h =
    let session = c.args._session.now in
    reported.end_by session.config.limit names pos.was pos.old pos.read now (end_of session) (stood.conn_of session names pos is now s) h

pub returns-clause-ended : goal.returns-clause-ended
returns-clause-ended c = reported.ended_where c.args._session.now
