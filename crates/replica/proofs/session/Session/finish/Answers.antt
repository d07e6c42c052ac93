use Rattle.replica.proofs.Names.{subst, ap, unwrap_or, EndOfInput, Ended, Conn, BreaksStore}
use Rattle.replica.proofs.Positions.{conn_of, store_of}
use Rattle.replica.proofs.session.Session.finish.Goals as goal

pub returns-in-Some-clause-conn : goal.returns-in-Some-clause-conn
returns-in-Some-clause-conn c names pos is now s =
    subst (λ (e : Ended). Conn c.args.self.config.limit names pos.was pos.old pos.read now e) (ap (λ v. unwrap_or v (record { reason = EndOfInput; at = c.args.self.at; applied = c.args.self.applied })) c.in-Some.is)
    (conn_of c.args.self names pos is now s)

pub returns-in-Some-clause-store : goal.returns-in-Some-clause-store
returns-in-Some-clause-store c names pos is now s =
    subst (λ (e : Ended). BreaksStore e.reason pos.was is) (ap (λ v. unwrap_or v (record { reason = EndOfInput; at = c.args.self.at; applied = c.args.self.applied })) c.in-Some.is)
    (store_of c.args.self names pos is now s)

pub returns-clause-conn : goal.returns-clause-conn
returns-clause-conn c names pos is now s =
    subst (λ (e : Ended). Conn c.args.self.config.limit names pos.was pos.old pos.read now e) (ap (λ v. unwrap_or v (record { reason = EndOfInput; at = c.args.self.at; applied = c.args.self.applied })) c.in-None.is)
    (conn_of c.args.self names pos is now s)

pub returns-clause-store : goal.returns-clause-store
returns-clause-store c names pos is now s =
    subst (λ (e : Ended). BreaksStore e.reason pos.was is) (ap (λ v. unwrap_or v (record { reason = EndOfInput; at = c.args.self.at; applied = c.args.self.applied })) c.in-None.is)
    (store_of c.args.self names pos is now s)
