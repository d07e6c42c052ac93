use Rattle.replica.proofs.session.Session.feed.Goals as goal

pub returns-clause-stands : goal.returns-clause-stands
returns-clause-stands g c = c.feed_observed.ensures.stands
