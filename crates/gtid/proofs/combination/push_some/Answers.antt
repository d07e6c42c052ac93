use Rattle.gtid.proofs.IntervalUnion.{before_more, before_push}
use Rattle.gtid.proofs.combination.push_some.Goals as goal

pub returns-in_ok-push-clause-least : goal.returns-in_ok-push-clause-least
returns-in_ok-push-clause-least c = λ before after le on ends least.
    rw c.in_ok-push.ensures.items (before_push 0 c.args.lo c.args.hi after _ (before_more 0 before c.args.lo _ least le) c.if-lo-hi.true c.requires (ends c.if-lo-hi.true))

pub returns-else-lo-hi-clause-least : goal.returns-else-lo-hi-clause-least
returns-else-lo-hi-clause-least c = λ before after le on ends least. before_more 0 before after _ least on
