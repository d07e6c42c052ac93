use Rattle.gtid.proofs.SpanGroups.{joined_first, joined_on, joined_apart, joined_all}
use Rattle.gtid.proofs.gathering.join.Goals as goal

pub loop-next-init : goal.loop-next-init
loop-next-init c = joined_first c.args.first c.args.after.now c.requires.lawful c.requires.rise c.new-joined.ensures.items

pub loop-next-preserved-then-next-last : goal.loop-next-preserved-then-next-last
loop-next-preserved-then-next-last c =
    rw c.max.ensures (joined_on c.loop-next.left.now c.in-Some.next c.in-Some.others.now c.loop-next.invariant c.in-Some.ensures.some c.if-next-last.true)

pub loop-next-preserved : goal.loop-next-preserved
loop-next-preserved c = joined_apart c.loop-next.left.now c.in-Some.next c.in-Some.others.now c.loop-next.invariant c.in-Some.ensures.some c.if-next-last.false c.in_ok-push.ensures.items

pub returns-clause-listed : goal.returns-clause-listed
returns-clause-listed c = (joined_all c.loop-next.invariant c.in_default.ensures.none c.in_ok-push-2.ensures.items).same

pub returns-clause-above : goal.returns-clause-above
returns-clause-above c = (joined_all c.loop-next.invariant c.in_default.ensures.none c.in_ok-push-2.ensures.items).above

pub invariant_of-group-clause-least : goal.invariant_of-group-clause-least
invariant_of-group-clause-least c = (joined_all c.loop-next.invariant c.in_default.ensures.none c.in_ok-push-2.ensures.items).least

pub invariant_of-group-clause-some : goal.invariant_of-group-clause-some
invariant_of-group-clause-some c = (joined_all c.loop-next.invariant c.in_default.ensures.none c.in_ok-push-2.ensures.items).some
