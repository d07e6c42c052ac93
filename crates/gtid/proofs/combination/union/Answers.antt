use Rattle.std.proofs.Common.{refl}
use Rattle.gtid.proofs.IntervalUnion.{IsFrom-least, joined_first, joined_on, joined_apart, joined_all}
use Rattle.gtid.proofs.combination.union.Goals as goal

pub loop-next-init : goal.loop-next-init
loop-next-init c =
    let f = c.in-Some.ensures.first 1 (IsFrom-least (record { left = c.args.left; right = c.args.right }) c.requires.left c.requires.right) in
    joined_first {m = record { left = c.args.left; right = c.args.right }} (record { after = f.0; some = f.1; in_range = f.2; from = f.3; same = c.in-Some.ensures.same }) refl refl c.in_ok-joined.ensures.items

pub loop-next-preserved-then-next-last : goal.loop-next-preserved-then-next-last
loop-next-preserved-then-next-last c =
    let j = c.loop-next.invariant in
    let f = c.in-Some-next.ensures.first c.loop-next.last.lo j.from in
    rw c.max.ensures (joined_on j (record { after = f.0; some = f.1; in_range = f.2; from = f.3; same = c.in-Some-next.ensures.same }) c.if-next-last.true)

pub loop-next-preserved : goal.loop-next-preserved
loop-next-preserved c =
    let j = c.loop-next.invariant in
    let f = c.in-Some-next.ensures.first c.loop-next.last.lo j.from in
    joined_apart j (record { after = f.0; some = f.1; in_range = f.2; from = f.3; same = c.in-Some-next.ensures.same }) c.if-next-last.false c.in_ok-push.ensures.items

pub returns-clause-least : goal.returns-clause-least
returns-clause-least c = (joined_all c.loop-next.invariant c.in_default-next.ensures.none c.in_ok-push-2.ensures.items).0

pub returns-clause-ok : goal.returns-clause-ok
returns-clause-ok c = (joined_all c.loop-next.invariant c.in_default-next.ensures.none c.in_ok-push-2.ensures.items).1
