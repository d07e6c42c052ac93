use Rattle.std.proofs.Common.{◌<◌, arith, refl, ap}
use Rattle.gtid.proofs.Within.{got, got_none}
use Rattle.gtid.proofs.Neighbours.{touches_none, touches_above, touches_below, touches_gap}
use Rattle.gtid.proofs.interval.beside.Goals as goal

pub returns-in_default : goal.returns-in_default
returns-in_default c =
    let l = c.args.intervals.now in
    let past = got_none c.get.result refl c.get.ensures.lookup.3 c.in_default.ensures in
    (touches_none l c.args.at c.args.number c.requires.least c.requires.goes.within c.requires.number.0 c.requires.number.1 c.requires.goes.before (λ d h. absurd (omega (arith, past, h)))).0

pub returns-then-first-number : goal.returns-then-first-number
returns-then-first-number c =
    let l = c.args.intervals.now in
    let x = c.in-Some.first in
    let here = got c.get.result refl c.get.ensures.lookup.3 c.in-Some.ensures in
    (touches_below l c.args.at c.args.number x c.begins_at.result c.requires.least here.0 c.requires.number.1 (here.1 x) c.if-first-number.true c.begins_at.ensures.some c.begins_at.ensures.none).0

pub returns-then-first-number-2 : goal.returns-then-first-number-2
returns-then-first-number-2 c =
    let l = c.args.intervals.now in
    let x = c.in-Some.first in
    let here = got c.get.result refl c.get.ensures.lookup.3 c.in-Some.ensures in
    (touches_above l c.args.at c.args.number x c.requires.least here.0 c.requires.number.0 c.requires.goes.before (here.1 x) c.if-first-number-2.true).0

pub returns : goal.returns
returns c =
    let l = c.args.intervals.now in
    let at = c.args.at in
    let n = c.args.number in
    let x = c.in-Some.first in
    let here = got c.get.result refl c.get.ensures.lookup.3 c.in-Some.ensures in
    let after : n < x.hi = omega (arith, c.requires.goes.after x here.0, ap (λ i. i.hi) (here.1 x), c.if-first-number.false) in
    touches_gap l at n x c.requires.least here.0 c.requires.number.0 c.requires.number.1 c.requires.goes.before here.1 after c.if-first-number-2.false c.requires.goes.new
