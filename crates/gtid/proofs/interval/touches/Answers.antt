use Rattle.gtid.proofs.Names.{◌<◌, length, arith, refl, AllWithin}
use Rattle.std.proofs.lemmas.Bool.{eqb-true, eqb-false}
use Rattle.gtid.proofs.Within.{got, got_none, near_last, near_alone, goes_before, near_below, near_above}
use Rattle.gtid.proofs.interval.touches.Goals as goal

pub returns-in_default-clause-apart : goal.returns-in_default-clause-apart
returns-in_default-clause-apart c none n beside =
    let l = c.args.intervals.now in
    let past = got_none c.get.result refl c.get.ensures.lookup.3 c.in_default.ensures in
    let before : AllWithin (λ i. i.hi < c.args.number) l 0 (length l) = λ k d low high. c.requires.goes.before k d low (omega (arith, high, past)) in
    near_last l n c.args.number c.requires.least before beside

pub returns-then-first-number-clause-beside : goal.returns-then-first-number-clause-beside
returns-then-first-number-clause-beside c told =
    let l = c.args.intervals.now in
    let x = c.in-Some.first in
    let here = got c.get.result refl c.get.ensures.lookup.3 c.in-Some.ensures in
    near_below l c.args.at c.args.number x c.requires.least here.0 (here.1 x) c.if-first-number.true

pub returns-clause-beside : goal.returns-clause-beside
returns-clause-beside c told =
    let l = c.args.intervals.now in
    let x = c.in-Some.first in
    let here = got c.get.result refl c.get.ensures.lookup.3 c.in-Some.ensures in
    near_above l c.args.at c.args.number x c.requires.least here.0 (here.1 x) (eqb-true _ _ told)

pub returns-clause-apart : goal.returns-clause-apart
returns-clause-apart c told n beside =
    let l = c.args.intervals.now in
    let x = c.in-Some.first in
    let here = got c.get.result refl c.get.ensures.lookup.3 c.in-Some.ensures in
    let gap = goes_before l c.args.at c.args.number x c.requires.least c.requires.goes here.0 (here.1 x) c.if-first-number.false (eqb-false _ _ told) in
    near_alone l c.args.at n c.args.number c.requires.least c.requires.goes.within c.requires.goes.before gap beside
