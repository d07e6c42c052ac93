use Rattle.std.proofs.Common.{◌∙◌, [], arith, ap, sym}
use Rattle.gtid.proofs.GroupLookUp.{any_default}
use Rattle.gtid.proofs.Around.{among_at, among_gap}
use Rattle.gtid.proofs.Neighbours.{touches_none}
use Rattle.gtid.proofs.groups.beside.Goals as goal

pub beside-requires-clause-goes : goal.beside-requires-clause-goes
beside-requires-clause-goes c =
    let fits = rw c.in-Within.is at c.requires.room in
    rw (sym c.deref.ensures.value) at (rw (sym c.index.ensures) at (fits.goes c.index.result.now))

pub returns-in-Within : goal.returns-in-Within
returns-in-Within c =
    let groups = c.args.groups.now.items in
    let g = c.index.result.now in
    let there = (rw c.in-Within.is at c.requires.room).there in
    let at = any_default groups c.in-Within.at g there.0 c.index.ensures in
    record {
      intervals = c.deref.result.now;
      least = rw (sym c.deref.ensures.value) at g.least;
      among = among_at groups c.in-Within.at g c.args.gtid.source c.deref.result.now c.requires.ascend there.0 at (ap (λ x. x.source) (sym (at g)) ∙ there.1 g) c.deref.ensures.value;
      touches = c.beside.ensures;
    }

pub returns-in-Before : goal.returns-in-Before
returns-in-Before c =
    let fits = rw c.in-Before.is at c.requires.room in
    record {
      intervals = [];
      least = tt;
      among = among_gap c.args.groups.now.items c.in-Before.field-0 c.args.gtid.source c.requires.ascend fits.gap;
      touches = (touches_none [] 0 c.args.gtid.number tt (omega arith) c.args.gtid.at_least_one c.args.gtid.at_most (λ k d low high. absurd (omega arith)) (λ d h. absurd (omega arith))).0;
    }
