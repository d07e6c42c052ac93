use Rattle.gtid.proofs.Names.{◌∙◌, get_or, length, sym, arith, get_or_default, Interval}
use Rattle.gtid.proofs.Within.{has_at, has_nowhere, ends_at, is_after, weaker}
use Rattle.gtid.proofs.interval.place.Goals as goal

pub returns-then-not-reaches-clause-some : goal.returns-then-not-reaches-clause-some
returns-then-not-reaches-clause-some c =
    let l = c.args.intervals.now in
    let front = c.reaches.ensures.before c.if-not-reaches.true in
    record { within = omega arith; before = front; after = λ d h. absurd (omega arith); new = sym (has_nowhere l c.args.number (weaker l (length l) c.args.number front)) }

pub returns-then-next-number-clause-some : goal.returns-then-next-number-clause-some
returns-then-next-number-clause-some c =
    let l = c.args.intervals.now in
    let n = c.args.number in
    let p = c.place_within-at in
    let x : Interval = get_or l p.result (record { lo = 0; hi = 0 }) in
    let front = p.ensures.before in
    let within = p.ensures.within in
    record {
      within = omega arith;
      before = front;
      after = λ d h. p.ensures.after p.result d (omega arith) h;
      new = ends_at l p.result n x c.requires (weaker l p.result n front) within (get_or_default l p.result (record { lo = 0; hi = 0 }) x within) c.if-next-number.true;
    }

pub returns-clause-some : goal.returns-clause-some
returns-clause-some c =
    let l = c.args.intervals.now in
    let n = c.args.number in
    let p = c.place_within-at in
    let x : Interval = get_or l p.result (record { lo = 0; hi = 0 }) in
    let front = p.ensures.before in
    let within = p.ensures.within in
    let after = p.ensures.after p.result (record { lo = 0; hi = 0 }) (omega arith) within in
    record {
      within = omega arith;
      before = front;
      after = λ d h. p.ensures.after p.result d (omega arith) h;
      new = sym (has_at l p.result n x c.requires (weaker l p.result n front) within (get_or_default l p.result (record { lo = 0; hi = 0 }) x within) (omega (arith, after, c.if-next-number.false))) ∙ is_after x.lo n c.if-next-number-2.false;
    }
