use Rattle.gtid.proofs.Names.{◌-◌, arith, length, ap, leb-false, get_or_default}
use Rattle.gtid.proofs.Within.{ends_ascend}
use Rattle.gtid.proofs.interval.reaches.Goals as goal

pub returns-in-len1-up-clause-before : goal.returns-in-len1-up-clause-before
returns-in-len1-up-clause-before c = λ e k d low high.
    let l = c.args.intervals.now in
    let last = leb-false _ _ e in
    let same = ap (λ i. i.hi) (get_or_default l (length l - 1) d (record { lo = 0; hi = 0 }) (omega arith)) in
    let ascend = ends_ascend l c.requires k (length l - 1) d (omega arith) (omega arith) in
    omega (arith, last, same, ascend)
