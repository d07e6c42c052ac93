use Rattle.gtid.proofs.Names.{◌-◌, ltb, rules, arith, length, ap, inl, inr, cases_lt, get_or_default, Interval}
use Rattle.std.proofs.lemmas.List.Sorted.{IsPartitionPoint-from_clause, IsPartitionedBy-ltb}
use Rattle.gtid.proofs.Within.{ends_ascend, apart, point_at}
use Rattle.gtid.proofs.interval.place_within.Goals as goal

pub returns-then-intervals-last-clause-before : goal.returns-then-intervals-last-clause-before
returns-then-intervals-last-clause-before c k d low high =
    let l = c.args.intervals.now in
    let same = ap (λ i. i.lo) (get_or_default l (length l - 1) d (record { lo = 0; hi = 0 }) (omega arith)) in
    let gap = apart 0 l k (length l - 1) d c.requires.least high (omega arith) in
    omega (arith, same, gap)

pub returns-clause-within : goal.returns-clause-within
returns-clause-within c =
    let l = c.args.intervals.now in
    let n = c.args.number in
    let i = c.partition_point.result in
    let p = point_at l i n (IsPartitionPoint-from_clause (λ i. ltb i.hi n) l i c.partition_point.ensures.partitioned (IsPartitionedBy-ltb (λ i. i.hi) l n (ends_ascend l c.requires.least)) (λ a r f k. search rules)) in
    elim (cases_lt i (length l)) [
      | inl within ↦ within
      | inr past ↦ (
          let d : Interval = record { lo = 0; hi = 0 } in
          let early = p.0 (length l - 1) d (omega arith) (omega arith) in
          absurd (omega (arith, early, c.requires.reaches.1 d)))
    ]

pub returns-clause-before : goal.returns-clause-before
returns-clause-before c =
    let l = c.args.intervals.now in
    let n = c.args.number in
    (point_at l c.partition_point.result n (IsPartitionPoint-from_clause (λ i. ltb i.hi n) l c.partition_point.result c.partition_point.ensures.partitioned (IsPartitionedBy-ltb (λ i. i.hi) l n (ends_ascend l c.requires.least)) (λ a r f k. search rules))).0

pub returns-clause-after : goal.returns-clause-after
returns-clause-after c =
    let l = c.args.intervals.now in
    let n = c.args.number in
    (point_at l c.partition_point.result n (IsPartitionPoint-from_clause (λ i. ltb i.hi n) l c.partition_point.result c.partition_point.ensures.partitioned (IsPartitionedBy-ltb (λ i. i.hi) l n (ends_ascend l c.requires.least)) (λ a r f k. search rules))).1
