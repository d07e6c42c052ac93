use Rattle.std.proofs.Common.{◌<◌, ltb, rules, arith, length, ◌≤◌, subst, sym}
use Rattle.std.proofs.lemmas.List.Sorted.{IsPartitionPoint-from_clause, IsPartitionedBy-ltb}
use Rattle.gtid.proofs.Within.{ends_ascend, point_at, holds_all, begins_first, ends_later}
use Rattle.gtid.proofs.interval.lies_in.Goals as goal

pub returns-in-Some : goal.returns-in-Some
returns-in-Some c =
    let x = c.args.interval in
    let of = c.args.of.now in
    let at = c.partition_point-at.result in
    let other = c.in-Some.other.now in
    let split = point_at of at x.hi (IsPartitionPoint-from_clause (λ i. ltb i.hi x.hi) of at c.partition_point-at.ensures.partitioned (IsPartitionedBy-ltb (λ i. i.hi) of x.hi (ends_ascend of c.requires.of)) (λ a r f k. search rules)) in
    let found = c.in-Some.ensures.lookup in
    let within : at < length of = omega (arith, found.3) in
    let ends : x.hi ≤ other.hi = subst (λ i. x.hi ≤ i.hi) (sym found.1) (split.1 at other (omega arith) within) in
    (holds_all of at x other within found.1 ends, begins_first of at x other c.requires.of split.0 within found.1 c.requires.some)

pub returns-in-None : goal.returns-in-None
returns-in-None c =
    let x = c.args.interval in
    let of = c.args.of.now in
    let at = c.partition_point-at.result in
    let split = point_at of at x.hi (IsPartitionPoint-from_clause (λ i. ltb i.hi x.hi) of at c.partition_point-at.ensures.partitioned (IsPartitionedBy-ltb (λ i. i.hi) of x.hi (ends_ascend of c.requires.of)) (λ a r f k. search rules)) in
    let past = c.in-None.ensures.lookup in
    (λ e. cc, λ all. absurd (ends_later of at x c.requires.of split.0 (omega (arith, past.3)) c.requires.some all))
