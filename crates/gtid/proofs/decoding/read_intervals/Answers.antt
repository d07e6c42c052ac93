use Rattle.gtid.proofs.Names.{inr, arith, err_from_is_err_and}
use Rattle.gtid.proofs.BytesSoFar.{no_intervals, more_intervals, interval_faults, interval_first}
use Rattle.gtid.proofs.decoding.read_intervals.Goals as goal

pub loop-done-init : goal.loop-done-init
loop-done-init c = no_intervals c.new-intervals.result.items c.args.bytes.now c.new-intervals.ensures.items

pub returns-in_err-interval-clause-err : goal.returns-in_err-interval-clause-err
returns-in_err-interval-clause-err c =
    let p = err_from_is_err_and c.from_residual.result c.from_residual.ensures.1 in
    rw (p.1, p.2) (inr (interval_faults c.loop-done.intervals.items c.loop-done._done _ c.loop-done.after c.loop-done.rest.now _ _ c.loop-done.invariant c.loop-done-test.true c.in_err-interval.ensures.err))

pub loop-done-preserved : goal.loop-done-preserved
loop-done-preserved c =
    more_intervals c.loop-done.intervals.items c.push.new.self.items c.in_ok-interval.interval c.loop-done._done c.loop-done.after c.loop-done.rest.now c.in_ok-interval.beyond.now c.args.bytes.now
    c.loop-done.invariant c.in_ok-interval.ensures.above c.in_ok-interval.ensures.some c.in_ok-interval.ensures.in_range c.in_ok-interval.ensures.split c.in_ok-push.ensures.items

pub returns-clause-least : goal.returns-clause-least
returns-clause-least c = c.loop-done.invariant.least

pub returns-clause-count : goal.returns-clause-count
returns-clause-count c = omega (arith, c.loop-done.invariant.counted)

pub returns-clause-split : goal.returns-clause-split
returns-clause-split c = c.loop-done.invariant.split

pub returns-in_err-interval-clause-memory : goal.returns-in_err-interval-clause-memory
returns-in_err-interval-clause-memory c =
    let p = err_from_is_err_and c.from_residual.result c.from_residual.ensures.1 in
    rw (p.1, p.2) (λ memory. absurd (c.in_err-interval.ensures.no_memory memory))

pub returns-in_err-push-clause-memory : goal.returns-in_err-push-clause-memory
returns-in_err-push-clause-memory c =
    let first = interval_first c.loop-done.intervals.items c.in_ok-interval.interval c.loop-done._done c.loop-done.after c.loop-done.rest.now c.in_ok-interval.beyond.now c.args.bytes.now
    c.loop-done.invariant c.in_ok-interval.ensures.above c.in_ok-interval.ensures.some c.in_ok-interval.ensures.in_range c.in_ok-interval.ensures.split in
    rw (err_from_is_err_and c.from_residual-in_err-push.result c.from_residual-in_err-push.ensures.1).1 (λ memory. first)
