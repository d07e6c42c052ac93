use Rattle.gtid.proofs.Names.{inr, arith, err_from_is_err_and}
use Rattle.gtid.proofs.BytesSoFar.{faults_too_short, no_groups_read, more_groups, groups_fault, all_groups, group_first, group_read, has_first}
use Rattle.gtid.proofs.decoding.read_groups.Goals as goal

pub returns-in_default-clause-err : goal.returns-in_default-clause-err
returns-in_default-clause-err c = inr (faults_too_short c.args.bytes.now c.in_default.ensures.none)

pub loop-done-init : goal.loop-done-init
loop-done-init c = no_groups_read c.new-groups.result.items c.in-Some.beyond.now c.new-groups.ensures.items

pub returns-in_err-group-clause-err : goal.returns-in_err-group-clause-err
returns-in_err-group-clause-err c =
    let p = err_from_is_err_and c.from_residual.result c.from_residual.ensures.1 in
    rw (p.1, p.2)
    (groups_fault c.loop-done.groups.items c.loop-done._done c.in-Some.count c.loop-done.before c.loop-done.rest.now c.in-Some.beyond.now c.args.bytes.now _ c.loop-done.invariant c.loop-done-test.true (omega arith) c.in-Some.ensures.split
    c.in_err-group.ensures.err)

pub loop-done-preserved : goal.loop-done-preserved
loop-done-preserved c =
    more_groups c.loop-done.groups.items c.push.new.self.items c.in_ok-group.group c.loop-done._done c.loop-done.before c.loop-done.rest.now c.in_ok-group.after.now c.in-Some.beyond.now c.loop-done.invariant
    c.in_ok-group.ensures.lawful c.in_ok-group.ensures.split c.in_ok-push.ensures.items

pub returns-clause-lawful : goal.returns-clause-lawful
returns-clause-lawful c = c.loop-done.invariant.lawful

pub returns-clause-split : goal.returns-clause-split
returns-clause-split c = all_groups c.loop-done.groups.items c.loop-done._done c.in-Some.count c.loop-done.before c.loop-done.rest.now c.in-Some.beyond.now c.args.bytes.now c.loop-done.invariant (omega arith) c.in-Some.ensures.split

pub returns-in_err-group-clause-memory : goal.returns-in_err-group-clause-memory
returns-in_err-group-clause-memory c =
    let p = err_from_is_err_and c.from_residual.result c.from_residual.ensures.1 in
    rw (p.1, p.2) (λ memory. has_first c.in-Some.count c.in-Some.beyond.now c.args.bytes.now (omega (arith, c.loop-done-test.true)) c.in-Some.ensures.split
    (group_first c.loop-done.groups.items c.loop-done._done c.loop-done.before c.loop-done.rest.now c.in-Some.beyond.now c.loop-done.invariant (c.in_err-group.ensures.memory memory)))

pub returns-in_err-push-clause-memory : goal.returns-in_err-push-clause-memory
returns-in_err-push-clause-memory c =
    let first = has_first c.in-Some.count c.in-Some.beyond.now c.args.bytes.now (omega (arith, c.loop-done-test.true)) c.in-Some.ensures.split
    (group_read c.loop-done.groups.items c.in_ok-group.group c.loop-done._done c.loop-done.before c.loop-done.rest.now c.in_ok-group.after.now c.in-Some.beyond.now c.loop-done.invariant
    c.in_ok-group.ensures.lawful c.in_ok-group.ensures.split) in
    rw (err_from_is_err_and c.from_residual-in_err-push.result c.from_residual-in_err-push.ensures.1).1 (λ memory. first)
