use Rattle.std.proofs.Common.{sym, ◌∙◌}
use Rattle.std.proofs.lemmas.List.{at_drop_all}
use Rattle.mrep.specs.Reason.{first_status}
use Rattle.mrep.proofs.Statuses.{first_met, first_passed}
use Rattle.mrep.proofs.report.status.first_status.Goals as goal

pub returns-then-status-ne-DONE-clause-status : goal.returns-then-status-ne-DONE-clause-status
returns-then-status-ne-DONE-clause-status c =
    first_met c.args.ends.now c.loop-end.end-index c.end-item.result c.status_of-status.result c.loop-end-test.true c.end-item.is c.loop-end.invariant c.status_of-status.ensures.status c.if-status-ne-DONE.true

pub loop-end-preserved : goal.loop-end-preserved
loop-end-preserved c =
    first_passed c.args.ends.now c.loop-end.end-index c.end-item.result c.status_of-status.result c.loop-end-test.true c.end-item.is c.loop-end.invariant c.status_of-status.ensures.status c.if-status-ne-DONE.false

pub returns-clause-status : goal.returns-clause-status
unfolding first_status
returns-clause-status c = sym (c.loop-end.invariant ∙ at_drop_all first_status c.args.ends.now c.loop-end.end-index c.loop-end-test.false)
