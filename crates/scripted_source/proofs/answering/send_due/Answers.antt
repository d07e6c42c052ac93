use Rattle.scripted_source.proofs.Names.{sym, ◌∙◌, IfOk-from_err, err_from_is_err_and, script_values}
use Rattle.scripted_source.proofs.Packings.{going_begins, going_past, going_on, going_fault, going_ends}
use Rattle.scripted_source.proofs.answering.send_due.Goals as goal

pub loop-at-init : goal.loop-at-init
loop-at-init c = going_begins c.args.executed.now c.args.sequence c.args.out.now.items (script_values c.args.history.now)

pub returns-in_err-next-clause-ok : goal.returns-in_err-next-clause-ok
returns-in_err-next-clause-ok c = IfOk-from_err c.from_residual.result _ c.from_residual.ensures.0

pub returns-in_err-next-clause-can : goal.returns-in_err-next-clause-can
returns-in_err-next-clause-can c = IfOk-from_err c.from_residual.result _ c.from_residual.ensures.0

pub returns-in_err-next-clause-err : goal.returns-in_err-next-clause-err
returns-in_err-next-clause-err c =
    let p = err_from_is_err_and c.from_residual.result c.from_residual.ensures.1 in
    rw (p.1, p.2)
    (going_fault c.args.executed.now c.args.sequence c.loop-at.next c.args.out.now.items c.loop-at.out.items (script_values c.args.history.now) c.args.history.now c.loop-at.at c.index-history-at.result c.loop-at-test.true
    c.index-history-at.is c.loop-at.invariant c.in_err-next.field-0.0 (sym c.contains.ensures ∙ c.if-contains.false) c.in_err-next.ensures.err)

pub loop-at-preserved-then-contains : goal.loop-at-preserved-then-contains
loop-at-preserved-then-contains c =
    going_past c.args.executed.now c.args.sequence c.loop-at.next c.args.out.now.items c.loop-at.out.items (script_values c.args.history.now) c.args.history.now c.loop-at.at c.index-history-at.result c.loop-at-test.true
    c.index-history-at.is c.loop-at.invariant (sym c.contains.ensures ∙ c.if-contains.true)

pub loop-at-preserved : goal.loop-at-preserved
loop-at-preserved c =
    going_on c.args.executed.now c.args.sequence c.loop-at.next c.args.out.now.items c.loop-at.out.items (script_values c.args.history.now) c.args.history.now c.loop-at.at c.index-history-at.result c.loop-at-test.true
    c.index-history-at.is c.loop-at.invariant c.send_script.new.out.items c.in_ok-next.next (sym c.contains.ensures ∙ c.if-contains.false) c.in_ok-next.ensures.ok c.in_ok-next.ensures.can

pub returns-clause-ok : goal.returns-clause-ok
returns-clause-ok c =
    (going_ends c.args.executed.now c.args.sequence c.loop-at.next c.args.out.now.items c.loop-at.out.items (script_values c.args.history.now) c.args.history.now c.loop-at.at c.loop-at-test.false c.loop-at.invariant).sent

pub returns-clause-can : goal.returns-clause-can
returns-clause-can c =
    (going_ends c.args.executed.now c.args.sequence c.loop-at.next c.args.out.now.items c.loop-at.out.items (script_values c.args.history.now) c.args.history.now c.loop-at.at c.loop-at-test.false c.loop-at.invariant).can
