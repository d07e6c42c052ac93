use Rattle.gather.proofs.Names.{length, ap, Err, ⊎_elim, inr, arith, cases_eq, err_from_is_err_and, rows_value}
use Rattle.binlog.specs.RowsView.{pair_value}
use Rattle.gather.proofs.RowItems.{walk_begins, walk_more, walk_ends, walk_faults, walk_first, walk_images, other_columns, ok_not_err}
use Rattle.gather.proofs.row_changes.push_changes.Goals as goal

pub returns-in_err-pair-items-clause-fault : goal.returns-in_err-pair-items-clause-fault
returns-in_err-pair-items-clause-fault c = λ id.
    let p = err_from_is_err_and c.from_residual.result c.from_residual.ensures.1 in
    let e = c.in_err-pair-items.ensures in
    let columns = rw c.deref.ensures at e.columns in
    rw (p.1, p.2) (inr (other_columns c.args.table.now (rows_value c.args.event.now) c.in_err-pair-items.field-0.0 e.only (columns.0 (ap Err e.only)) id))

pub loop-pair-init : goal.loop-pair-init
loop-pair-init c =
    let e = c.in_ok-pair-items.ensures in
    let columns = rw c.deref.ensures at e.columns in
    let items = rw c.deref.ensures at e.items in
    let same = ⊎_elim (λ s. s) (λ ne. absurd (ok_not_err _ _ (columns.1 ne))) (cases_eq (length c.args.table.now.value.types.items) c.args.event.now.columns) in
    rw c.into_iter-pair-iterator.ensures.into_iter_gives (walk_begins c.args.table.now (rows_value c.args.event.now) c.in_ok-pair-items.pair-items c.args.changes.now same items)

pub returns-in_err-pair-clause-fault : goal.returns-in_err-pair-clause-fault
returns-in_err-pair-clause-fault c = λ id.
    let p = err_from_is_err_and c.from_residual-in_err-pair.result c.from_residual-in_err-pair.ensures.1 in
    let w = rw (c.in-Some.ensures.steps, c.in_err-pair.was) at c.loop-pair.invariant in
    rw (p.1, p.2) (inr (walk_faults c.args.table.now (rows_value c.args.event.now) c.in_err-pair.field-0.0 c.next.new.self c.args.changes.now c.loop-pair.changes w id))

pub push-requires : goal.push-requires
push-requires c =
    walk_images c.args.table.now (rows_value c.args.event.now) (pair_value c.in_ok-pair.field-0) c.next.new.self c.args.changes.now c.loop-pair.changes
    (rw (c.in-Some.ensures.steps, c.in_ok-pair.was) at c.loop-pair.invariant) c.args.event.now.few_columns (omega (arith, c.args.event.now.in_event))

pub loop-pair-preserved : goal.loop-pair-preserved
loop-pair-preserved c =
    walk_more c.args.table.now (rows_value c.args.event.now) (pair_value c.in_ok-pair.field-0) c.next.new.self c.args.changes.now c.loop-pair.changes c.push.new.self
    (rw (c.in-Some.ensures.steps, c.in_ok-pair.was) at c.loop-pair.invariant) c.in_ok-push.ensures.ok

pub returns-clause-ok : goal.returns-clause-ok
returns-clause-ok c = walk_ends c.args.table.now (rows_value c.args.event.now) c.args.changes.now c.loop-pair.changes (rw c.in-None.ensures.steps.0 at c.loop-pair.invariant)

pub returns-in_err-pair-items-clause-memory : goal.returns-in_err-pair-items-clause-memory
returns-in_err-pair-items-clause-memory c = λ id.
    let p = err_from_is_err_and c.from_residual.result c.from_residual.ensures.1 in
    rw (p.1, p.2) (λ wanted. absurd cc)

pub returns-in_err-pair-clause-memory : goal.returns-in_err-pair-clause-memory
returns-in_err-pair-clause-memory c = λ id.
    let p = err_from_is_err_and c.from_residual-in_err-pair.result c.from_residual-in_err-pair.ensures.1 in
    rw (p.1, p.2) (λ wanted. absurd cc)

pub returns-in_err-push-clause-memory : goal.returns-in_err-push-clause-memory
returns-in_err-push-clause-memory c = λ id.
    let p = err_from_is_err_and c.from_residual-in_err-push.result c.from_residual-in_err-push.ensures.1 in
    let w = rw (c.in-Some.ensures.steps, c.in_ok-pair.was) at c.loop-pair.invariant in
    rw p.1 (λ wanted. walk_first c.args.table.now (rows_value c.args.event.now) (pair_value c.in_ok-pair.field-0) c.next.new.self c.args.changes.now c.loop-pair.changes w id)
