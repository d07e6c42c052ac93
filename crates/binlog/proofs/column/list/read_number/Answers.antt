use Rattle.binlog.proofs.Names.{Some, ap, sym, ◌∙◌, arith, err_from_is_err_and}
use Rattle.binlog.proofs.TableColumns.{no_number, wrong_number}
use Rattle.binlog.proofs.column.list.read_number.Goals as goal

pub returns-in_err-columns-clause-fault : goal.returns-in_err-columns-clause-fault
returns-in_err-columns-clause-fault c =
    let p = err_from_is_err_and c.from_residual.result c.from_residual.ensures.1 in
    rw (p.1, p.2) (no_number c.args.bytes.now c.args.at _ c.in_err-columns.ensures.fault)

pub returns-then-columns-lt1-clause-fault : goal.returns-then-columns-lt1-clause-fault
returns-then-columns-lt1-clause-fault c =
    wrong_number c.args.bytes.now c.args.at c.in_ok-columns.columns c.in_ok-columns.ensures.whole c.in_ok-columns.ensures.value.0 (λ some few. omega (arith, some, few))
    ∙ ap Some (sym c.new.ensures)

pub returns-then-columns-clause-fault : goal.returns-then-columns-clause-fault
returns-then-columns-clause-fault c =
    wrong_number c.args.bytes.now c.args.at c.in_ok-columns.columns c.in_ok-columns.ensures.whole c.in_ok-columns.ensures.value.0 (λ some few. omega (arith, some, few))
    ∙ ap Some (sym c.new-then-columns.ensures)
