use Rattle.gather.proofs.Names.{Err, sym, ◌∙◌, err_from_is_err_and, rows_value}
use Rattle.gather.proofs.States.{rows_break_off, rows_add}
use Rattle.gather.proofs.state.take_rows.Goals as goal

pub returns-in_err-take_rows-in-Inside-clause-fault : goal.returns-in_err-take_rows-in-Inside-clause-fault
returns-in_err-take_rows-in-Inside-clause-fault c =
    let p = err_from_is_err_and c.from_residual.result c.from_residual.ensures.1 in
    let e = c.in_err-take_rows-in-Inside in
    rw (p.1, p.2) (rows_break_off {T = Unit {0}} c.in-Inside.current (rows_value c.args.event.now) c.args.state.now (Err e.field-0.0) c.in-Inside.is e.ensures.fault)

pub returns-in_err-take_rows-in-Inside-clause-memory : goal.returns-in_err-take_rows-in-Inside-clause-memory
returns-in_err-take_rows-in-Inside-clause-memory c =
    let p = err_from_is_err_and c.from_residual.result c.from_residual.ensures.1 in
    let e = c.in_err-take_rows-in-Inside in
    rw p.1 (λ wanted. rows_add c.in-Inside.current (rows_value c.args.event.now) c.args.state.now c.in-Inside.is (λ body keeps. e.ensures.memory body keeps (sym p.2 ∙ wanted)))
