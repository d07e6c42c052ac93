use Rattle.scripted_source.proofs.Names.{refl, inl, false≢true, IfOk-from_err, err_from_is_err_and, part_value}
use Rattle.scripted_source.proofs.Packings.{if_appends, map_fault, if_rows_fault, can_send}
use Rattle.scripted_source.proofs.sending.send_part.Goals as goal

pub returns-in_err-next-clause-ok : goal.returns-in_err-next-clause-ok
returns-in_err-next-clause-ok c = IfOk-from_err c.from_residual.result _ c.from_residual.ensures.0

pub returns-in_err-next-clause-can : goal.returns-in_err-next-clause-can
returns-in_err-next-clause-can c = IfOk-from_err c.from_residual.result _ c.from_residual.ensures.0

pub returns-in_err-next-clause-err : goal.returns-in_err-next-clause-err
returns-in_err-next-clause-err c =
    let p = err_from_is_err_and c.from_residual.result c.from_residual.ensures.1 in
    rw (p.1, p.2) (map_fault c.args.at (part_value c.args.part.now) c.in_err-next.field-0.0 (c.if-not-fits.ensures.0 refl) c.in_err-next.ensures.err)

pub send_map-requires : goal.send_map-requires
send_map-requires c = c.if-not-fits.ensures.0 refl

pub returns-clause-ok : goal.returns-clause-ok
returns-clause-ok c = if_appends c.send_rows.result c.args.sequence _ _ _ _ _ c.in_ok-next.next c.in_ok-next.ensures.ok c.send_rows.ensures.ok

pub returns-clause-can : goal.returns-clause-can
returns-clause-can c = can_send c.send_rows.result (part_value c.args.part.now) (c.if-not-fits.ensures.0 refl) c.in_ok-next.ensures.short c.send_rows.ensures.event c.send_rows.ensures.short

pub returns-clause-err : goal.returns-clause-err
returns-clause-err c = if_rows_fault c.send_rows.result c.args.at (part_value c.args.part.now) (c.if-not-fits.ensures.0 refl) c.send_rows.ensures.err

pub returns-then-not-fits-clause-err : goal.returns-then-not-fits-clause-err
returns-then-not-fits-clause-err c = inl (refl, λ fits. false≢true (c.if-not-fits.ensures.1 fits))
