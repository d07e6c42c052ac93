use Rattle.store.proofs.Names.{◌<◌, ◌^◌, [], map, w64, rules, to_z_pos, span_rows, stored_span}
use Rattle.sqlite.specs.Held.{state}
use Rattle.store.proofs.SpanRecord.{one_out}
use Rattle.store.proofs.table.spans.remove.Goals as goal

pub returns-clause-moves : goal.returns-clause-moves
returns-clause-moves g c clean was rest lists =
    let s = c.args.span in
    let short : s.lo < 2 ^ 63 = search rules in
    (rw (to_z_pos w64 s.lo short) at (c.drop_span.ensures.moves clean was)) (stored_span s) (map stored_span rest) (one_out [] s rest (span_rows (state g.S.Store c.args.tx.now.conn.now).now) lists)
