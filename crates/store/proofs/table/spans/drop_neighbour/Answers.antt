use Rattle.store.proofs.Names.{◌<◌, ◌^◌, ◌∷◌, ◌++◌, map, w64, arith, to_z_pos, IsLawfulSpan, span_rows, stored_span, AreRowsOf}
use Rattle.sqlite.specs.Held.{state}
use Rattle.store.proofs.SpanRecord.{one_out}
use Rattle.store.proofs.table.spans.drop_neighbour.Goals as goal

pub returns-clause-moves : goal.returns-clause-moves
returns-clause-moves g c clean was front rest lists =
    let s = c.in-Some.span in
    let rows = span_rows (state g.S.Store c.args.tx.now.conn.now).now in
    let there : AreRowsOf rows (front ++ s ∷ rest) = rw c.in-Some.is at lists in
    let short : s.lo < 2 ^ 63 = let l : IsLawfulSpan s = rw c.in-Some.is at c.requires in omega (arith, l.1, l.2) in
    (rw (to_z_pos w64 s.lo short) at (c.in_ok-drop_span.ensures.moves clean was)) (stored_span s) (map stored_span (front ++ rest)) (one_out front s rest rows there)
