use Rattle.binlog.proofs.Names.{arith, rows_value}
use Rattle.binlog.specs.Writing.{rows_body}
use Rattle.binlog.proofs.RowsEventBytes.{suits, rows_written, rows_end}
use Rattle.binlog.proofs.body.rows.rows_event_length.Goals as goal

pub returns : goal.returns
returns c =
    let r = rows_value c.args.rows.now in
    let s = suits r c.requires in
    let long = rows_end r (rows_body r) (rows_written r c.requires) in
    omega (arith, long, s.place, s.extra)
