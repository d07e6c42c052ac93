use Rattle.binlog.proofs.Names.{◌≤◌, length, arith, length-map, kinds, ColumnType}
use Rattle.binlog.proofs.RowsItems.{are_items}
use Rattle.binlog.proofs.rows.Rows.new.Goals as goal

pub returns : goal.returns
returns c =
    let columns = length-map c.args.types.now (λ (t : ColumnType). t.kind) in
    let some : 1 ≤ length (kinds c.args.types.now) = omega (arith, columns, c.requires.some_columns) in
    let all : length c.args.bytes.now ≤ length c.args.bytes.now = omega arith in
    are_items (length c.args.bytes.now) c.args.kind (kinds c.args.types.now) c.args.bytes.now c.args.at (λ i. omega (arith, c.type_inv.bytes i)) some all
