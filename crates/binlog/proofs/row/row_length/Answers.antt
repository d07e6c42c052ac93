use Rattle.binlog.proofs.Names.{map, arith, length-append, is_null, owned_values, kinds, values_bytes}
use Rattle.binlog.specs.RowsWritten.{bitmap_bytes}
use Rattle.binlog.proofs.RowWriting.{as_many, bitmap_long}
use Rattle.binlog.proofs.row.row_length.Goals as goal

pub values_length-requires-clause-as_many : goal.values_length-requires-clause-as_many
values_length-requires-clause-as_many c = as_many c.args.types.now c.args.cells.now c.requires

pub returns : goal.returns
returns c =
    let cells = owned_values c.args.cells.now in
    omega (arith, c.saturating_add.ensures, c.values_length.ensures, c.div_ceil-bitmap.ensures, bitmap_long c.args.cells.now, length-append (bitmap_bytes (map is_null cells)) (values_bytes (kinds c.args.types.now) cells))
