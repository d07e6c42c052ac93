use Rattle.std.proofs.Common.{refl, arith}
use Rattle.binlog.proofs.PlainRows.{of_ranges}
use Rattle.binlog.proofs.body.rows_event.RowsEvent.new.Goals as goal

pub returns-clause-in_range : goal.returns-clause-in_range
returns-clause-in_range c = (
  λ _. of_ranges c.args.id c.args.kind c.args.columns c.args.bytes.now (record {
    an_id = c.if-id.false;
    number = (c.if-columns-lt1.false, c.if-columns-gt-MOST_COLUMNS.false);
    size = omega (arith, c.if-bytes-bytes_at.false, c.count_width.ensures.width, c.presents_size.ensures.size);
  }),
  λ _. refl,
)
