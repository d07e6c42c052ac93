use Rattle.binlog.proofs.Names.{kinds, owned_pairs}
use Rattle.binlog.proofs.RowBytes.{they_fit}
use Rattle.binlog.proofs.rows.write_rows.Goals as goal

pub rows_length-requires : goal.rows_length-requires
rows_length-requires c = they_fit c.args.kind (kinds c.args.types.now) (owned_pairs c.args.pairs.now) c.requires.bytes c.requires.are_rows

pub write_pairs-requires-clause-fit : goal.write_pairs-requires-clause-fit
write_pairs-requires-clause-fit c = they_fit c.args.kind (kinds c.args.types.now) (owned_pairs c.args.pairs.now) c.requires.bytes c.requires.are_rows
