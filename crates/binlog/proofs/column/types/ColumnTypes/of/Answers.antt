use Rattle.std.proofs.lemmas.List.{length-map}
use Rattle.binlog.proofs.LawfulColumns.{lawful_kinds}
use Rattle.binlog.proofs.column.types.ColumnTypes.of.Goals as goal

pub invariant_of-result : goal.invariant_of-result
invariant_of-result c = (length-map c.args.types.now (λ t. t.kind), lawful_kinds c.args.types.now)
