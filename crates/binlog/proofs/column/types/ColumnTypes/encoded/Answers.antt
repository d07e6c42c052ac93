use Rattle.std.proofs.Common.{arith}
use Rattle.binlog.proofs.LawfulColumns.{lawful_columns}
use Rattle.binlog.proofs.column.types.ColumnTypes.encoded.Goals as goal

pub invariant_of-result : goal.invariant_of-result
invariant_of-result c = (c.requires, lawful_columns c.args.codes.now c.args.metadata.now (λ i. omega (arith, c.type_inv.metadata i)))
