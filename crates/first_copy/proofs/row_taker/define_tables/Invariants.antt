use Rattle.std.proofs.Common.{◌≡◌, take}
use Rattle.first_copy.specs.DefinedTables.{described_schemas, described_names, defined_schemas, defined_names}
use Rattle.first_copy.proofs.row_taker.define_tables.Given as goal

abbrev pub invariant-loop-table : goal.invariant-loop-table
invariant-loop-table l = record {
  schemas : defined_schemas l.defs.items ≡ described_schemas (take l.table-index l.tables);
  names : defined_names l.defs.items ≡ described_names (take l.table-index l.tables);
}
