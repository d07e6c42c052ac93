-- Private: the tables of changes, by the tables of a description.
use Rattle.std.specs.Prelude.{ℕ, List, map}
use Rattle.std.specs.declared.rc.Rc.{Rc}
use Rattle.std.proofs.Common.{Global}
use Rattle.std.specs.String.{string_bytes}
use Rattle.binlog.specs.declared.body.table_map.TableDef.{TableDef}
use Rattle.columns.specs.declared.table.DescribedTable.{DescribedTable}

abbrev pub described_schemas : List DescribedTable → List (List ℕ)
described_schemas tables = map (λ table. string_bytes table.schema) tables

abbrev pub described_names : List DescribedTable → List (List ℕ)
described_names tables = map (λ table. string_bytes table.name) tables

abbrev pub defined_schemas : List (Rc TableDef Global) → List (List ℕ)
defined_schemas defs = map (λ def. def.value.schema.items) defs

abbrev pub defined_names : List (Rc TableDef Global) → List (List ℕ)
defined_names defs = map (λ def. def.value.table.items) defs
