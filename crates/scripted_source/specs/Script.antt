-- Transactions to be sent, apart from the memory that holds them, and their events. MySQL Source Documentation, Binlog
-- Event: binary_log::Gtid_event, Query_event (BEGIN and COMMIT), Table_map_event, Rows_event and Xid_event.
use Rattle.std.specs.Prelude.{ℕ, List, [], ◌∷◌, ◌++◌, length, map, flat_map}
use Rattle.binlog.specs.Row.{kinds}
use Rattle.binlog.specs.Table.{TableValue}
use Rattle.binlog.specs.Rows.{RowsValue, PairValue}
use Rattle.binlog.specs.RowsView.{owned_pairs}
use Rattle.binlog.specs.RowsWritten.{rows_bytes}
use Rattle.binlog.specs.Writing.{plain_rows}
use Rattle.binlog.specs.Event.{EventValue, gtid, begin, commit, table_map, rows, xid}
use Rattle.binlog.specs.declared.body.rows_event.RowsKind.{RowsKind}
use Rattle.scripted_source.specs.declared.script.Ending.{Ending}
use Rattle.scripted_source.specs.declared.script.Ending.TheVariants.{Xid, Commit}
use Rattle.scripted_source.specs.declared.script.Part.{Part}
use Rattle.scripted_source.specs.declared.script.Script.{Script}

-- a table, and the changes of its rows
pub record PartValue : Type 0 where
  pub table : TableValue
  pub kind : RowsKind
  pub pairs : List PairValue

pub record ScriptValue : Type 0 where
  pub source : List ℕ
  pub number : ℕ
  pub parts : List PartValue
  pub ending : Ending

-- the value of a part
abbrev pub part_value : Part → PartValue
part_value part = record {
  table = record { id = part.id; schema = part.table.schema.items; table = part.table.table.items; columns = kinds part.table.types.items };
  kind = part.kind;
  pairs = owned_pairs part.pairs.items;
}

abbrev pub part_values : List Part → List PartValue
part_values parts = map part_value parts

-- the value of a script
abbrev pub script_value : Script → ScriptValue
script_value script = record { source = script.gtid.source; number = script.gtid.number; parts = part_values script.parts.items; ending = script.ending }

abbrev pub script_values : List Script → List ScriptValue
script_values scripts = map script_value scripts

-- ---- Events.

-- the rows event of a part
abbrev pub rows_of : PartValue → RowsValue
rows_of part = plain_rows part.table.id part.kind (length part.table.columns) (rows_bytes part.table.columns part.pairs)

abbrev pub part_events : PartValue → List EventValue
part_events part = table_map part.table ∷ rows (rows_of part) ∷ []

abbrev pub end_event : Ending → ℕ → EventValue
end_event Xid number = xid number
end_event Commit number = commit

-- the GTID, BEGIN, a table map and a rows event for each part, and the end
abbrev pub script_events : ScriptValue → List EventValue
script_events script = gtid script.source script.number ∷ begin ∷ (flat_map part_events script.parts ++ end_event script.ending script.number ∷ [])
