use Rattle.columns.proofs.Names.{◌≡◌, ◌++◌, List, ℕ, length, AllByRecursion, bytes_eq, HasSeen, ColumnValue, IsDescribedColumn, lines_text, column_values, column_names, AreDescribedColumns, BeginsNot}
use Rattle.std.specs.List.{IsDistinct}
use Rattle.columns.proofs.Ahead.{IsAhead}
use Rattle.columns.proofs.lines.read_columns.Given as goal

abbrev pub invariant-loop-line : goal.invariant-loop-line
invariant-loop-line l = record {
  text : l.text ≡ lines_text l.front (column_values l.columns.items) ++ l.left;
  each : AllByRecursion IsDescribedColumn (column_values l.columns.items);
  distinct : IsDistinct bytes_eq (column_names (column_values l.columns.items));
  seen : HasSeen l.seen.keys (column_names (column_values l.columns.items));
  ahead : (columns : List ColumnValue) (rest : List ℕ) → AreDescribedColumns columns → BeginsNot l.front rest → l.text ≡ lines_text l.front columns ++ rest → IsAhead l.front columns rest (column_values l.columns.items) l.left;
}

abbrev pub decreases-loop-line : goal.decreases-loop-line
decreases-loop-line l = length l.left
