use Rattle.columns.proofs.Names.{◌≡◌, ◌++◌, List, length, AllByRecursion, bytes_eq, HasSeen, DescribedTableValue, described_tables, table_names, description_text, IsTable, AreTables}
use Rattle.std.specs.List.{IsDistinct}
use Rattle.columns.proofs.TablesAhead.{AreAhead}
use Rattle.columns.proofs.description.read_tables.Given as goal

abbrev pub invariant-loop-left : goal.invariant-loop-left
invariant-loop-left l = record {
  text : l.text ≡ description_text (described_tables l.tables.items) ++ l.left;
  each : AllByRecursion IsTable (described_tables l.tables.items);
  distinct : IsDistinct bytes_eq (table_names (described_tables l.tables.items));
  seen : HasSeen l.seen.keys (table_names (described_tables l.tables.items));
  ahead : (tables : List DescribedTableValue) → AreTables tables → l.text ≡ description_text tables → AreAhead tables (described_tables l.tables.items) l.left;
}

abbrev pub decreases-loop-left : goal.decreases-loop-left
decreases-loop-left l = length l.left
