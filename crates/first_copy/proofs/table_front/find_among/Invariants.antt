use Rattle.first_copy.proofs.Names.{◌≡◌, ◌<◌, ℕ, Some, slice_get, DescribedTable}
use Rattle.columns.specs.Descriptions.{described_table, table_front, BeginsNot}
use Rattle.first_copy.proofs.table_front.find_among.Given as goal

abbrev pub invariant-loop-i : goal.invariant-loop-i
invariant-loop-i l = (place : ℕ) (table : DescribedTable) → place < l.i → slice_get l.tables place ≡ Some table → BeginsNot (table_front (described_table table)) l.line
