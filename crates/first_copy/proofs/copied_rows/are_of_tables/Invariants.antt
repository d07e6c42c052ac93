use Rattle.first_copy.specs.Supplied.{AreOfTables}
use Rattle.first_copy.proofs.copied_rows.are_of_tables.Given as goal

abbrev pub invariant-loop-change : goal.invariant-loop-change
invariant-loop-change l = AreOfTables l.names l.change-iterator → AreOfTables l.names l.changes
