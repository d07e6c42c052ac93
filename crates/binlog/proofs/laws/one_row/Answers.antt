use Rattle.binlog.proofs.Names.{row_cells, IsBytes-all}
use Rattle.binlog.proofs.RowCells as lemma
use Rattle.binlog.proofs.RowEnds.{row_stops, row_stopped}
use Rattle.binlog.proofs.laws.one_row.Goals as goal

pub returns-clause-some : goal.returns-clause-some
returns-clause-some c types bytes end all is = let there = lemma.row_is_there types bytes end (IsBytes-all bytes all) is in record { cells = row_cells types bytes; within = there.0; is_row = there.1 }

pub returns-clause-whole : goal.returns-clause-whole
returns-clause-whole c types cells first rest is = (lemma.row_is_read types cells first rest is).0

pub returns-clause-early : goal.returns-clause-early
returns-clause-early c types bytes place all is = row_stops types bytes place (IsBytes-all bytes all) is

pub returns-clause-ends : goal.returns-clause-ends
returns-clause-ends c = row_stopped

pub returns-clause-one : goal.returns-clause-one
returns-clause-one c = lemma.one_row
