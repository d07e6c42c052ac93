use Rattle.wire.proofs.Cuts.{IsBytes-all}
use Rattle.binlog.proofs.Columns as lemma
use Rattle.binlog.proofs.laws.one_column.Goals as goal

pub returns-clause-some : goal.returns-clause-some
returns-clause-some c code bytes all none = lemma.some_column code bytes (IsBytes-all bytes all) none

pub returns-clause-no_fault : goal.returns-clause-no_fault
returns-clause-no_fault c = lemma.no_fault

pub returns-clause-one : goal.returns-clause-one
returns-clause-one c = lemma.one_column

pub returns-clause-size : goal.returns-clause-size
returns-clause-size c = lemma.lawful_size
