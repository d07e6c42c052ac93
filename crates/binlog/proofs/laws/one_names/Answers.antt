use Rattle.wire.proofs.Cuts.{IsBytes-all}
use Rattle.binlog.proofs.TableNames as lemma
use Rattle.binlog.proofs.laws.one_names.Goals as goal

pub returns-clause-some : goal.returns-clause-some
returns-clause-some c bytes all none = lemma.has_names bytes (IsBytes-all bytes all) none

pub returns-clause-no_fault : goal.returns-clause-no_fault
returns-clause-no_fault c = lemma.names_not_refused

pub returns-clause-one : goal.returns-clause-one
returns-clause-one c = lemma.one_name
