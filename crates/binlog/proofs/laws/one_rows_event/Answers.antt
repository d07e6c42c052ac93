use Rattle.binlog.proofs.Names.{refl, IsBytes-all}
use Rattle.binlog.proofs.RowsHead as lemma
use Rattle.binlog.proofs.laws.one_rows_event.Goals as goal

pub returns-clause-some : goal.returns-clause-some
returns-clause-some c kind bytes all none =
    let fits = IsBytes-all bytes all in
    record { value = lemma.stated kind bytes; kind_is = refl; is_rows = lemma.is_rows kind bytes fits (lemma.parts_of kind bytes fits none) }

pub returns-clause-no_fault : goal.returns-clause-no_fault
returns-clause-no_fault c r bytes is = lemma.rows_not_refused r.kind bytes (lemma.rows_reported r bytes is).are

pub returns-clause-one : goal.returns-clause-one
returns-clause-one c = lemma.one_rows_event
