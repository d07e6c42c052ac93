use Rattle.binlog.proofs.Names.{length, items_of, IsBytes-all}
use Rattle.binlog.proofs.RowsItems as lemma
use Rattle.binlog.proofs.laws.one_list_of_rows.Goals as goal

pub returns-clause-one : goal.returns-clause-one
returns-clause-one c = lemma.one_list

pub returns-clause-not_both : goal.returns-clause-not_both
returns-clause-not_both c = lemma.whole_or_early

pub returns-clause-one_end : goal.returns-clause-one_end
returns-clause-one_end c = lemma.one_end

pub returns-clause-some : goal.returns-clause-some
returns-clause-some c kind types bytes at all some = record { items = items_of (length bytes) kind types bytes at; are = lemma.some_items kind types bytes at (IsBytes-all bytes all) some }

pub returns-clause-items : goal.returns-clause-items
returns-clause-items c = lemma.one_items
