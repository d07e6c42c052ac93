use Rattle.binlog.proofs.RowBytes as lemma
use Rattle.binlog.proofs.laws.written_rows.Goals as goal

pub returns : goal.returns
returns c kind types pairs have = lemma.are_written kind types pairs (lemma.they_fit kind types pairs have.bytes have.are_rows)
