use Rattle.binlog.proofs.Names.{length, kinds, owned_pairs, rows_bytes}
use Rattle.binlog.proofs.RowWriting.{rows_from}
use Rattle.gtid.proofs.Appending.{Sums}
use Rattle.binlog.proofs.rows.rows_length.Given as goal

abbrev pub invariant-loop-pair : goal.invariant-loop-pair
invariant-loop-pair l = Sums l.sum (length (rows_from (kinds l.types) l.pairs l.pair-index)) (length (rows_bytes (kinds l.types) (owned_pairs l.pairs)))
