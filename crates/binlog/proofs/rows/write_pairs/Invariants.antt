use Rattle.binlog.proofs.Names.{kinds, owned_pairs, rows_bytes}
use Rattle.gtid.proofs.Appending.{Writes}
use Rattle.binlog.proofs.RowWriting.{rows_from}
use Rattle.binlog.proofs.rows.write_pairs.Given as goal

abbrev pub invariant-loop-pair : goal.invariant-loop-pair
invariant-loop-pair l = Writes l.fn.out l.out (rows_from (kinds l.types) l.pairs l.pair-index) (rows_bytes (kinds l.types) (owned_pairs l.pairs))
