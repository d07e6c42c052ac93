use Rattle.binlog.proofs.Names.{map, type_code}
use Rattle.gtid.proofs.Appending.{Writes}
use Rattle.binlog.proofs.column.list.write_codes.Given as goal

abbrev pub invariant-loop-column : goal.invariant-loop-column
invariant-loop-column l = Writes l.fn.out l.out (map type_code l.column-iterator) (map type_code l.columns)
