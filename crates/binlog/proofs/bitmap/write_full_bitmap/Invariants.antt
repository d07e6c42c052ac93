use Rattle.binlog.proofs.Names.{replicate, true, full_bitmap}
use Rattle.gtid.proofs.Appending.{Writes}
use Rattle.binlog.proofs.FullBitmap.{bytes_from}
use Rattle.binlog.proofs.bitmap.write_full_bitmap.Given as goal

abbrev pub invariant-loop-j : goal.invariant-loop-j
invariant-loop-j l = Writes l.fn.out l.out (bytes_from (replicate l.n true) l.j) (full_bitmap l.n)
