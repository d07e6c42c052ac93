use Rattle.binlog.proofs.Names.{map, is_null, owned_values}
use Rattle.binlog.specs.RowsWritten.{bitmap_bytes}
use Rattle.gtid.proofs.Appending.{Writes}
use Rattle.binlog.proofs.FullBitmap.{bytes_from}
use Rattle.binlog.proofs.bitmap.write_bitmap.Given as goal

abbrev pub invariant-loop-i : goal.invariant-loop-i
invariant-loop-i l =
    let bits = map is_null (owned_values l.cells) in
    Writes l.fn.out l.out (bytes_from bits l.i) (bitmap_bytes bits)
