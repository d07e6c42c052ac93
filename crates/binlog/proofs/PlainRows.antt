-- Rows events without extra data and with the shortest count.
use Rattle.binlog.proofs.Names.{ℕ, ◌+◌, ◌<◌, ◌≤◌, ◌^◌, List, length, refl, arith, length_encoded, presents_size, IsWritable, RowsKind}
use Rattle.binlog.specs.Event.{rows}
use Rattle.binlog.specs.Writing.{plain_rows}
use Rattle.binlog.proofs.TableMapBytes.{spelled}
use Rattle.binlog.proofs.RowsEventBytes.{spells, has_by_width}
use Rattle.binlog.proofs.EventBytes.{writes_rows}

pub record Ranges (id : ℕ) (kind : RowsKind) (columns : ℕ) (bytes : List ℕ) : Type 0 where
  pub an_id : id < 2 ^ 48
  pub number : (1 ≤ columns) × (columns ≤ 4096)
  pub size : 29 + length (length_encoded columns) + presents_size kind columns + length bytes < 2 ^ 32

pub of_ranges : (id : ℕ) (kind : RowsKind) (columns : ℕ) (bytes : List ℕ) → Ranges id kind columns bytes → IsWritable (rows (plain_rows id kind columns bytes))
of_ranges id kind columns bytes are =
    let r = plain_rows id kind columns bytes in
    let short = spelled columns (omega (arith, are.number.1)) in
    writes_rows r are.size (has_by_width r (length (length_encoded columns)) are.an_id are.number (omega arith, omega arith) refl (spells columns (length_encoded columns) short.is))
