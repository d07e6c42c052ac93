-- Rows events and their pairs, apart from the memory that holds them.
use Rattle.std.specs.Prelude.{List, map, Result, Ok, Err}
use Rattle.binlog.specs.Cell.{owned_values}
use Rattle.binlog.specs.Rows.{RowsValue, PairValue, inserted, deleted, updated}
use Rattle.binlog.specs.declared.fault.EventFault.{EventFault}
use Rattle.binlog.specs.declared.body.rows_event.RowsEvent.{RowsEvent}
use Rattle.binlog.specs.declared.row_pair.RowPair.{RowPair}
use Rattle.binlog.specs.declared.row_pair.RowPair.TheVariants.{Insert, Delete, Update}
use Rattle.binlog.specs.declared.row_pair.OwnedPair.{OwnedPair}
use Rattle.binlog.specs.declared.row_pair.OwnedPair.TheVariants.{Insert as OwnInsert, Delete as OwnDelete, Update as OwnUpdate}

-- what a rows event says
abbrev pub rows_value : RowsEvent → RowsValue
rows_value e = record { id = e.id; kind = e.kind; columns = e.columns; bytes = e.bytes.now; columns_at = e.columns_at; bytes_at = e.bytes_at }

-- what a pair says
abbrev pub pair_value : RowPair → PairValue
pair_value (Insert after) = inserted after
pair_value (Delete before) = deleted before
pair_value (Update before after) = updated before after

-- what an item says: a pair or a fault
abbrev pub item_value : Result RowPair EventFault → Result PairValue EventFault
item_value (Ok pair) = Ok (pair_value pair)
item_value (Err fault) = Err fault

-- the value of a pair that owns its cells
abbrev pub owned_pair : OwnedPair → PairValue
owned_pair (OwnInsert after) = inserted (owned_values after.items)
owned_pair (OwnDelete before) = deleted (owned_values before.items)
owned_pair (OwnUpdate before after) = updated (owned_values before.items) (owned_values after.items)

abbrev pub owned_pairs : List OwnedPair → List PairValue
owned_pairs pairs = map owned_pair pairs
