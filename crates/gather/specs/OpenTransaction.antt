-- What is kept of an open transaction: one that has begun, and has not ended.
use Rattle.std.specs.Prelude.{◌≡◌, ℕ, List, [], ◌++◌, map, Option}
use Rattle.std.specs.Option.{option_map}
use Rattle.std.specs.Ordering.{nat_cmp}
use Rattle.std.specs.BTreeMap.{get}
use Rattle.std.specs.declared.alloc.Global.{Global}
use Rattle.std.specs.declared.rc.Rc.{Rc}
use Rattle.binlog.specs.Table.{TableValue}
use Rattle.binlog.specs.Row.{kinds}
use Rattle.binlog.specs.Rows.{RowsValue, PairValue, inserted, deleted, updated}
use Rattle.binlog.specs.Event.{EventValue}
use Rattle.binlog.specs.declared.body.table_map.TableDef.{TableDef}
use Rattle.gather.specs.Image.{HasImage}
use Rattle.gather.specs.Transaction.{ChangeValue, map_of, change_of, IsReadBy, AreChanges}
use Rattle.gather.specs.declared.open_transaction.OpenTransaction.{OpenTransaction}

-- the table of a table map with this number
abbrev pub table_of : ℕ → Rc TableDef Global → TableValue
table_of id t = record { id = id; schema = t.value.schema.items; table = t.value.table.items; columns = kinds t.value.types.items }

-- what is kept of a table map with this number
abbrev pub said : ℕ → Option (Rc TableDef Global) → Option TableValue
said id kept = option_map (table_of id) kept

-- The rows of a pair have images.
abbrev pub HasImages : PairValue → Type 0
HasImages (inserted after) = HasImage after
HasImages (deleted before) = HasImage before
HasImages (updated before after) = HasImage before × HasImage after

-- The changes are those from before, and then those of a rows event of the table.
pub record AppendsChanges (t : TableValue) (r : RowsValue) (before after : List ChangeValue) : Type 0 where
  pub pairs : List PairValue
  pub read : IsReadBy t r pairs
  pub after_is : after ≡ before ++ map (change_of t) pairs

-- These events have come after BEGIN.
pub record HasTaken (body : List EventValue) (current : OpenTransaction) : Type 0 where
  pub maps : (id : ℕ) → option_map (said id) (get nat_cmp current.maps id) ≡ map_of body id
  pub changes : AreChanges [] body current.changes
