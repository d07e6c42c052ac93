-- What the crate's values mean, apart from the memory that holds them.
use Rattle.std.specs.Prelude.{List, [], ◌∷◌, Option, Some, None}
use Rattle.gather.specs.Transaction.{ChangeValue, insert, delete, update, DeliveryValue}
use Rattle.gather.specs.declared.transaction.Change.{Change}
use Rattle.gather.specs.declared.transaction.Change.TheVariants.{Insert, Delete, Update}
use Rattle.gather.specs.declared.transaction.Delivery.{Delivery}

-- what a change says
abbrev pub change_value : Change → ChangeValue
change_value (Insert table after) = insert table.now.value.schema.items table.now.value.table.items after
change_value (Delete table before) = delete table.now.value.schema.items table.now.value.table.items before
change_value (Update table before after) = update table.now.value.schema.items table.now.value.table.items before after

-- what a transaction says
abbrev pub delivery_value : Delivery → DeliveryValue
delivery_value d = record { source = d.gtid.source; number = d.gtid.number; changes = d.changes }

-- the transactions of an answer: one or none
abbrev pub delivered : Option Delivery → List DeliveryValue
delivered (Some d) = delivery_value d ∷ []
delivered None = []
