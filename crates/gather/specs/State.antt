-- The state that a block has brought a gatherer to, and what the next event of a transaction does
-- there.
use Rattle.std.specs.Prelude.{◌≡◌, ◌⊎◌, true, false, List, [], ◌∷◌, ◌++◌}
use Rattle.binlog.specs.Rows.{RowsValue}
use Rattle.binlog.specs.Event.{EventValue, begin, gtid, rows}
use Rattle.gather.specs.Transaction.{DeliveryValue, map_of, IsAnnounced, IsOpen, IsBlock}
use Rattle.gather.specs.Fault.{is_announced, is_open, is_in_place, type_of, AddsTo, IsRowsFault}
use Rattle.gather.specs.OpenTransaction.{HasTaken}
use Rattle.gather.specs.declared.fault.GatherFault.{GatherFault}
use Rattle.gather.specs.declared.fault.GatherFault.TheVariants.{Misplaced, Memory}
use Rattle.gather.specs.declared.open_transaction.OpenTransaction.{OpenTransaction}
use Rattle.gather.specs.declared.state.State.{State}
use Rattle.gather.specs.declared.state.State.TheVariants.{Between, Announced, Inside}

-- The block has brought the gatherer to this state.
abbrev pub IsAt : List EventValue → State → Type 0
IsAt block Between = (is_announced block ≡ false) × (is_open block ≡ false)
IsAt block (Announced id) = block ≡ gtid id.source id.number ∷ []
IsAt block (Inside current) = (body : List EventValue) × (block ≡ gtid current.gtid.source current.gtid.number ∷ begin ∷ body) × HasTaken body current

-- The event continues a block that has begun, ends these transactions, one or none, and brings the gatherer to a new
-- state.
pub record Extends (block : List EventValue) (e : EventValue) (ds : List DeliveryValue) (after : State) : Type 0 where
  pub current : IsAnnounced block ⊎ IsOpen block
  pub is_block : IsBlock (block ++ e ∷ []) ds
  pub at : IsAt (block ++ e ∷ []) after

abbrev pub StepsTo : EventValue → State → State → List DeliveryValue → Type 0
StepsTo e before after ds = (block : List EventValue) → IsAt block before → Extends block e ds after

-- a transaction is open
abbrev pub IsInside : State → Type 0
IsInside state = (current : OpenTransaction) × (state ≡ Inside current)

-- A transaction is open, and the event adds to what is kept of it.
abbrev pub AddsInside : EventValue → State → Type 0
AddsInside e state = IsInside state × ((block : List EventValue) → IsAt block state → AddsTo block e)

-- The event is misplaced, or a rows event that cannot be read.
abbrev pub BreaksOff : List EventValue → EventValue → GatherFault → Type 0
BreaksOff block e fault =
    ((is_in_place block e ≡ false) × (fault ≡ Misplaced (type_of e)))
    ⊎ ((r : RowsValue) × (e ≡ rows r) × (is_open block ≡ true) × IsRowsFault (map_of block r.id) r fault)

abbrev pub FaultsAt : EventValue → State → GatherFault → Type 0
FaultsAt e before fault = (block : List EventValue) → IsAt block before → (fault ≡ Memory) ⊎ BreaksOff block e fault
