-- Which faults each call reports, whatever the database is.
use Rattle.std.specs.Prelude.{Option, IsSome}
use Rattle.binlog.specs.Filter.{Names}
use Rattle.store.specs.declared.fault.StoreFault.{StoreFault}
use Rattle.store.specs.declared.fault.StoreFault.TheVariants.{NoSuchRow, CountFull, Database, Memory, Damaged, Layout, Broken, Follows}

-- Opening finds that the tables are damaged, of another layout, or made for other names than the given ones, or fails.
abbrev pub IsOpenFault : Option Names → StoreFault → Type 0
IsOpenFault wanted (Database e) = Unit {0}
IsOpenFault wanted Memory = Unit {0}
IsOpenFault wanted Damaged = Unit {0}
IsOpenFault wanted (Layout n) = Unit {0}
IsOpenFault wanted Follows = IsSome wanted
IsOpenFault wanted _ = ⊥

-- A transaction is refused at a change, or fails, or the store has failed before.
abbrev pub IsApplyFault : StoreFault → Type 0
IsApplyFault (NoSuchRow at) = Unit {0}
IsApplyFault (CountFull at) = Unit {0}
IsApplyFault (Database e) = Unit {0}
IsApplyFault Memory = Unit {0}
IsApplyFault Broken = Unit {0}
IsApplyFault _ = ⊥

-- Adopting fails, or the store has failed before.
abbrev pub IsAdoptFault : StoreFault → Type 0
IsAdoptFault (Database e) = Unit {0}
IsAdoptFault Memory = Unit {0}
IsAdoptFault Broken = Unit {0}
IsAdoptFault _ = ⊥

-- Reading fails, or the store has failed before.
abbrev pub IsReadFault : StoreFault → Type 0
IsReadFault (Database e) = Unit {0}
IsReadFault Broken = Unit {0}
IsReadFault _ = ⊥

-- A statement failed, or an allocation was refused.
abbrev pub IsFailure : StoreFault → Type 0
IsFailure (Database e) = Unit {0}
IsFailure Memory = Unit {0}
IsFailure _ = ⊥
