-- Private: room for one more GTID.
use Rattle.std.specs.Prelude.{◌≡◌, ℕ, ◌<◌, nat_eq, length, List, slice_index_or, vec_len, vec_capacity}
use Rattle.gtid.specs.Interval.{has, GoesAt, TakesNoMemory}
use Rattle.gtid.specs.Group.{IsGroupAt, IsGap}
use Rattle.gtid.specs.declared.identifier.Gtid.{Gtid}
use Rattle.gtid.specs.declared.group.Group.{Group}
use Rattle.gtid.specs.declared.groups.Place.{Place}
use Rattle.gtid.specs.declared.groups.Place.TheVariants.{Within, Before}

-- Adding the number to the group takes no memory.
abbrev pub TakesNoMemoryIn : ℕ → Group → Type 0
TakesNoMemoryIn number g = TakesNoMemory number (vec_len g.intervals) (vec_capacity g.intervals) g.intervals.items

-- The group of the GTID's source is at this index, its number goes to this place in it, and adding it there needs no
-- memory.
pub record FitsWithin (gtid : Gtid) (groups : List Group) (at place : ℕ) : Type 0 where
  pub there : IsGroupAt gtid.source groups at
  pub goes : (d : Group) → GoesAt (slice_index_or groups at d).intervals.items gtid.number place
  pub room : (d : Group) → TakesNoMemoryIn gtid.number (slice_index_or groups at d)

-- The source has no group, `group` is that of the GTID alone, and one more group needs no memory.
pub record FitsBefore (gtid : Gtid) (groups : List Group) (capacity at : ℕ) (group : Group) : Type 0 where
  pub gap : IsGap gtid.source groups at
  pub room : length groups < capacity
  pub source : group.source ≡ gtid.source
  pub numbers : (n : ℕ) → has group.intervals.items n ≡ nat_eq n gtid.number

-- Adding the GTID there needs no memory.
abbrev pub HasRoom : Gtid → List Group → ℕ → Place → Type 0
HasRoom gtid groups capacity (Within at place) = FitsWithin gtid groups at place
HasRoom gtid groups capacity (Before at group) = FitsBefore gtid groups capacity at group
