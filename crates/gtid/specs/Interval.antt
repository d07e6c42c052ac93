-- The numbers of one source as intervals. MySQL Reference Manual, "GTID Format and Storage" (GTID sets); MySQL Source
-- Documentation, Replication Protocol, COM_BINLOG_DUMP_GTID, whose intervals end one past their last number.
use Rattle.std.specs.Prelude.{◌≡◌, ℕ, ◌+◌, ◌-◌, ◌⊎◌, ◌<◌, ◌≤◌, ◌^◌, ◌&&◌, Bool, true, false, List, [], ◌∷◌, length, slice_index_or, nat_le, nat_lt}
use Rattle.std.specs.List.{list_any, AllWithin}
use Rattle.std.proofs.Props.{props}
use Rattle.gtid.specs.declared.interval.Interval.{Interval}

-- whether the number is in the interval
abbrev pub is_within : ℕ → Interval → Bool
is_within n i = nat_le i.lo n && nat_lt n i.hi

-- whether the number is in one of the intervals
abbrev pub has : List Interval → ℕ → Bool
has intervals n = list_any (is_within n) intervals

-- The intervals ascend, with a gap before each, and none is empty. What comes before the first ends at `end`. No number
-- is above 2^63 - 2.
abbrev pub AreLeast : ℕ → List Interval → Type 0
AreLeast end [] = Unit {0}
AreLeast end (i ∷ intervals) = (end < i.lo) × (i.lo < i.hi) × (i.hi < 2 ^ 63) × AreLeast i.hi intervals

-- The first number is just below the second one, or just above.
abbrev pub IsNear : ℕ → ℕ → Type 0
IsNear near number = (near + 1 ≡ number) ⊎ (near ≡ number + 1)

-- One of the intervals has a number just below this one, or just above.
pub record HasNear (number : ℕ) (intervals : List Interval) : Type 0 where
  pub near : ℕ
  pub beside : IsNear near number
  pub there : has intervals near ≡ true

-- Adding the number to intervals of this length and capacity takes no memory.
abbrev pub TakesNoMemory : ℕ → ℕ → ℕ → List Interval → Type 0
TakesNoMemory number len capacity intervals = (len < capacity) ⊎ HasNear number intervals

-- The last interval's hi is the number or above.
abbrev pub LastReaches : List Interval → ℕ → Type 0
LastReaches intervals number = (1 ≤ length intervals) × ((d : Interval) → number ≤ (slice_index_or intervals (length intervals - 1) d).hi)

-- The number is in none of the intervals, and this many, which are those in front, have a hi below it.
pub record GoesAt (intervals : List Interval) (number at : ℕ) : Type 0 where
  pub within : at ≤ length intervals
  pub before : AllWithin (λ i. i.hi < number) intervals 0 at
  pub after : (d : Interval) → at < length intervals → number ≤ (slice_index_or intervals at d).hi
  pub new : has intervals number ≡ false

below-prop : {a b : ℕ} → IsProp (a < b)
below-prop = Prim.hlevel props

pub AreLeast-prop : (end : ℕ) (intervals : List Interval) → IsProp (AreLeast end intervals)
AreLeast-prop end [] = Prim.hlevel props
AreLeast-prop end (i ∷ intervals) = λ a b. λ k. (below-prop a.0 b.0 k, below-prop a.1 b.1 k, below-prop a.2 b.2 k, AreLeast-prop i.hi intervals a.3 b.3 k)
