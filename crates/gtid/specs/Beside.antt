-- The neighbours of a number that is not in the set, and the set with that number.
use Rattle.std.specs.Prelude.{◌≡◌, ◌≢◌, ℕ, ◌+◌, ◌||◌, List, [], ◌∷◌, ◌++◌, map, Option, Some, None, nat_eq}
use Rattle.std.specs.Option.{option_map_or}
use Rattle.std.specs.FinSet as set
use Rattle.gtid.specs.Identifier.{Id, Ids}
use Rattle.gtid.specs.Interval.{has, AreLeast}
use Rattle.gtid.specs.Span.{IsLeast, IsLeastList}
use Rattle.gtid.specs.Spans.{span, spans_of}
use Rattle.gtid.specs.declared.beside.Beside.{Beside}
use Rattle.gtid.specs.declared.group.Group.{Group}
use Rattle.gtid.specs.declared.identifier.Gtid.{Gtid}
use Rattle.gtid.specs.declared.interval.Interval.{Interval}
use Rattle.gtid.specs.declared.span.Span.{Span}

-- an option as a list
abbrev pub one_or_none : {A : Type 0} → Option A → List A
one_or_none None = []
one_or_none (Some x) = x ∷ []

-- the number's span: from the lo of the neighbour below, or the number, up to the hi of the neighbour above, or the
-- number + 1
abbrev pub joined : Id → Option Span → Option Span → Span
joined q below above = record { source = q.0; lo = option_map_or (λ s. s.lo) below q.1; hi = option_map_or (λ s. s.hi) above (q.1 + 1) }

-- The spans are those in front, the neighbours of the number, and the rest; and the set with the number has those in
-- front, one span instead of the neighbours, and the rest.
pub record Joins (ids : Ids) (q : Id) (beside : Beside) (spans : List Span) : Type 0 where
  pub front : List Span
  pub rest : List Span
  pub spans_are : spans ≡ front ++ (one_or_none beside.below ++ (one_or_none beside.above ++ rest))
  pub joined_least : IsLeastList (front ++ joined q beside.below beside.above ∷ rest) (set.insert ids q)

-- as above, for the intervals of one source
abbrev pub joined_interval : ℕ → Option Interval → Option Interval → Interval
joined_interval number below above = record { lo = option_map_or (λ i. i.lo) below number; hi = option_map_or (λ i. i.hi) above (number + 1) }

pub record Touches (number : ℕ) (below above : Option Interval) (intervals : List Interval) : Type 0 where
  pub front : List Interval
  pub rest : List Interval
  pub intervals_are : intervals ≡ front ++ (one_or_none below ++ (one_or_none above ++ rest))
  pub least : AreLeast 0 (front ++ joined_interval number below above ∷ rest)
  pub adds : (n : ℕ) → has (front ++ joined_interval number below above ∷ rest) n ≡ (nat_eq n number || has intervals n)

-- The source's intervals among the spans of the groups. Other least intervals of the source may be in their place.
pub record Among (source : List ℕ) (intervals : List Interval) (groups : List Group) : Type 0 where
  pub front : List Span
  pub after : List Span
  pub spans_are : spans_of groups ≡ front ++ (map (span source) intervals ++ after)
  pub other_least : (others : List Interval) → AreLeast 0 others → others ≢ [] → IsLeast (front ++ (map (span source) others ++ after))

-- These are the neighbours of a GTID's number among the intervals of its source, which has some or none.
pub record TouchesAmong (gtid : Gtid) (below above : Option Interval) (groups : List Group) : Type 0 where
  pub intervals : List Interval
  pub least : AreLeast 0 intervals
  pub among : Among gtid.source intervals groups
  pub touches : Touches gtid.number below above intervals
