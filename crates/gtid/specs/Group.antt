-- A set of GTIDs as the intervals of each source.
use Rattle.std.specs.Prelude.{◌≡◌, ℕ, ◌-◌, ◌<◌, ◌≤◌, length, take, drop, slice_index_or, ◌&&◌, ◌⊎◌, Bool, List, [], ◌∷◌, map, flat_map}
use Rattle.std.specs.List.{list_any, range_with_len, AllByRecursion}
use Rattle.std.specs.List.Sorted.{IsStrictlySortedBy}
use Rattle.std.specs.Str.{bytes_eq}
use Rattle.std.specs.Ordering.{nat_cmp}
use Rattle.std.specs.declared.cmp.Ordering.TheVariants.{Less}
use Rattle.std.specs.Cmp.Lexicographic.{slice_cmp}
use Rattle.std.specs.FinSet as set
use Rattle.gtid.specs.Identifier.{Id, Ids}
use Rattle.gtid.specs.Interval.{has}
use Rattle.gtid.specs.declared.interval.Interval.{Interval}
use Rattle.gtid.specs.declared.group.Group.{Group}

-- whether a GTID is in the group
abbrev pub is_of : Id → Group → Bool
is_of id g = bytes_eq id.0 g.source && has g.intervals.items id.1

-- whether a GTID is in one of the groups
abbrev pub is_listed : Id → List Group → Bool
is_listed id groups = list_any (is_of id) groups

abbrev pub ids_of_interval : List ℕ → Interval → List Id
ids_of_interval source i = map (λ n. (source, n)) (range_with_len i.lo (i.hi - i.lo))

abbrev pub ids_of_group : Group → List Id
ids_of_group g = flat_map (ids_of_interval g.source) g.intervals.items

-- the set that the groups stand for
unfoldable pub ids_of : List Group → Ids
ids_of groups = set.from_list (flat_map ids_of_group groups)

-- the sources ascend by their bytes
abbrev pub Ascend : List (List ℕ) → Type 0
Ascend = IsStrictlySortedBy (slice_cmp nat_cmp)

abbrev pub sources : List Group → List (List ℕ)
sources = map (λ g. g.source)

-- the source of the first group
abbrev pub IsNext : List ℕ → List Group → Type 0
IsNext source [] = ⊥
IsNext source (g ∷ groups) = g.source ≡ source

-- no group is before the source
abbrev pub IsNoHigher : List ℕ → List Group → Type 0
IsNoHigher source [] = Unit {0}
IsNoHigher source (g ∷ groups) = (slice_cmp nat_cmp source g.source ≡ Less) ⊎ (g.source ≡ source)

-- The first group is the source's, with these intervals and the rest after it; or it is not, and there are no
-- intervals.
abbrev pub Splits : List Group → List ℕ → List Interval → List Group → Type 0
Splits [] source intervals rest = (intervals ≡ []) × (rest ≡ [])
Splits (g ∷ groups) source intervals rest =
    ((g.source ≡ source) × (intervals ≡ g.intervals.items) × (rest ≡ groups)) ⊎ ((g.source ≡ source → ⊥) × (intervals ≡ []) × (rest ≡ g ∷ groups))

-- the source is below each of these
abbrev pub IsBelow : List ℕ → List (List ℕ) → Type 0
IsBelow s ss = AllByRecursion (λ t. slice_cmp nat_cmp s t ≡ Less) ss

-- each of the first is below each of the second
abbrev pub AreBelow : List (List ℕ) → List (List ℕ) → Type 0
AreBelow ss ts = AllByRecursion (λ s. IsBelow s ts) ss

-- the source's group is at this index
abbrev pub IsGroupAt : List ℕ → List Group → ℕ → Type 0
IsGroupAt source groups at = (at < length groups) × ((d : Group) → (slice_index_or groups at d).source ≡ source)

-- the source has no group, and its group would be inserted at this index
abbrev pub IsGap : List ℕ → List Group → ℕ → Type 0
IsGap source groups at = (at ≤ length groups) × AreBelow (sources (take at groups)) (source ∷ []) × IsBelow source (sources (drop at groups))
