-- Sets of GTIDs as intervals. MySQL Reference Manual, "GTID Format and Storage" (GTID sets); MySQL Source
-- Documentation, Replication Protocol, COM_BINLOG_DUMP_GTID, whose intervals end one past their last number.
use Rattle.std.specs.Prelude.{◌≡◌, ◌<◌, ◌≤◌, ◌^◌, ◌⊎◌, ◌&&◌, Bool, List, [], ◌∷◌, nat_le, nat_lt}
use Rattle.std.specs.List.{list_any}
use Rattle.std.specs.Str.{bytes_eq}
use Rattle.std.specs.declared.cmp.Ordering.TheVariants.{Less}
use Rattle.std.specs.Ordering.{nat_cmp}
use Rattle.std.specs.Cmp.Lexicographic.{slice_cmp}
use Rattle.std.specs.FinSet as set
use Rattle.gtid.specs.Identifier.{Id, Ids}
use Rattle.gtid.specs.declared.span.Span.{Span}

-- A span with at least one number, and none outside 1 to 2 ^ 63 - 2.
abbrev pub IsLawfulSpan : Span → Type 0
IsLawfulSpan s = (1 ≤ s.lo) × (s.lo < s.hi) × (s.hi < 2 ^ 63)

-- whether the GTID is in the span
abbrev pub is_in : Id → Span → Bool
is_in id span = bytes_eq id.0 span.source && (nat_le span.lo id.1 && nat_lt id.1 span.hi)

-- The set has what is in some span of the list, and nothing else.
abbrev pub Covers : List Span → Ids → Type 0
Covers spans ids = (id : Id) → set.contains ids id ≡ list_any (is_in id) spans

-- a lower source, or the same source with a gap between the spans
abbrev pub IsBefore : Span → Span → Type 0
IsBefore a b = (slice_cmp nat_cmp a.source b.source ≡ Less) ⊎ ((a.source ≡ b.source) × (a.hi < b.lo))

-- No span is empty, they ascend by source and then by number, and no two of a source overlap or touch.
abbrev pub IsLeast : List Span → Type 0
IsLeast [] = Unit {0}
IsLeast (a ∷ []) = a.lo < a.hi
IsLeast (a ∷ b ∷ spans) = (a.lo < a.hi) × IsBefore a b × IsLeast (b ∷ spans)

-- The least intervals of a set, in order.
pub record IsLeastList (spans : List Span) (ids : Ids) : Type 0 where
  pub least : IsLeast spans
  pub covers : Covers spans ids

-- The set has a list of least intervals.
pub record HasLeastList (ids : Ids) : Type 0 where
  pub spans : List Span
  pub is_least : IsLeastList spans ids
