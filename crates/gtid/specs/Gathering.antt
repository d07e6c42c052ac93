-- Private: spans in the order of their beginnings.
use Rattle.std.specs.Prelude.{◌≡◌, ℕ, ◌≤◌, ◌⊎◌, List, [], ◌∷◌, map}
use Rattle.std.specs.List.{AllByRecursion}
use Rattle.std.specs.Ordering.{nat_cmp}
use Rattle.std.specs.declared.cmp.Ordering.TheVariants.{Less}
use Rattle.std.specs.Cmp.Lexicographic.{slice_cmp}
use Rattle.gtid.specs.Identifier.{Id}
use Rattle.gtid.specs.Group.{IsBelow}
use Rattle.gtid.specs.declared.interval.Interval.{Interval}
use Rattle.gtid.specs.declared.span.Span.{Span}

-- the GTID that a span begins with
abbrev pub start : Span → Id
start s = (s.source, s.lo)

-- The span is of a higher source, or of the same source and begins no earlier.
abbrev pub ComesAfter : List ℕ → ℕ → Span → Type 0
ComesAfter source lo s = (slice_cmp nat_cmp source s.source ≡ Less) ⊎ ((s.source ≡ source) × (lo ≤ s.lo))

-- each span follows those before it
abbrev pub SpansRise : List Span → Type 0
SpansRise [] = Unit {0}
SpansRise (s ∷ spans) = AllByRecursion (ComesAfter s.source s.lo) spans × SpansRise spans

abbrev pub span_sources : List Span → List (List ℕ)
span_sources = map (λ s. s.source)

-- each span is of a higher source
abbrev pub AreAbove : List ℕ → List Span → Type 0
AreAbove source spans = IsBelow source (span_sources spans)

abbrev pub interval_of : Span → Interval
interval_of s = record { lo = s.lo; hi = s.hi }

-- The first span is the source's, with this interval, and the rest are the spans after it.
abbrev pub IsFirst : List ℕ → List Span → Interval → List Span → Type 0
IsFirst source [] interval rest = ⊥
IsFirst source (s ∷ spans) interval rest = (s.source ≡ source) × (interval ≡ interval_of s) × (rest ≡ spans)

-- the first span, if there is one, is another source's
abbrev pub IsOtherSource : List ℕ → List Span → Type 0
IsOtherSource source [] = Unit {0}
IsOtherSource source (s ∷ spans) = s.source ≡ source → ⊥
