-- The groups of a set as spans.
use Rattle.std.specs.Prelude.{ℕ, List, ◌++◌, map, flat_map}
use Rattle.gtid.specs.declared.interval.Interval.{Interval}
use Rattle.gtid.specs.declared.group.Group.{Group}
use Rattle.gtid.specs.declared.span.Span.{Span}

abbrev pub span : List ℕ → Interval → Span
span source i = record { source = source; lo = i.lo; hi = i.hi }

abbrev pub spans_of_group : Group → List Span
spans_of_group g = map (span g.source) g.intervals.items

-- the spans of the groups, in order
abbrev pub spans_of : List Group → List Span
spans_of groups = flat_map spans_of_group groups

-- some intervals of a source, and then the groups after it
abbrev pub spans_left : List ℕ → List Interval → List Group → List Span
spans_left source intervals groups = map (span source) intervals ++ spans_of groups
