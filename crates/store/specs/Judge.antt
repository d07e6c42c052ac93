-- Private: facts about rows that are read one after the other.
use Rattle.std.specs.Prelude.{◌≡◌, ◌++◌, ◌+◌, ◌<ℤ◌, Bool, true, false, not, ◌&&◌, ℤ, List, [], ◌∷◌, map, filter, codes, Option, None, Some, MatchBool}
use Rattle.std.specs.List.{AllByRecursion}
use Rattle.sqlite_value.specs.declared.value.Value.{Value}
use Rattle.sqlite_value.specs.declared.value.Value.TheVariants.{Int}
use Rattle.sqlite_value.specs.Order.{Row, column}
use Rattle.sqlite_trees.specs.Tree.{rowid}
use Rattle.gtid.specs.Identifier.{Id}
use Rattle.gtid.specs.declared.span.Span.{Span}
use Rattle.store.specs.declared.table.meta.Meta.{Meta}
use Rattle.store.specs.declared.table.held.Verdict.{Verdict}
use Rattle.store.specs.declared.table.held.Verdict.TheVariants.{Lawful, Unordered, Unlawful}
use Rattle.store.specs.Rows.{span_from, is_text, touches, IsMetaRow, IsHeldRow, HasRowids}

-- the span of one GTID
abbrev pub span_of_id : Id → Span
span_of_id q = span_from q.0 q.1 (q.1 + 1)

-- The rowid is above the last one, if there is one.
abbrev pub IsAfter : Option ℤ → ℤ → Type 0
IsAfter None id = Unit {0}
IsAfter (Some last) id = last <ℤ id

-- the rowids are integers and ascend
abbrev pub RowidsRise : Option ℤ → List Row → Type 0
RowidsRise last [] = Unit {0}
RowidsRise last (row ∷ rows) = (id : ℤ) × (rowid row ≡ Int id) × IsAfter last id × RowidsRise (Some id) rows

-- What the verdict says of rows of held: all are lawful, and their rowids ascend up to the last one; or one is not lawful. Of rows that
-- are not in order it says nothing.
abbrev pub HasVerdict : Verdict → List Row → Type 0
HasVerdict (Lawful last) rows = AllByRecursion IsHeldRow rows × ((more : List Row) → RowidsRise last more → RowidsRise None (rows ++ more))
HasVerdict Unordered rows = Unit {0}
HasVerdict Unlawful rows = ¬ AllByRecursion IsHeldRow rows

-- The row is in order after the last rowid, if there is one, and its own is the last one now.
abbrev pub HasOrder : Option ℤ → Row → Verdict → Type 0
HasOrder last row (Lawful None) = ⊥
HasOrder last row (Lawful (Some id)) = (rowid row ≡ Int id) × IsAfter last id
HasOrder last row Unordered = Unit {0}
HasOrder last row Unlawful = ⊥

-- the values with the key `layout`
abbrev pub layouts : List Row → List Value
layouts rows = map (λ row. column row 2) (filter (λ row. is_text (codes "layout") (column row 1)) rows)

-- the only value is this number, or there is no such number
abbrev pub IsOnly : List Value → Option ℤ → Type 0
IsOnly values None = (n : ℤ) → ¬ (values ≡ Int n ∷ [])
IsOnly values (Some n) = values ≡ Int n ∷ []

-- What the rows of meta say: the only number with the key `layout`, and whether they are lawful. Their rowids are apart.
pub record IsMeta (rows : List Row) (meta : Meta) : Type 0 where
  pub layout : IsOnly (layouts rows) meta.layout
  pub lawful : MatchBool meta.lawful (AllByRecursion IsMetaRow rows) (¬ AllByRecursion IsMetaRow rows)
  pub apart : HasRowids rows

-- what has been found so far
abbrev pub found_values : Option ℤ → List Value
found_values None = []
found_values (Some n) = Int n ∷ []

-- whether the span touches or overlaps the last one, if there is one
abbrev pub touches_last : Option Span → Span → Bool
touches_last None s = false
touches_last (Some last) s = touches last s

-- whether no two consecutive spans touch or overlap
abbrev pub apart_from : Option Span → List Span → Bool
apart_from last [] = true
apart_from last (s ∷ spans) = not (touches_last last s) && apart_from (Some s) spans
