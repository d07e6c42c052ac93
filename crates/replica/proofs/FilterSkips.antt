-- Changes of tables that the filter leaves out are skipped.
use Rattle.replica.proofs.Names.{◌≡◌, ℕ, inl, inr, ap, ap₂, cases_Bool, bytes_eq-Decides, Bool, true, false, List, [], ◌∷◌, ◌++◌, map, flat_map, refl, sym, subst, ◌∙◌, MatchBool, Names, admits, is_read, TableValue, ChangeValue, Bag, Content, IsMade, is_admitted, AreDone, HasOutcome, done, PartValue, ScriptValue, transaction}
use Rattle.std.proofs.Common.{◌&&◌, if◌then◌else◌}
use Rattle.std.specs.Str.{bytes_eq}
use Rattle.std.proofs.lemmas.Bool.{and_parts}
use Rattle.std.proofs.lemmas.List.Elements.{filter-append}
use Rattle.std.specs.FinSet as set
use Rattle.binlog.specs.Rows.{PairValue, inserted, deleted, updated}
use Rattle.binlog.proofs.TableSets.{all_read, not_read}
use Rattle.gather.specs.Transaction.{change_of}
use Rattle.replica.specs.Resume.{part_changes, is_change_of, table_changes}

-- a replica without a list reads all tables
pub all_changes : (part : PartValue) → part_changes set.empty part ≡ map (change_of part.table) part.pairs
all_changes part = rw (all_read part.table.schema part.table.table) refl

by_table : (names : Names) (t : TableValue) (pair : PairValue) → is_admitted names (change_of t pair) ≡ admits names t.schema t.table
by_table names t (inserted after) = refl
by_table names t (deleted before) = refl
by_table names t (updated before after) = refl

-- ---- Changes of a table that the filter leaves out.

passed : (names : Names) (t : TableValue) (pairs : List PairValue) (old new : Bag) → admits names t.schema t.table ≡ false → AreDone names (map (change_of t) pairs) old new → new ≡ old
passed names t [] old new other h = h
passed names t (pair ∷ pairs) old new other h =
    let mid : h.0 ≡ old = subst (λ (b : Bool). MatchBool b (IsMade (change_of t pair) old h.0) (h.0 ≡ old)) (by_table names t pair ∙ other) h.1 in
    passed names t pairs h.0 new other h.2 ∙ mid

passing : (names : Names) (t : TableValue) (pairs : List PairValue) (old : Bag) → admits names t.schema t.table ≡ false → AreDone names (map (change_of t) pairs) old old
passing names t [] old other = refl
passing names t (pair ∷ pairs) old other = (old, subst (λ (b : Bool). MatchBool b (IsMade (change_of t pair) old old) (old ≡ old)) (sym (by_table names t pair ∙ other)) refl, passing names t pairs old other)

-- ---- Changes in two parts.

pub record Halved (names : Names) (xs ys : List ChangeValue) (old new : Bag) : Type 0 where
  pub mid : Bag
  pub first : AreDone names xs old mid
  pub second : AreDone names ys mid new

halved : (names : Names) (xs ys : List ChangeValue) (old new : Bag) → AreDone names (xs ++ ys) old new → Halved names xs ys old new
halved names [] ys old new h = record { mid = old; first = refl; second = h }
halved names (x ∷ xs) ys old new h = let t = halved names xs ys h.0 new h.2 in record { mid = t.mid; first = (h.0, h.1, t.first); second = t.second }

both : (names : Names) (xs ys : List ChangeValue) (old mid new : Bag) → AreDone names xs old mid → AreDone names ys mid new → AreDone names (xs ++ ys) old new
both names [] ys old mid new a b = subst (λ m. AreDone names ys m new) a b
both names (x ∷ xs) ys old mid new a b = (a.0, a.1, both names xs ys a.0 mid new a.2 b)

-- ---- A part.

without : (names : Names) (part : PartValue) (read : Bool) (old new : Bag) → is_read names part.table.schema part.table.table ≡ read → AreDone names (map (change_of part.table) part.pairs) old new
    → AreDone names (if read then map (change_of part.table) part.pairs else []) old new
without names part true old new is h = h
without names part false old new is h = passed names part.table part.pairs old new (not_read names part.table.schema part.table.table is) h

within : (names : Names) (part : PartValue) (read : Bool) (old new : Bag) → is_read names part.table.schema part.table.table ≡ read
    → AreDone names (if read then map (change_of part.table) part.pairs else []) old new → AreDone names (map (change_of part.table) part.pairs) old new
within names part true old new is h = h
within names part false old new is h = subst (λ m. AreDone names (map (change_of part.table) part.pairs) old m) (sym h) (passing names part.table part.pairs old (not_read names part.table.schema part.table.table is))

-- ---- All parts.

parts_without : (names : Names) (parts : List PartValue) (old new : Bag) → AreDone names (flat_map (part_changes set.empty) parts) old new → AreDone names (flat_map (part_changes names) parts) old new
parts_without names [] old new h = h
parts_without names (part ∷ parts) old new h =
    let t = halved names (part_changes set.empty part) (flat_map (part_changes set.empty) parts) old new h in
    both names (part_changes names part) (flat_map (part_changes names) parts) old t.mid new
    (without names part (is_read names part.table.schema part.table.table) old t.mid refl (subst (λ l. AreDone names l old t.mid) (all_changes part) t.first))
    (parts_without names parts t.mid new t.second)

parts_within : (names : Names) (parts : List PartValue) (old new : Bag) → AreDone names (flat_map (part_changes names) parts) old new → AreDone names (flat_map (part_changes set.empty) parts) old new
parts_within names [] old new h = h
parts_within names (part ∷ parts) old new h =
    let t = halved names (part_changes names part) (flat_map (part_changes names) parts) old new h in
    both names (part_changes set.empty part) (flat_map (part_changes set.empty) parts) old t.mid new
    (subst (λ l. AreDone names l old t.mid) (sym (all_changes part)) (within names part (is_read names part.table.schema part.table.table) old t.mid refl t.first))
    (parts_within names parts t.mid new t.second)

pub whole_or_not : (names : Names) (script : ScriptValue) (old new : Content)
    → (HasOutcome names old (transaction set.empty script) (done new) → HasOutcome names old (transaction names script) (done new)) × (HasOutcome names old (transaction names script) (done new) → HasOutcome names old (transaction set.empty script) (done new))
whole_or_not names script old new = (
  (λ t. (t.0, parts_without names script.parts old.rows new.rows t.1, t.2)),
  (λ t. (t.0, parts_within names script.parts old.rows new.rows t.1, t.2)),
)

-- ---- The changes of one table.

mine : (schema table : List ℕ) (t : TableValue) (pair : PairValue) → is_change_of schema table (change_of t pair) ≡ (bytes_eq t.schema schema && bytes_eq t.table table)
mine schema table t (inserted after) = refl
mine schema table t (deleted before) = refl
mine schema table t (updated before after) = refl

none_of_it : (schema table : List ℕ) (t : TableValue) (pairs : List PairValue) → (bytes_eq t.schema schema && bytes_eq t.table table) ≡ false → table_changes schema table (map (change_of t) pairs) ≡ []
none_of_it schema table t [] other = refl
none_of_it schema table t (pair ∷ pairs) other =
    subst (λ (b : Bool). (if b then change_of t pair ∷ table_changes schema table (map (change_of t) pairs) else table_changes schema table (map (change_of t) pairs)) ≡ []) (sym (mine schema table t pair ∙ other))
    (none_of_it schema table t pairs other)

-- the part's table is the one, or another
is_it : (names : Names) (schema table : List ℕ) (t : TableValue) → (bytes_eq t.schema schema && bytes_eq t.table table) ≡ true → is_read names t.schema t.table ≡ is_read names schema table
is_it names schema table t is =
    let p = and_parts (bytes_eq t.schema schema) (bytes_eq t.table table) is in
    ap₂ (λ (s n : List ℕ). is_read names s n) ((bytes_eq-Decides t.schema schema).0 p.0) ((bytes_eq-Decides t.table table).0 p.1)

read_part : (names : Names) (schema table : List ℕ) (part : PartValue) → is_read names schema table ≡ true → table_changes schema table (part_changes names part) ≡ table_changes schema table (part_changes set.empty part)
read_part names schema table part read = elim (cases_Bool (bytes_eq part.table.schema schema && bytes_eq part.table.table table)) [
  | inl it ↦ ap (table_changes schema table) (ap (λ (b : Bool). if b then map (change_of part.table) part.pairs else []) (is_it names schema table part.table it ∙ read) ∙ sym (all_changes part))
  | inr other ↦ nothing_read (is_read names part.table.schema part.table.table) other ∙ sym (ap (table_changes schema table) (all_changes part) ∙ none_of_it schema table part.table part.pairs other)
]
  where
    nothing_read : (b : Bool) → (bytes_eq part.table.schema schema && bytes_eq part.table.table table) ≡ false → table_changes schema table (if b then map (change_of part.table) part.pairs else []) ≡ []
    nothing_read true other = none_of_it schema table part.table part.pairs other
    nothing_read false other = refl

unread_part : (names : Names) (schema table : List ℕ) (part : PartValue) → is_read names schema table ≡ false → table_changes schema table (part_changes names part) ≡ []
unread_part names schema table part unread = elim (cases_Bool (bytes_eq part.table.schema schema && bytes_eq part.table.table table)) [
  | inl it ↦ ap (table_changes schema table) (ap (λ (b : Bool). if b then map (change_of part.table) part.pairs else []) (is_it names schema table part.table it ∙ unread))
  | inr other ↦ nothing_unread (is_read names part.table.schema part.table.table) other
]
  where
    nothing_unread : (b : Bool) → (bytes_eq part.table.schema schema && bytes_eq part.table.table table) ≡ false → table_changes schema table (if b then map (change_of part.table) part.pairs else []) ≡ []
    nothing_unread true other = none_of_it schema table part.table part.pairs other
    nothing_unread false other = refl

pub read_parts : (names : Names) (schema table : List ℕ) (parts : List PartValue) → is_read names schema table ≡ true → table_changes schema table (flat_map (part_changes names) parts) ≡ table_changes schema table (flat_map (part_changes set.empty) parts)
read_parts names schema table [] read = refl
read_parts names schema table (part ∷ parts) read =
    filter-append (is_change_of schema table) (part_changes names part) (flat_map (part_changes names) parts)
    ∙ ap₂ (λ (a b : List ChangeValue). a ++ b) (read_part names schema table part read) (read_parts names schema table parts read)
    ∙ sym (filter-append (is_change_of schema table) (part_changes set.empty part) (flat_map (part_changes set.empty) parts))

pub unread_parts : (names : Names) (schema table : List ℕ) (parts : List PartValue) → is_read names schema table ≡ false → table_changes schema table (flat_map (part_changes names) parts) ≡ []
unread_parts names schema table [] unread = refl
unread_parts names schema table (part ∷ parts) unread =
    filter-append (is_change_of schema table) (part_changes names part) (flat_map (part_changes names) parts)
    ∙ ap₂ (λ (a b : List ChangeValue). a ++ b) (unread_part names schema table part unread) (unread_parts names schema table parts unread)
