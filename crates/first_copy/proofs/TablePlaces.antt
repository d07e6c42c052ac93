-- The table whose names stand at the front of a line.
use Rattle.first_copy.proofs.Names.{◌≡◌, ◌≢◌, ℕ, suc, ◌+◌, ◌<◌, ◌≤◌, Bool, true, false, List, [], ◌∷◌, ◌++◌, length, Some, slice_get, get_or, inl, inr, refl, ap, sym, subst, ◌∙◌, arith, bytes_eq, slice_get_read, DescribedTable, IsRowFault, RowFault, Column, AreFields, CellValue}
use Rattle.std.proofs.Common.{zero, ◌==◌, eq-eqb}
use Rattle.std.specs.List.{AllByRecursion, IsDistinct}
use Rattle.std.specs.Cmp.Lexicographic.{other_text}
use Rattle.std.proofs.Math.Logic.{∥∥₁_elim}
use Rattle.std.proofs.lemmas.Bool.{eqb-true}
use Rattle.std.proofs.lemmas.List.{append_cancel_left}
use Rattle.std.proofs.lemmas.Option.{slice_get_within}
use Rattle.columns.specs.Lines.{field}
use Rattle.columns.specs.Descriptions.{described_table, described_tables, table_front, table_names, BeginsNot, IsDescription}
use Rattle.columns.proofs.Types.{never}
use Rattle.columns.proofs.TablesAhead.{same_front}
use Rattle.first_copy.specs.FoundTables.{IsFoundAt}
use Rattle.first_copy.specs.RowLines.{IsRowAt, IsWrongRow}
use Rattle.first_copy.specs.declared.fault.RowFault.TheVariants.{Table, Fields, Image, Memory}
use Rattle.first_copy.specs.RowFields.{IsWrongField, IsWrongAmong, field_end}

-- none of the tables in front of this place, and not the one there
pub none_further : (tables : List DescribedTable) (line : List ℕ) (n : ℕ) (here : DescribedTable) →
    ((place : ℕ) (table : DescribedTable) → place < n → slice_get tables place ≡ Some table → BeginsNot (table_front (described_table table)) line) →
    slice_get tables n ≡ Some here → BeginsNot (table_front (described_table here)) line →
    (place : ℕ) (table : DescribedTable) → place < n + 1 → slice_get tables place ≡ Some table → BeginsNot (table_front (described_table table)) line
none_further tables line n here before at none place table within found = by (place == n) refl
  where
    by : (t : Bool) → (place == n) ≡ t → BeginsNot (table_front (described_table table)) line
    by true same =
        let e : place ≡ n = eqb-true place n same in
        let both : Some here ≡ Some table = sym at ∙ (λ i. slice_get tables (sym e i)) ∙ found in
        let one : here ≡ table = cc in
        subst (λ (t : DescribedTable). BeginsNot (table_front (described_table t)) line) one none
    by false other =
        let differ : place ≢ n = λ e. never (sym other ∙ eq-eqb place n e) in
        before place table (omega (arith, within, differ)) found

pub none_at_all : (tables : List DescribedTable) (line : List ℕ) (n : ℕ) → length tables ≤ n →
    ((place : ℕ) (table : DescribedTable) → place < n → slice_get tables place ≡ Some table → BeginsNot (table_front (described_table table)) line) →
    (place : ℕ) (table : DescribedTable) → slice_get tables place ≡ Some table → BeginsNot (table_front (described_table table)) line
none_at_all tables line n all before place table found = before place table (omega (arith, all, slice_get_within tables place table found)) found

-- What holds of the names of all tables holds of those of the table at a place.
name_at : (tables : List DescribedTable) (place : ℕ) (table : DescribedTable) (P : List ℕ → Type 0) → AllByRecursion P (table_names (described_tables tables)) → slice_get tables place ≡ Some table → P (table_front (described_table table))
name_at [] place table P all found = cc
name_at (first ∷ tables) zero table P all found =
    let same : first ≡ table = cc in subst (λ (t : DescribedTable). P (table_front (described_table t))) same all.0
name_at (first ∷ tables) (suc place) table P all found = name_at tables place table P all.1 found

-- tables of one name stand at one place
one_place : (tables : List DescribedTable) (i j : ℕ) (t u : DescribedTable) → IsDistinct bytes_eq (table_names (described_tables tables)) → slice_get tables i ≡ Some t → slice_get tables j ≡ Some u →
    table_front (described_table t) ≡ table_front (described_table u) → i ≡ j
unfolding IsDistinct
one_place [] i j t u distinct first second same = cc
one_place (one ∷ tables) zero zero t u distinct first second same = refl
one_place (one ∷ tables) zero (suc j) t u distinct first second same =
    let is : one ≡ t = cc in
    absurd (other_text _ _ (sym (name_at tables j u (λ y. bytes_eq (table_front (described_table one)) y ≡ false) distinct.0 second)) ((λ i. table_front (described_table (is i))) ∙ same))
one_place (one ∷ tables) (suc i) zero t u distinct first second same =
    let is : one ≡ u = cc in
    absurd (other_text _ _ (sym (name_at tables i t (λ y. bytes_eq (table_front (described_table one)) y ≡ false) distinct.0 first)) ((λ i. table_front (described_table (is i))) ∙ sym same))
one_place (one ∷ tables) (suc i) (suc j) t u distinct first second same = ap (λ (n : ℕ). suc n) (one_place tables i j t u distinct.1 first second same)

stable : (i j : ℕ) → ((i ≢ j) → ⊥) → i ≡ j
stable i j not_other = by (i == j) refl
  where
    by : (t : Bool) → (i == j) ≡ t → i ≡ j
    by true same = eqb-true i j same
    by false other = absurd (not_other (λ e. never (sym other ∙ eq-eqb i j e)))

-- A line begins with the names of one of the described tables at most.
pub same_place : (tables : List DescribedTable) (line rest tail : List ℕ) (i j : ℕ) (t u : DescribedTable) → ∥ IsDescription (described_tables tables) ∥₁ →
    slice_get tables i ≡ Some t → slice_get tables j ≡ Some u → line ≡ table_front (described_table t) ++ rest → line ≡ table_front (described_table u) ++ tail → i ≡ j
same_place tables line rest tail i j t u lawful first second is also =
    let names = same_front (described_table t) (described_table u) rest tail (sym is ∙ also) in
    stable i j (λ differ. ∥∥₁_elim lawful (λ a b. absurd a) (λ those. differ (one_place tables i j t u those.lawful.distinct first second names)))

-- The fields of a row, where these are the names in front of them.
pub row_fields : (tables : List DescribedTable) (line rest : List ℕ) (place other : ℕ) (table : DescribedTable) (cells : List CellValue) → ∥ IsDescription (described_tables tables) ∥₁ →
    slice_get tables place ≡ Some table → line ≡ table_front (described_table table) ++ rest → IsRowAt tables other line cells → (place ≡ other) × AreFields table.columns.items rest cells
row_fields tables line rest place other table cells lawful at is row =
    let same = same_place tables line rest row.fields place other table row.table lawful at row.at is row.line_is in
    let both : Some table ≡ Some row.table = sym at ∙ (λ i. slice_get tables (same i)) ∙ row.at in
    let one : table ≡ row.table = cc in
    let tails : rest ≡ row.fields = append_cancel_left (table_front (described_table table)) rest row.fields (sym is ∙ row.line_is ∙ (λ i. table_front (described_table (sym one i)) ++ row.fields)) in
    (same, subst (λ (t : DescribedTable). AreFields t.columns.items rest cells) (sym one) (subst (λ (fields : List ℕ). AreFields row.table.columns.items fields cells) (sym tails) row.are))

-- The table at this place, its columns, and the fields that follow its names in the line.
pub record IsHere (tables : List DescribedTable) (place : ℕ) (line fields : List ℕ) (columns : List Column) : Type 0 where
  pub table : DescribedTable
  pub at : slice_get tables place ≡ Some table
  pub line_is : line ≡ table_front (described_table table) ++ fields
  pub columns_are : columns ≡ table.columns.items

pub here : (tables seen : List DescribedTable) (place : ℕ) (line fields : List ℕ) (columns : List Column) (one : DescribedTable) →
    seen ≡ tables → IsFoundAt seen place line fields → one ≡ get_or tables place one → columns ≡ one.columns.items → IsHere tables place line fields columns
here tables seen place line fields columns one same found is columns_are =
    let at : slice_get tables place ≡ Some found.table = (λ i. slice_get (sym same i) place) ∙ found.at in
    let read : slice_get tables place ≡ Some one = slice_get_read tables (length tables) place one refl (slice_get_within tables place found.table at) is in
    let both : Some found.table ≡ Some one = sym at ∙ read in
    let the : found.table ≡ one = cc in
    record {
      table = one;
      at = read;
      line_is = found.line_is ∙ (λ i. table_front (described_table (the i)) ++ fields);
      columns_are = columns_are;
    }

-- It is the table of the row, whose fields these are.
pub fields_here : (tables : List DescribedTable) (place other : ℕ) (line fields : List ℕ) (columns : List Column) (cells : List CellValue) → ∥ IsDescription (described_tables tables) ∥₁ →
    IsHere tables place line fields columns → IsRowAt tables other line cells → (place ≡ other) × AreFields columns fields cells
fields_here tables place other line fields columns cells lawful it row =
    let found = row_fields tables line fields place other it.table cells lawful it.at it.line_is row in
    (found.0, subst (λ (cs : List Column). AreFields cs fields cells) (sym it.columns_are) found.1)

-- a row of it
pub row_here : (tables : List DescribedTable) (place : ℕ) (line fields : List ℕ) (columns : List Column) (cells : List CellValue) →
    IsHere tables place line fields columns → AreFields columns fields cells → IsRowAt tables place line cells
row_here tables place line fields columns cells it are =
    record { table = it.table; fields = fields; at = it.at; line_is = it.line_is; are = subst (λ (cs : List Column). AreFields cs fields cells) it.columns_are are }

never_other : (fault : RowFault) → ((number end : ℕ) (column : Column) (text : List ℕ) → IsWrongField number column end text fault → ⊥) → (fault ≢ Fields) → (number : ℕ) (columns : List Column) (text : List ℕ) → IsWrongAmong number columns text fault → ⊥
never_other fault none other number [] text wrong = other wrong.0
never_other fault none other number (column ∷ columns) text (inl own) = none number (field_end columns) column text own
never_other fault none other number (column ∷ columns) text (inr (field, rest, cell, is, text_is, more)) = never_other fault none other (number + 1) columns rest more

-- what is wrong with the fields is wrong with the line
pub wrong_here : (tables : List DescribedTable) (place : ℕ) (line fields : List ℕ) (columns : List Column) (fault : RowFault) →
    IsHere tables place line fields columns → IsWrongAmong 1 columns fields fault → IsRowFault tables line fault
wrong_here tables place line fields columns fault it wrong = by fault (subst (λ (cs : List Column). IsWrongAmong 1 cs fields fault) it.columns_are wrong)
  where
    whole : (fault : RowFault) → IsWrongAmong 1 it.table.columns.items fields fault → IsWrongRow tables line fault
    whole fault wrong = record { place = place; table = it.table; fields = fields; at = it.at; line_is = it.line_is; wrong = wrong }

    by : (fault : RowFault) → IsWrongAmong 1 it.table.columns.items fields fault → IsRowFault tables line fault
    by Table wrong = absurd (never_other Table (λ number end column text own. own) (λ e. cc) 1 it.table.columns.items fields wrong)
    by Image wrong = absurd (never_other Image (λ number end column text own. own) (λ e. cc) 1 it.table.columns.items fields wrong)
    by Memory wrong = tt
    by v wrong = whole v wrong
