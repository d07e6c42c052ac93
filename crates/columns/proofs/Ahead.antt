-- What lies ahead of a reader of lines, if the text is that of these columns.
use Rattle.columns.proofs.Names.{◌≡◌, ℕ, ◌<◌, Bool, true, false, not, List, [], ◌∷◌, ◌++◌, length, refl, ap, sym, subst, ◌∙◌, arith, append_assoc, append-nil, list_any, AllByRecursion, bytes_eq, map-append, flat_map-append, ColumnValue, column_text, IsDescribedColumn, set_text, is_inner, Are, Ends, lines_text, column_values, column_names, AreDescribedColumns, BeginsNot, DescribedTableValue, IsTable, table_front, Client}
use Rattle.std.proofs.Common.{drop}
use Rattle.std.specs.Prelude.{◌||◌}
use Rattle.std.specs.List.{IsDistinct}
use Rattle.columns.specs.Escapes.{escaped}
use Rattle.columns.specs.Lines.{column_value, field}
use Rattle.columns.specs.Keys.{key_text}
use Rattle.columns.specs.ColumnTypes.{column_type_text}
use Rattle.columns.specs.Descriptions.{table_text}
use Rattle.columns.specs.declared.column.Column.{Column}
use Rattle.columns.proofs.FieldCuts.{same_test, field_cut}

pub record IsAhead (front : List ℕ) (columns : List ColumnValue) (rest : List ℕ) (done : List ColumnValue) (left : List ℕ) : Type 0 where
  pub more : List ColumnValue
  pub whole : columns ≡ done ++ more
  pub left_is : left ≡ lines_text front more ++ rest

pub begin : (front : List ℕ) (columns : List ColumnValue) (rest text : List ℕ) → text ≡ lines_text front columns ++ rest → IsAhead front columns rest [] text
begin front columns rest text e = record { more = columns; whole = refl; left_is = e }

-- The column of the next line.
pub record IsNext (front : List ℕ) (columns : List ColumnValue) (rest : List ℕ) (done : List ColumnValue) (line : List ℕ) : Type 0 where
  pub column : ColumnValue
  pub tail : List ℕ
  pub one : IsDescribedColumn column
  pub line_is : line ≡ column_text column ++ tail
  pub fresh : list_any (bytes_eq (escaped Client column.name)) (column_names done) ≡ false
  pub ahead : IsAhead front columns rest (done ++ column ∷ []) tail

pub distinct_from : (xs : List (List ℕ)) (z : List ℕ) (ys : List (List ℕ)) → IsDistinct bytes_eq (xs ++ z ∷ ys) → list_any (bytes_eq z) xs ≡ false
unfolding IsDistinct
distinct_from [] z ys d = refl
distinct_from (x ∷ xs) z ys d = rw (same_test z x ∙ first xs d.0, distinct_from xs z ys d.1) refl
  where
    first : (xs : List (List ℕ)) → AllByRecursion (λ y. bytes_eq x y ≡ false) (xs ++ z ∷ ys) → bytes_eq x z ≡ false
    first [] all = all.0
    first (y ∷ xs) all = first xs all.1

all_behind : (xs : List ColumnValue) (z : ColumnValue) (ys : List ColumnValue) → AllByRecursion IsDescribedColumn (xs ++ z ∷ ys) → IsDescribedColumn z
all_behind [] z ys all = all.0
all_behind (x ∷ xs) z ys all = all_behind xs z ys all.1

pub next : (front : List ℕ) (columns : List ColumnValue) (rest : List ℕ) (done : List ColumnValue) (left line : List ℕ) → AreDescribedColumns columns → BeginsNot front rest → left ≡ front ++ line →
    IsAhead front columns rest done left → IsNext front columns rest done line
next front columns rest done left line lawful ends is ahead = by ahead.more ahead.whole ahead.left_is
  where
    by : (more : List ColumnValue) → columns ≡ done ++ more → left ≡ lines_text front more ++ rest → IsNext front columns rest done line
    by [] whole left_is = absurd (ends line (sym left_is ∙ is))
    by (column ∷ more) whole left_is =
        let lawful_more : AreDescribedColumns (done ++ column ∷ more) = subst AreDescribedColumns whole lawful in
        let cut : front ++ line ≡ front ++ (column_text column ++ (lines_text front more ++ rest)) =
        sym is ∙ left_is ∙ append_assoc (front ++ column_text column) (lines_text front more) rest ∙ append_assoc front (column_text column) (lines_text front more ++ rest) in
        record {
          column = column;
          tail = lines_text front more ++ rest;
          one = all_behind done column more lawful_more.each;
          line_is = same_rest front line (column_text column ++ (lines_text front more ++ rest)) cut;
          fresh = distinct_from (column_names done) (escaped Client column.name) (column_names more)
              (subst (IsDistinct bytes_eq) (map-append (λ (c : ColumnValue). escaped Client c.name) done (column ∷ more)) lawful_more.distinct);
          ahead = record { more = more; whole = whole ∙ sym (append_assoc done (column ∷ []) more); left_is = refl };
        }
      where
        same_rest : (a x y : List ℕ) → a ++ x ≡ a ++ y → x ≡ y
        same_rest [] x y e = e
        same_rest (b ∷ a) x y e = same_rest a x y (ap (λ xs. drop 1 xs) e)

-- a line more
pub line_more : (front : List ℕ) (done : List ColumnValue) (column : ColumnValue) (left line rest : List ℕ) → left ≡ front ++ line → line ≡ column_text column ++ rest →
    lines_text front done ++ left ≡ lines_text front (done ++ column ∷ []) ++ rest
line_more front done column left line rest is line_is =
    (λ i. lines_text front done ++ (is ∙ (λ j. front ++ line_is j) ∙ sym (append_assoc front (column_text column) rest)) i) ∙
    sym (append_assoc (lines_text front done) (front ++ column_text column) rest) ∙
    (λ i. (lines_text front done ++ sym (append-nil (front ++ column_text column)) i) ++ rest) ∙
    (λ i. sym (flat_map-append (λ (c : ColumnValue). front ++ column_text c) done (column ∷ [])) i ++ rest)

pub all_with : (done : List ColumnValue) (column : ColumnValue) → AllByRecursion IsDescribedColumn done → IsDescribedColumn column → AllByRecursion IsDescribedColumn (done ++ column ∷ [])
all_with [] column all one = (one, tt)
all_with (first ∷ done) column all one = (all.0, all_with done column all.1 one)

pub distinct_with : (xs : List (List ℕ)) (z : List ℕ) → IsDistinct bytes_eq xs → list_any (bytes_eq z) xs ≡ false → IsDistinct bytes_eq (xs ++ z ∷ [])
unfolding IsDistinct
distinct_with [] z d none = (tt, tt)
distinct_with (x ∷ xs) z d none = (each xs d.0, distinct_with xs z d.1 (right (bytes_eq z x) (list_any (bytes_eq z) xs) none))
  where
    left : (a b : Bool) → (a || b) ≡ false → a ≡ false
    left false b h = refl
    left true b h = h

    right : (a b : Bool) → (a || b) ≡ false → b ≡ false
    right false b h = h
    right true false h = refl
    right true true h = h

    each : (ys : List (List ℕ)) → AllByRecursion (λ y. bytes_eq x y ≡ false) ys → AllByRecursion (λ y. bytes_eq x y ≡ false) (ys ++ z ∷ [])
    each [] all = (same_test x z ∙ left (bytes_eq z x) (list_any (bytes_eq z) xs) none, tt)
    each (y ∷ ys) all = (all.0, each ys all.1)

pub values_with : (items pushed : List Column) (column : Column) → pushed ≡ items ++ column ∷ [] → column_values pushed ≡ column_values items ++ column_value column ∷ []
values_with items pushed column is = ap column_values is ∙ map-append column_value items (column ∷ [])

pub names_with : (done : List ColumnValue) (column : ColumnValue) → column_names (done ++ column ∷ []) ≡ column_names done ++ escaped Client column.name ∷ []
names_with done column = map-append (λ (c : ColumnValue). escaped Client c.name) done (column ∷ [])

-- the first field of a line
pub first_field : (front rest line tail : List ℕ) (column : ColumnValue) → line ≡ front ++ rest → Are is_inner front → Ends is_inner rest → line ≡ column_text column ++ tail → front ≡ escaped Client column.name
first_field front rest line tail column whole inner stops is =
    (field_cut front rest column.name ((field (column_type_text column.kind) 9 ++ (field (set_text column.set) 9 ++ field (key_text column.key) 10)) ++ tail) line 9 refl whole inner stops
    (is ∙ append_assoc (field column.name 9) (field (column_type_text column.kind) 9 ++ (field (set_text column.set) 9 ++ field (key_text column.key) 10)) tail)).0

pub not_not : (b : Bool) → true ≡ not b → b ≡ false
not_not true h = h
not_not false h = refl

-- no line is left
pub at_end : (front : List ℕ) (columns : List ColumnValue) (rest : List ℕ) (done : List ColumnValue) (left : List ℕ) → BeginsNot front left → IsAhead front columns rest done left → (done ≡ columns) × (left ≡ rest)
at_end front columns rest done left none ahead = by ahead.more ahead.whole ahead.left_is
  where
    by : (more : List ColumnValue) → columns ≡ done ++ more → left ≡ lines_text front more ++ rest → (done ≡ columns) × (left ≡ rest)
    by [] whole left_is = (sym (whole ∙ append-nil done), left_is)
    by (column ∷ more) whole left_is =
        absurd (none (column_text column ++ (lines_text front more ++ rest)) (left_is ∙ append_assoc (front ++ column_text column) (lines_text front more) rest ∙ append_assoc front (column_text column) (lines_text front more ++ rest)))

pub no_two : IsDistinct bytes_eq []
unfolding IsDistinct
no_two = tt

-- the first two fields of a table's first line
pub first_front : (table : DescribedTableValue) (rest text : List ℕ) → IsTable table → text ≡ table_text table ++ rest → (tail : List ℕ) × (text ≡ table_front table ++ tail)
first_front table rest text lawful e = by table.columns lawful.some e
  where
    by : (columns : List ColumnValue) → 0 < length columns → text ≡ lines_text (table_front table) columns ++ rest → (tail : List ℕ) × (text ≡ table_front table ++ tail)
    by [] some e = absurd (omega (arith, some))
    by (column ∷ more) some e = (
      column_text column ++ (lines_text (table_front table) more ++ rest),
      e ∙ append_assoc (table_front table ++ column_text column) (lines_text (table_front table) more) rest ∙ append_assoc (table_front table) (column_text column) (lines_text (table_front table) more ++ rest),
    )
