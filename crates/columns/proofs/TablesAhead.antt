-- What lies ahead of a reader of tables, if the text is that of these tables.
use Rattle.columns.proofs.Names.{◌≡◌, ℕ, ◌<◌, ◌≤◌, false, List, [], ◌∷◌, ◌++◌, length, refl, ap, sym, subst, ◌∙◌, arith, append_assoc, append-nil, length-append, list_any, AllByRecursion, bytes_eq, other_text, map-append, flat_map-append, is_inner, DescribedTableValue, described_tables, table_names, table_front, description_text, IsTable, AreTables, BeginsNot, Client}
use Rattle.std.proofs.Common.{drop}
use Rattle.std.specs.List.{IsDistinct}
use Rattle.columns.specs.Escapes.{escaped}
use Rattle.columns.specs.Lines.{field}
use Rattle.columns.specs.Descriptions.{described_table, table_text}
use Rattle.columns.specs.declared.table.DescribedTable.{DescribedTable}
use Rattle.columns.proofs.Words.{one_cut}
use Rattle.columns.proofs.FieldCuts.{inner_escaped}
use Rattle.columns.proofs.Ahead.{distinct_from, first_front}

pub record AreAhead (tables done : List DescribedTableValue) (left : List ℕ) : Type 0 where
  pub more : List DescribedTableValue
  pub whole : tables ≡ done ++ more
  pub left_is : left ≡ description_text more

-- The next table.
pub record IsNextTable (tables done : List DescribedTableValue) (left : List ℕ) : Type 0 where
  pub table : DescribedTableValue
  pub tail : List ℕ
  pub one : IsTable table
  pub ends : BeginsNot (table_front table) tail
  pub left_is : left ≡ table_text table ++ tail
  pub fresh : list_any (bytes_eq (table_front table)) (table_names done) ≡ false
  pub ahead : AreAhead tables (done ++ table ∷ []) tail

all_behind : (xs : List DescribedTableValue) (z : DescribedTableValue) (ys : List DescribedTableValue) → AllByRecursion IsTable (xs ++ z ∷ ys) → IsTable z × AllByRecursion IsTable ys
all_behind [] z ys all = all
all_behind (x ∷ xs) z ys all = all_behind xs z ys all.1

behind : (xs : List (List ℕ)) (z : List ℕ) (ys : List (List ℕ)) → IsDistinct bytes_eq (xs ++ z ∷ ys) → AllByRecursion (λ y. bytes_eq z y ≡ false) ys
unfolding IsDistinct
behind [] z ys d = d.0
behind (x ∷ xs) z ys d = behind xs z ys d.1

-- two lines begin with the same names if they begin with the same fields
pub same_front : (t u : DescribedTableValue) (x y : List ℕ) → table_front t ++ x ≡ table_front u ++ y → table_front t ≡ table_front u
same_front t u x y e =
    let spread : (v : DescribedTableValue) (z : List ℕ) → table_front v ++ z ≡ escaped Client v.schema ++ 9 ∷ (escaped Client v.name ++ 9 ∷ z) =
    λ v z. append_assoc (field v.schema 9) (field v.name 9) z ∙ append_assoc (escaped Client v.schema) (9 ∷ []) (field v.name 9 ++ z) ∙
    (λ i. escaped Client v.schema ++ 9 ∷ append_assoc (escaped Client v.name) (9 ∷ []) z i) in
    let first = one_cut is_inner (escaped Client t.schema) (escaped Client u.schema) _ _ (inner_escaped t.schema) (inner_escaped u.schema) refl refl (sym (spread t x) ∙ e ∙ spread u y) in
    let second = one_cut is_inner (escaped Client t.name) (escaped Client u.name) (9 ∷ x) (9 ∷ y) (inner_escaped t.name) (inner_escaped u.name) refl refl (ap (λ xs. drop 1 xs) first.1) in
    (λ i. (first.0 i ++ 9 ∷ []) ++ (second.0 i ++ 9 ∷ []))

-- what follows the lines of a table does not begin with its names
ends_there : (table : DescribedTableValue) (more : List DescribedTableValue) → AllByRecursion IsTable more → AllByRecursion (λ y. bytes_eq (table_front table) y ≡ false) (table_names more) →
    BeginsNot (table_front table) (description_text more)
ends_there table [] each distinct rest e =
    omega (arith, ap length e, length-append (table_front table) rest, length-append (field table.schema 9) (field table.name 9), length-append (escaped Client table.schema) (9 ∷ []))
ends_there table (other ∷ more) each distinct rest e =
    let first = first_front other (description_text more) (description_text (other ∷ more)) each.0 refl in
    other_text (table_front table) (table_front other) (sym distinct.0) (same_front table other rest first.0 (sym e ∙ first.1))

pub next_table : (tables done : List DescribedTableValue) (left : List ℕ) → AreTables tables → 0 < length left → AreAhead tables done left → IsNextTable tables done left
next_table tables done left lawful some ahead = by ahead.more ahead.whole ahead.left_is
  where
    by : (more : List DescribedTableValue) → tables ≡ done ++ more → left ≡ description_text more → IsNextTable tables done left
    by [] whole left_is = absurd (omega (arith, some, ap length left_is))
    by (table ∷ more) whole left_is =
        let all : AreTables (done ++ table ∷ more) = subst AreTables whole lawful in
        let names : IsDistinct bytes_eq (table_names done ++ table_front table ∷ table_names more) =
        subst (IsDistinct bytes_eq) (map-append table_front done (table ∷ more)) all.distinct in
        let parts = all_behind done table more all.each in
        record {
          table = table;
          tail = description_text more;
          one = parts.0;
          ends = ends_there table more parts.1 (behind (table_names done) (table_front table) (table_names more) names);
          left_is = left_is;
          fresh = distinct_from (table_names done) (table_front table) (table_names more) names;
          ahead = record { more = more; whole = whole ∙ sym (append_assoc done (table ∷ []) more); left_is = refl };
        }

-- a table more
pub table_more : (done : List DescribedTableValue) (table : DescribedTableValue) (left rest : List ℕ) → left ≡ table_text table ++ rest → description_text done ++ left ≡ description_text (done ++ table ∷ []) ++ rest
table_more done table left rest is =
    (λ i. description_text done ++ is i) ∙ sym (append_assoc (description_text done) (table_text table) rest) ∙
    (λ i. (description_text done ++ sym (append-nil (table_text table)) i) ++ rest) ∙
    (λ i. sym (flat_map-append table_text done (table ∷ [])) i ++ rest)

pub all_tables_with : (done : List DescribedTableValue) (table : DescribedTableValue) → AllByRecursion IsTable done → IsTable table → AllByRecursion IsTable (done ++ table ∷ [])
all_tables_with [] table all one = (one, tt)
all_tables_with (first ∷ done) table all one = (all.0, all_tables_with done table all.1 one)

pub tables_with : (items pushed : List DescribedTable) (table : DescribedTable) → pushed ≡ items ++ table ∷ [] → described_tables pushed ≡ described_tables items ++ described_table table ∷ []
tables_with items pushed table is = ap described_tables is ∙ map-append described_table items (table ∷ [])

pub table_names_with : (done : List DescribedTableValue) (table : DescribedTableValue) → table_names (done ++ table ∷ []) ≡ table_names done ++ table_front table ∷ []
table_names_with done table = map-append table_front done (table ∷ [])

-- nothing is left
pub at_last : (tables done : List DescribedTableValue) (left : List ℕ) → AreTables tables → left ≡ [] → AreAhead tables done left → done ≡ tables
at_last tables done left lawful none ahead = by ahead.more ahead.whole ahead.left_is
  where
    by : (more : List DescribedTableValue) → tables ≡ done ++ more → left ≡ description_text more → done ≡ tables
    by [] whole left_is = sym (whole ∙ append-nil done)
    by (table ∷ more) whole left_is =
        let all : AreTables (done ++ table ∷ more) = subst AreTables whole lawful in
        let first = first_front table (description_text more) (description_text (table ∷ more)) (all_behind done table more all.each).0 refl in
        absurd (omega (arith, ap length (sym none ∙ left_is ∙ first.1), length-append (table_front table) first.0, length-append (field table.schema 9) (field table.name 9), length-append (escaped Client table.schema) (9 ∷ [])))

pub empty : (xs : List ℕ) → length xs ≤ 0 → xs ≡ []
empty [] none = refl
empty (x ∷ xs) none = absurd (omega (arith, none))

pub shorter : (table : DescribedTableValue) (left rest : List ℕ) → IsTable table → left ≡ table_text table ++ rest → length rest < length left
shorter table left rest lawful is =
    let first = first_front table [] (table_text table) lawful (sym (append-nil (table_text table))) in
    omega (arith, ap length is, length-append (table_text table) rest, ap length first.1, length-append (table_front table) first.0, length-append (field table.schema 9) (field table.name 9), length-append (escaped Client table.schema) (9 ∷ []))
