-- The set of a list of tables.
use Rattle.binlog.proofs.Names.{◌≡◌, ℕ, suc, Bool, true, false, ◌&&◌, ◌||◌, ◌==◌, List, [], ◌∷◌, ◌++◌, length, arith, refl, ap, sym, ◌∙◌, bytes_eq, false≢true, ne_eqb, and_from, bytes_eq-Decides, Name, name_cmp, is_named_in, admits}
use Rattle.std.specs.Ordering.{nat_cmp, eq_by_cmp}
use Rattle.std.specs.Cmp.{IsTotalOrder, then_total, on_total, tied_then, both_ways}
use Rattle.std.specs.Cmp.Lexicographic.{slice_cmp, nat_list_cmp_total}
use Rattle.std.specs.FinSet as set
use Rattle.std.specs.List.{list_any}
use Rattle.std.proofs.lemmas.Map.Text.{is_eq-slice_cmp}
use Rattle.std.proofs.lemmas.Bool.{false_from_ne_true}
use Rattle.gtid.proofs.Sets.{then_equal}
use Rattle.binlog.specs.Filter.{Names, is_read, is_meant, read_table, read_schema, read_all}

pub name_cmp_total : IsTotalOrder name_cmp
name_cmp_total = then_total (on_total (λ (a : Name). a.0) nat_list_cmp_total) (on_total (λ (a : Name). a.1) nat_list_cmp_total)

pub name_cmp-same : set.IsAntisymmetric name_cmp
name_cmp-same a b e =
    let both = then_equal (slice_cmp nat_cmp a.0 b.0) (slice_cmp nat_cmp a.1 b.1) e in
    λ i. (set.slice_cmp-IsAntisymmetric set.nat_cmp-IsAntisymmetric a.0 b.0 both.0 i, set.slice_cmp-IsAntisymmetric set.nat_cmp-IsAntisymmetric a.1 b.1 both.1 i)

pub itself : (xs : List ℕ) → bytes_eq xs xs ≡ true
itself xs = (bytes_eq-Decides xs xs).1 refl

pub bytes_eq-sym : (xs ys : List ℕ) → bytes_eq xs ys ≡ bytes_eq ys xs
bytes_eq-sym xs ys = both_ways _ _ (λ e. (bytes_eq-Decides ys xs).1 (sym ((bytes_eq-Decides xs ys).0 e))) (λ e. (bytes_eq-Decides xs ys).1 (sym ((bytes_eq-Decides ys xs).0 e)))

-- whether two names are one
tied : (a b : Name) → eq_by_cmp name_cmp a b ≡ (bytes_eq b.0 a.0 && bytes_eq b.1 a.1)
tied a b =
    sym (tied_then (slice_cmp nat_cmp a.0 b.0) (slice_cmp nat_cmp a.1 b.1))
    ∙ (λ i. (is_eq-slice_cmp a.0 b.0 ∙ bytes_eq-sym a.0 b.0) i && (is_eq-slice_cmp a.1 b.1 ∙ bytes_eq-sym a.1 b.1) i)

pub listed : (names : List Name) (name : Name) → set.contains (set.from_list {R = name_cmp} names) name ≡ is_named_in name names
listed names name = set.contains-from_list name_cmp_total names name ∙ (λ i. list_any (λ n. tied name n i) names)

-- the empty list is the empty set, and no other list is
pub all_of_none : set.is_subset (set.from_list {R = name_cmp} []) set.empty ≡ true
all_of_none = set.contains-is_subset name_cmp_total set.empty set.empty (λ q is. is)

pub some_name : (name : Name) (names : List Name) → set.is_subset (set.from_list {R = name_cmp} (name ∷ names)) set.empty ≡ false
some_name name names = false_from_ne_true _ (λ all.
    let there : set.contains (set.from_list {R = name_cmp} (name ∷ names)) name ≡ true = listed (name ∷ names) name ∙ ap (λ b. b || is_named_in name names) (and_from _ _ (itself name.0) (itself name.1)) in
    false≢true (sym (set.contains-empty name_cmp name) ∙ set.is_subset-contains name_cmp_total _ _ all name there))

not_none : (n : ℕ) → (suc n == 0) ≡ false
not_none n = ne_eqb (suc n) 0 (λ z. omega (arith, z))

pub follow_by : (count : ℕ) (names : List Name) (schema table : List ℕ) (empty : Bool) → empty ≡ (count == 0) → count ≡ length names → (empty ≡ true → admits (set.from_list names) schema table ≡ true) × (empty ≡ false → admits (set.from_list names) schema table ≡ is_named_in (schema, table) names)
follow_by count [] schema table empty is counts = ((λ _. ap (λ b. b || set.contains (set.from_list {R = name_cmp} []) (schema, table)) all_of_none), (λ no. absurd (false≢true (sym no ∙ is ∙ ap (λ n. n == 0) counts))))
follow_by count (name ∷ names) schema table empty is counts = (
  (λ yes. absurd (false≢true (sym (is ∙ ap (λ n. n == 0) counts ∙ not_none (length names)) ∙ yes))),
  (λ _. ap (λ b. b || set.contains (set.from_list {R = name_cmp} (name ∷ names)) (schema, table)) (some_name name names) ∙ listed (name ∷ names) (schema, table)),
)

-- with the empty set all are followed, and read
pub all_follow : (schema table : List ℕ) → admits set.empty schema table ≡ true
all_follow schema table = ap (λ b. b || set.contains (set.from_list {R = name_cmp} []) (schema, table)) all_of_none

-- a name means the table
abbrev means_in : Names → List ℕ → List ℕ → Bool
means_in names schema table =
    set.contains names (read_table ++ schema, table) || (set.contains names (read_schema ++ schema, []) || set.contains names (read_all ++ [], []))

read_is : (names : Names) (schema table : List ℕ) → is_read names schema table ≡ (admits names schema table || means_in names schema table)
unfolding is_read
read_is names schema table = refl

-- what is admitted is read
pub admitted_read : (names : Names) (schema table : List ℕ) → admits names schema table ≡ true → is_read names schema table ≡ true
admitted_read names schema table is = read_is names schema table ∙ ap (λ b. b || means_in names schema table) is

-- and what is not read is not admitted
pub not_read : (names : Names) (schema table : List ℕ) → is_read names schema table ≡ false → admits names schema table ≡ false
not_read names schema table is = false_from_ne_true _ (λ yes. false≢true (sym is ∙ admitted_read names schema table yes))

pub all_read : (schema table : List ℕ) → is_read set.empty schema table ≡ true
all_read schema table = admitted_read set.empty schema table (all_follow schema table)

-- what is not admitted is read if a name of the list means it
pub read_by : (names : List Name) (schema table : List ℕ) → admits (set.from_list {R = name_cmp} names) schema table ≡ false → is_read (set.from_list {R = name_cmp} names) schema table ≡ is_meant names schema table
unfolding is_meant
read_by names schema table not =
    read_is (set.from_list {R = name_cmp} names) schema table
    ∙ ap (λ b. b || means_in (set.from_list {R = name_cmp} names) schema table) not
    ∙ (λ i. listed names (read_table ++ schema, table) i || (listed names (read_schema ++ schema, []) i || listed names (read_all ++ [], []) i))

-- ---- Whether a name of a list means a table, as it is looked for.

pub meant_first : (names : List Name) (schema table : List ℕ) → is_named_in (read_table ++ schema, table) names ≡ true → is_meant names schema table ≡ true
unfolding is_meant
meant_first names schema table is = ap (λ b. b || (is_named_in (read_schema ++ schema, []) names || is_named_in (read_all ++ [], []) names)) is

pub meant_second : (names : List Name) (schema table : List ℕ) → is_named_in (read_table ++ schema, table) names ≡ false → is_named_in (read_schema ++ schema, []) names ≡ true → is_meant names schema table ≡ true
unfolding is_meant
meant_second names schema table not is = (λ i. not i || (is i || is_named_in (read_all ++ [], []) names))

pub meant_third : (names : List Name) (schema table : List ℕ) → is_named_in (read_table ++ schema, table) names ≡ false → is_named_in (read_schema ++ schema, []) names ≡ false → is_meant names schema table ≡ is_named_in (read_all ++ [], []) names
unfolding is_meant
meant_third names schema table not neither = (λ i. not i || (neither i || is_named_in (read_all ++ [], []) names))
