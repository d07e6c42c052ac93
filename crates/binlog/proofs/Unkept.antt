-- Names of tables that are read and not kept.
use Rattle.binlog.proofs.Names.{◌≡◌, inl, inr, ℕ, zero, suc, take, subst, and_from, name_list, ◌<◌, ◌≤◌, Bool, true, false, not, ◌&&◌, ◌||◌, ◌==◌, List, [], ◌∷◌, ◌++◌, length, map, refl, sym, ap, ◌∙◌, arith, bytes_eq-Decides, length-append, AllByRecursion, false≢true, ne_eqb, Name, name_cmp, is_named_in, admits}
use Rattle.std.proofs.Common.{if◌then◌else◌, Vec, slice_index_or, drop}
use Rattle.std.specs.Str.{bytes_eq}
use Rattle.std.specs.FinSet as set
use Rattle.std.proofs.lemmas.Bool.{false_from_ne_true, or_right}
use Rattle.binlog.specs.Filter.{is_read, is_meant, is_asked, unkept_name, unkept, IsMeantBy, star, read_table, read_schema, read_all}
use Rattle.binlog.proofs.TableSets.{itself, all_of_none, some_name, listed, read_by}

-- ---- Texts before bytes.

and_assoc : (a b c : Bool) → (a && (b && c)) ≡ ((a && b) && c)
and_assoc true b c = refl
and_assoc false b c = refl

and_false : (a : Bool) → (a && false) ≡ false
and_false true = refl
and_false false = refl

joined_eq : (l a m b : List ℕ) → length l ≡ length m → bytes_eq (l ++ a) (m ++ b) ≡ (bytes_eq l m && bytes_eq a b)
joined_eq [] a [] b same = refl
joined_eq [] a (y ∷ m) b same = absurd (omega (arith, same))
joined_eq (x ∷ l) a [] b same = absurd (omega (arith, same))
joined_eq (x ∷ l) a (y ∷ m) b same = ap (λ c. (x == y) && c) (joined_eq l a m b (omega (arith, same))) ∙ and_assoc (x == y) (bytes_eq l m) (bytes_eq a b)

-- bytes that begin with a long text are no short ones
long_apart : (l a s : List ℕ) → length l ≡ 256 → length s < 256 → bytes_eq (l ++ a) s ≡ false
long_apart l a s long short = false_from_ne_true _ (λ is.
    let same = ap (λ (x : List ℕ). length x) ((bytes_eq-Decides (l ++ a) s).0 is) in
    let sum = length-append l a in
    absurd (omega (arith, long, short, same, sum)))

table_long : length read_table ≡ 256
unfolding read_table
table_long = refl

schema_long : length read_schema ≡ 256
unfolding read_schema
schema_long = refl

all_long : length read_all ≡ 256
unfolding read_all
all_long = refl

table_schema : bytes_eq read_table read_schema ≡ false
unfolding read_table read_schema
table_schema = refl

schema_table : bytes_eq read_schema read_table ≡ false
unfolding read_table read_schema
schema_table = refl

table_all : bytes_eq read_table read_all ≡ false
unfolding read_table read_all
table_all = refl

schema_all : bytes_eq read_schema read_all ≡ false
unfolding read_schema read_all
schema_all = refl

-- ---- A unkept name means what was asked for.

abbrev is_in_table : Name → List ℕ → List ℕ → Bool
is_in_table n schema table = bytes_eq n.0 (read_table ++ schema) && bytes_eq n.1 table

abbrev is_in_schema : Name → List ℕ → Bool
is_in_schema n schema = bytes_eq n.0 (read_schema ++ schema) && bytes_eq n.1 []

abbrev is_in_all : Name → Bool
is_in_all n = bytes_eq n.0 (read_all ++ []) && bytes_eq n.1 []

abbrev pub mark_as : Bool → Name → Name
mark_as is n = if is then (read_schema ++ n.0, []) else (read_table ++ n.0, n.1)

as_table : (is : Bool) (n : Name) (schema table : List ℕ) → is_in_table (mark_as is n) schema table ≡ (not is && (bytes_eq n.0 schema && bytes_eq n.1 table))
as_table true n schema table = ap (λ c. c && bytes_eq [] table) (joined_eq read_schema n.0 read_table schema (schema_long ∙ sym table_long) ∙ ap (λ c. c && bytes_eq n.0 schema) schema_table)
as_table false n schema table = ap (λ c. c && bytes_eq n.1 table) (joined_eq read_table n.0 read_table schema refl ∙ ap (λ c. c && bytes_eq n.0 schema) (itself read_table))

as_schema : (is : Bool) (n : Name) (schema : List ℕ) → is_in_schema (mark_as is n) schema ≡ (is && bytes_eq n.0 schema)
as_schema true n schema = ap (λ c. c && true) (joined_eq read_schema n.0 read_schema schema refl ∙ ap (λ c. c && bytes_eq n.0 schema) (itself read_schema)) ∙ and_true (bytes_eq n.0 schema)
  where
    and_true : (a : Bool) → (a && true) ≡ a
    and_true true = refl
    and_true false = refl
as_schema false n schema = ap (λ c. c && bytes_eq n.1 []) (joined_eq read_table n.0 read_schema schema (table_long ∙ sym schema_long) ∙ ap (λ c. c && bytes_eq n.0 schema) table_schema)

as_all : (is : Bool) (n : Name) → is_in_all (mark_as is n) ≡ false
as_all true n = ap (λ c. c && true) (joined_eq read_schema n.0 read_all [] (schema_long ∙ sym all_long) ∙ ap (λ c. c && bytes_eq n.0 []) schema_all)
as_all false n = ap (λ c. c && bytes_eq n.1 []) (joined_eq read_table n.0 read_all [] (table_long ∙ sym all_long) ∙ ap (λ c. c && bytes_eq n.0 []) table_all)

by_parts : (is schema table : Bool) → ((not is && (schema && table)) || ((is && schema) || false)) ≡ ((schema && table) || (schema && is))
by_parts false true true = refl
by_parts false true false = refl
by_parts false false table = refl
by_parts true true true = refl
by_parts true true false = refl
by_parts true false table = refl

one_means : (is : Bool) (n : Name) (schema table : List ℕ)
    → (is_in_table (mark_as is n) schema table || (is_in_schema (mark_as is n) schema || is_in_all (mark_as is n))) ≡ ((bytes_eq n.0 schema && bytes_eq n.1 table) || (bytes_eq n.0 schema && is))
one_means is n schema table = (λ i. as_table is n schema table i || (as_schema is n schema i || as_all is n i)) ∙ by_parts is (bytes_eq n.0 schema) (bytes_eq n.1 table)

-- ---- Tests of lists, one by one.

apart_or : (a x b y c z : Bool) → ((a || x) || ((b || y) || (c || z))) ≡ ((a || (b || c)) || (x || (y || z)))
apart_or true x b y c z = refl
apart_or false true true y c z = refl
apart_or false true false y true z = refl
apart_or false true false y false z = refl
apart_or false false true y c z = refl
apart_or false false false true true z = refl
apart_or false false false true false z = refl
apart_or false false false false true z = refl
apart_or false false false false false z = refl

two_or : (a x b y : Bool) → ((a || b) || (x || y)) ≡ ((a || x) || (b || y))
two_or true x b y = refl
two_or false true true y = refl
two_or false true false y = refl
two_or false false true y = refl
two_or false false false y = refl

names_mean : (names : List Name) (schema table : List ℕ)
    → (is_named_in (read_table ++ schema, table) (map unkept_name names) || (is_named_in (read_schema ++ schema, []) (map unkept_name names) || is_named_in (read_all ++ [], []) (map unkept_name names)))
    ≡ (is_named_in (schema, table) names || is_named_in (schema, star) names)
names_mean [] schema table = refl
names_mean (n ∷ names) schema table =
    let is = bytes_eq n.1 star in
    let m = map unkept_name names in
    apart_or (is_in_table (mark_as is n) schema table) (is_named_in (read_table ++ schema, table) m) (is_in_schema (mark_as is n) schema) (is_named_in (read_schema ++ schema, []) m) (is_in_all (mark_as is n)) (is_named_in (read_all ++ [], []) m)
    ∙ (λ i. one_means is n schema table i || names_mean names schema table i)
    ∙ two_or (bytes_eq n.0 schema && bytes_eq n.1 table) (is_named_in (schema, table) names) (bytes_eq n.0 schema && is) (is_named_in (schema, star) names)

pub means_asked : (names : List Name) (schema table : List ℕ) → is_meant (unkept names) schema table ≡ is_asked names schema table
unfolding is_meant
means_asked [] schema table = last_true _ _ _ (ap (λ b. (b && true) || false) (itself (read_all ++ [])))
  where
    last_true : (a b c : Bool) → c ≡ true → (a || (b || c)) ≡ true
    last_true true b c is = refl
    last_true false true c is = refl
    last_true false false c is = is
means_asked (n ∷ names) schema table = names_mean (n ∷ names) schema table

-- ---- No table is kept.

unkept_long : (is : Bool) (n : Name) (schema : List ℕ) → length schema < 256 → bytes_eq (mark_as is n).0 schema ≡ false
unkept_long true n schema short = long_apart read_schema n.0 schema schema_long short
unkept_long false n schema short = long_apart read_table n.0 schema table_long short

none_named : (names : List Name) (schema table : List ℕ) → length schema < 256 → is_named_in (schema, table) (map unkept_name names) ≡ false
none_named [] schema table short = refl
none_named (n ∷ names) schema table short =
    let is = bytes_eq n.1 star in
    (λ i. (unkept_long is n schema short i && bytes_eq (mark_as is n).1 table) || none_named names schema table short i)

admits_some : (m : Name) (names : List Name) (schema table : List ℕ) → admits (set.from_list {R = name_cmp} (m ∷ names)) schema table ≡ is_named_in (schema, table) (m ∷ names)
admits_some m names schema table = (λ i. some_name m names i || listed (m ∷ names) (schema, table) i)

pub none_kept : (names : List Name) (schema table : List ℕ) → length schema < 256 → admits (set.from_list {R = name_cmp} (unkept names)) schema table ≡ false
none_kept [] schema table short =
    admits_some (read_all ++ [], []) [] schema table ∙ ap (λ b. (b && bytes_eq [] table) || false) (long_apart read_all [] schema all_long short)
none_kept (n ∷ names) schema table short =
    admits_some (unkept_name n) (map unkept_name names) schema table ∙ none_named (n ∷ names) schema table short

pub reads_asked : (names : List Name) (schema table : List ℕ) → length schema < 256 → is_read (set.from_list {R = name_cmp} (unkept names)) schema table ≡ is_asked names schema table
reads_asked names schema table short = read_by (unkept names) schema table (none_kept names schema table short) ∙ means_asked names schema table

-- ---- Names that may be those of tables.

pub long_unnamed : (names : List Name) (schema table : List ℕ) → AllByRecursion (λ (n : Name). 256 ≤ length n.0) names → length schema < 256 → is_named_in (schema, table) names ≡ false
long_unnamed [] schema table long short = refl
long_unnamed (n ∷ names) schema table long short =
    let apart : bytes_eq n.0 schema ≡ false = false_from_ne_true _ (λ is.
    let same = ap (λ (x : List ℕ). length x) ((bytes_eq-Decides n.0 schema).0 is) in
    let low = long.0 in
    absurd (omega (arith, low, short, same))) in
    (λ i. (apart i && bytes_eq n.1 table) || long_unnamed names schema table long.1 short i)

module _ {A : Type 0} where
  -- one more of them is long
  pub long_more : (pairs : List (Vec ℕ A × Vec ℕ A)) (k : ℕ) (x : Vec ℕ A × Vec ℕ A) → k < length pairs → x ≡ slice_index_or pairs k x
      → AllByRecursion (λ (n : Name). 256 ≤ length n.0) (name_list (take k pairs)) → 256 ≤ length x.0.items → AllByRecursion (λ (n : Name). 256 ≤ length n.0) (name_list (take (suc k) pairs))
  long_more [] k x short at before this = absurd (omega (arith, short))
  long_more (p ∷ pairs) zero x short at before this = (subst (λ (y : Vec ℕ A × Vec ℕ A). 256 ≤ length y.0.items) at this, tt)
  long_more (p ∷ pairs) (suc k) x short at before this = (before.0, long_more pairs k x (omega (arith, short)) at before.1 this)

  -- each of them is named
  pub named_here : (pairs : List (Vec ℕ A × Vec ℕ A)) (k : ℕ) (x : Vec ℕ A × Vec ℕ A) → k < length pairs → x ≡ slice_index_or pairs k x → is_named_in (x.0.items, x.1.items) (name_list pairs) ≡ true
  named_here [] k x short at = absurd (omega (arith, short))
  named_here (p ∷ pairs) zero x short at =
      subst (λ (y : Vec ℕ A × Vec ℕ A). ((bytes_eq y.0.items x.0.items && bytes_eq y.1.items x.1.items) || is_named_in (x.0.items, x.1.items) (name_list pairs)) ≡ true) at
      (ap (λ b. b || is_named_in (x.0.items, x.1.items) (name_list pairs)) (and_from _ _ (itself x.0.items) (itself x.1.items)))
  named_here (p ∷ pairs) (suc k) x short at = or_right _ _ (named_here pairs k x (omega (arith, short)) at)

  pub unkept_of : (pairs : List (Vec ℕ A × Vec ℕ A)) (empty : Bool) → empty ≡ (length pairs == 0) → empty ≡ false → unkept (name_list pairs) ≡ map unkept_name (name_list pairs)
  unkept_of [] empty is not = absurd (false≢true (sym not ∙ is))
  unkept_of (p ∷ pairs) empty is not = refl

  pub unkept_none : (pairs : List (Vec ℕ A × Vec ℕ A)) (empty : Bool) → empty ≡ (length pairs == 0) → empty ≡ true → unkept (name_list pairs) ≡ (read_all ++ [], []) ∷ []
  unkept_none [] empty is none = refl
  unkept_none (p ∷ pairs) empty is none = absurd (false≢true (sym (ne_eqb (suc (length pairs)) 0 (λ z. omega (arith, z))) ∙ sym is ∙ none))

  pub empty_names : (pairs : List (Vec ℕ A × Vec ℕ A)) (empty : Bool) → empty ≡ (length pairs == 0) → empty ≡ true → set.is_subset (set.from_list {R = name_cmp} (name_list pairs)) set.empty ≡ true
  empty_names [] empty is none = all_of_none
  empty_names (p ∷ pairs) empty is none = absurd (false≢true (sym (ne_eqb (suc (length pairs)) 0 (λ z. omega (arith, z))) ∙ sym is ∙ none))

-- ---- What a name means.

-- one of three texts begins the schema of a name that means tables, and the name is empty after two of them
pub data Ways (name : Name) : Type 0 where
  by_table : (rest : List ℕ) → name.0 ≡ read_table ++ rest → bytes_eq name.1 star ≡ false → Ways name
  by_schema : (rest : List ℕ) → name.0 ≡ read_schema ++ rest → name.1 ≡ [] → Ways name
  by_all : name.0 ≡ read_all ++ [] → name.1 ≡ [] → Ways name

pub ways : (asked name : Name) → IsMeantBy asked name → Ways name
ways asked name (inl is) = by (bytes_eq asked.1 star) refl
  where
    by : (b : Bool) → bytes_eq asked.1 star ≡ b → Ways name
    by true one =
        let same : name ≡ (read_schema ++ asked.0, []) = is ∙ ap (λ b. mark_as b asked) one in
        by_schema asked.0 (ap (λ (n : Name). n.0) same) (ap (λ (n : Name). n.1) same)
    by false other =
        let same : name ≡ (read_table ++ asked.0, asked.1) = is ∙ ap (λ b. mark_as b asked) other in
        by_table asked.0 (ap (λ (n : Name). n.0) same) (ap (λ (n : Name). bytes_eq n.1 star) same ∙ other)
ways asked name (inr is) = by_all (ap (λ (n : Name). n.0) is.1) (ap (λ (n : Name). n.1) is.1)

-- a table whose name is not `*`
pub meant_table : (schema table : List ℕ) (name : Name) → name.0 ≡ read_table ++ schema → name.1 ≡ table → bytes_eq table star ≡ false → IsMeantBy (schema, table) name
meant_table schema table name first second other = inl ((λ i. (first i, second i)) ∙ sym (ap (λ b. mark_as b (schema, table)) other))

pub meant_schema : (schema : List ℕ) (name : Name) → name.0 ≡ read_schema ++ schema → name.1 ≡ [] → IsMeantBy (schema, star) name
meant_schema schema name first second = inl ((λ i. (first i, second i)) ∙ sym (ap (λ b. mark_as b (schema, star)) (itself star)))

-- nothing follows a text where all of it is the text
pub nothing_follows : (l a : List ℕ) → l ++ a ≡ l ++ [] → a ≡ []
nothing_follows [] a same = same
nothing_follows (x ∷ l) a same = nothing_follows l a (ap (λ (xs : List ℕ). drop 1 xs) same)

pub empty_is : (l : List ℕ) (empty : Bool) → empty ≡ (length l == 0) → empty ≡ true → l ≡ []
empty_is [] empty is all = refl
empty_is (x ∷ l) empty is all = absurd (false≢true (sym (ne_eqb (suc (length l)) 0 (λ z. omega (arith, z))) ∙ sym is ∙ all))

pub not_empty : (l : List ℕ) (empty : Bool) → empty ≡ (length l == 0) → empty ≡ false → l ≡ [] → ⊥
not_empty l empty is some none = false≢true (sym some ∙ is ∙ ap (λ (x : List ℕ). length x == 0) none)
