-- The filter of tables: a plain set of names; the empty set admits all tables.
use Rattle.std.specs.Prelude.{◌≡◌, ◌⊎◌, ℕ, Bool, true, ◌||◌, ◌&&◌, if◌then◌else◌, List, [], ◌∷◌, ◌++◌, map, codes}
use Rattle.std.specs.List.{list_any, AllByRecursion}
use Rattle.std.specs.Str.{bytes_eq}
use Rattle.std.specs.Ordering.{nat_cmp, ordering_then}
use Rattle.std.specs.declared.cmp.Ordering.{Ordering}
use Rattle.std.specs.Cmp.Lexicographic.{slice_cmp}
use Rattle.std.specs.FinSet as set
use Rattle.std.specs.Coded.{Coded, coded_list, coded_ℕ, coded×}

-- a schema and a table
abbrev pub Name : Type 0
Name = List ℕ × List ℕ

-- names by the bytes of their schema, and then by those of their table
abbrev pub name_cmp : Name → Name → Ordering
name_cmp a b = ordering_then (slice_cmp nat_cmp a.0 b.0) (slice_cmp nat_cmp a.1 b.1)

-- a plain set of names
abbrev pub Names : Type 0
Names = set.FinSet name_cmp

abbrev pub names_code : Coded Names
names_code = set.code (coded× (coded_list coded_ℕ) (coded_list coded_ℕ))

-- whether a name is in the list
abbrev pub is_named_in : Name → List Name → Bool
is_named_in name names = list_any (λ n. bytes_eq n.0 name.0 && bytes_eq n.1 name.1) names

-- Each of the names is in the list.
abbrev pub AreAmong : List Name → List Name → Type 0
AreAmong names of = AllByRecursion (λ n. is_named_in n of ≡ true) names

-- whether the filter admits a table
abbrev pub admits : Names → List ℕ → List ℕ → Bool
admits names schema table = set.is_subset names set.empty || set.contains names (schema, table)

-- ---- Tables that are read and not kept: a name in the filter may mean such tables, and then its schema begins with one of these texts. They
-- have 256 bytes, and a table map says in one byte how long a schema is, so no table has such a name.

-- the table with the name, whose schema is what follows
unfoldable pub read_table : List ℕ
read_table = codes "mrep reads a table and keeps no row of it: its schema is what follows these 256 bytes, its name the other name. No table of a server has a name as long as this one. -------------------------------------------------------------------------------------------"

-- all tables of the schema that follows; the name is empty
unfoldable pub read_schema : List ℕ
read_schema = codes "mrep reads all tables of a schema and keeps no row of them: the schema is what follows these 256 bytes. No table of a server has a name as long as this one. ---------------------------------------------------------------------------------------------------"

-- all tables; nothing follows, and the name is empty
unfoldable pub read_all : List ℕ
read_all = codes "mrep reads all tables and keeps no row of them. No table of a server has a name as long as this one. -----------------------------------------------------------------------------------------------------------------------------------------------------------"

-- whether a reader with this filter reads a table: it admits it, or has a name that means it
unfoldable pub is_read : Names → List ℕ → List ℕ → Bool
is_read names schema table =
    admits names schema table
    || (set.contains names (read_table ++ schema, table)
    || (set.contains names (read_schema ++ schema, [])
    || set.contains names (read_all ++ [], [])))

-- whether one of the names of a list means the table
unfoldable pub is_meant : List Name → List ℕ → List ℕ → Bool
is_meant names schema table =
    is_named_in (read_table ++ schema, table) names
    || (is_named_in (read_schema ++ schema, []) names
    || is_named_in (read_all ++ [], []) names)

-- ---- A filter of tables that are read, and none kept.

-- the name that means all tables of a schema, where such a filter is asked for
abbrev pub star : List ℕ
star = codes "*"

-- whether a list of names asks for a table: by its name, with its schema, or since it has no names, which means all tables
abbrev pub is_asked : List Name → List ℕ → List ℕ → Bool
is_asked [] schema table = true
is_asked (n ∷ names) schema table = is_named_in (schema, table) (n ∷ names) || is_named_in (schema, star) (n ∷ names)

-- the name that means what is asked for
abbrev pub unkept_name : Name → Name
unkept_name (schema, table) = if bytes_eq table star then (read_schema ++ schema, []) else (read_table ++ schema, table)

abbrev pub unkept : List Name → List Name
unkept [] = (read_all ++ [], []) ∷ []
unkept (n ∷ names) = map unkept_name (n ∷ names)

-- What is asked for, by the name that means it: `*` also stands for all schemas.
abbrev pub IsMeantBy : Name → Name → Type 0
IsMeantBy asked name = (name ≡ unkept_name asked) ⊎ ((asked ≡ (star, star)) × (name ≡ (read_all ++ [], [])))
