-- The rows of held in the order of a query.
use Rattle.store.proofs.Names.{◌≡◌, inl, inr, ℕ, ℤ, pos, List, [], ◌∷◌, Bool, true, false, not, ◌&&◌, bytes_eq, None, Some, Ok, Err, Result, IfOk, refl, sym, ap, ap₂, subst₂, ◌∙◌, and-true, AllByRecursion, list_any, IsPermutation, is_eq, is_lt, ordering_reverse, Ordering, Less, Equal, Greater, cases_Bool, or_parts, false≢true, true≢false, not-false, IsDistinct-IsPermutation, is_eq-slice_cmp, Value, Int, Blob, Binary, plain, Row, Term, col, rowid, all-permutation, clashes, Database, IsDatabase, IsLaidOut, held_at, Key, same_key, alike, blob_in, HasRowids, IsHeldRow, held_rows, key_cmp, by_order}
use Rattle.std.specs.List.{IsDistinct}
use Rattle.std.specs.Ordering.{nat_cmp, is_ne, ordering_then}
use Rattle.std.specs.Cmp.Lexicographic.{slice_cmp}
use Rattle.binlog.proofs.TableSets.{bytes_eq-sym}
use Rattle.sqlite_value.specs.declared.keys.Key.{Key as SortKey}
use Rattle.sqlite_value.specs.Keys.{ascending, first_key}
use Rattle.sqlite_value.specs.Order.{column, value_cmp}
use Rattle.sqlite_value.proofs.OrderLemmas.{value_cmp-Blob}
use Rattle.sqlite_sql.specs.Ops.{binary}
use Rattle.sqlite_schema.specs.Rules.{agree, differ}
use Rattle.sqlite_rules.specs.Lists.{Has}
use Rattle.sqlite_catalog.proofs.AlterLemmas.{keys_are_unique}
use Rattle.store.specs.Rows.{key_of}
use Rattle.store.specs.Listing.{HasKey, KeysRise}
use Rattle.store.specs.Load.{Ascends}
use Rattle.store.proofs.AnyWhole.{has_index}
use Rattle.store.proofs.KeyOrder.{key_total}
use Rattle.store.proofs.Selects.{shown_bool, equals_blob}

-- ---- Keys of rows.

abbrev pub row_key : Row → Key
row_key r = key_of (blob_in (column r 1)) (blob_in (column r 2)) (blob_in (column r 3))

abbrev pub same_keys : Row → Row → Bool
same_keys a b = same_key (row_key a) (row_key b)

keys_flip : (a b : Row) → same_keys a b ≡ same_keys b a
keys_flip a b = rw (bytes_eq-sym (blob_in (column a 1)) (blob_in (column b 1)), bytes_eq-sym (blob_in (column a 2)) (blob_in (column b 2)), bytes_eq-sym (blob_in (column a 3)) (blob_in (column b 3))) refl

-- the numbers of the columns of the key
abbrev key_columns : List ℕ
key_columns = 1 ∷ 2 ∷ 3 ∷ []

-- two rows of held agree in the key as their bytes do
agrees : (a b : Row) (x y : Key) (i j m n : Value) → a ≡ i ∷ Blob x.schema ∷ Blob x.table ∷ Blob x.image ∷ m ∷ [] → b ≡ j ∷ Blob y.schema ∷ Blob y.table ∷ Blob y.image ∷ n ∷ [] → agree plain key_columns a key_columns b ≡ same_keys a b
unfolding first_key
agrees a b x y i j m n p q =
    subst₂ (λ r s. agree plain key_columns r key_columns s ≡ same_keys r s) (sym p) (sym q)
    (rw (equals_blob (Blob x.schema) y.schema, equals_blob (Blob x.table) y.table, equals_blob (Blob x.image) y.image) (ap (λ c. bytes_eq x.schema y.schema && (bytes_eq x.table y.table && c)) (and-true (bytes_eq x.image y.image))))

unlike : (o : Ordering) → is_ne o ≡ not (is_eq o)
unlike Less = refl
unlike Equal = refl
unlike Greater = refl

differs : (m n : ℤ) → differ (Int m) (Int n) ≡ not (is_eq (value_cmp (Int m) (Int n)))
unfolding binary
differs m n = shown_bool (is_ne (value_cmp (Int m) (Int n))) ∙ unlike (value_cmp (Int m) (Int n))

split : (b c : Bool) → (b && c) ≡ false → b ≡ true → c ≡ false
split true c h is = h
split false c h is = absurd (false≢true is)

-- another row with the same key would have the same rowid
one_pair : (a b : Row) → IsHeldRow a → IsHeldRow b → alike a b ≡ false → (agree plain key_columns a key_columns b && differ (rowid a) (rowid b)) ≡ false → same_keys a b ≡ false
one_pair a b p q apart clash = elim (cases_Bool (same_keys a b)) [
  | inl same ↦ (
      let agreed : agree plain key_columns a key_columns b ≡ true = agrees a b p.1 q.1 (Int p.0) (Int q.0) (Int (pos p.2)) (Int (pos q.2)) p.3 q.3 ∙ same in
      let ids : differ (Int p.0) (Int q.0) ≡ false = subst₂ (λ (r : Row) (s : Row). differ (rowid r) (rowid s) ≡ false) p.3 q.3 (split _ _ clash agreed) in
      let like : is_eq (value_cmp (Int p.0) (Int q.0)) ≡ true = not-false _ (sym (differs p.0 q.0) ∙ ids) in
      absurd (false≢true (sym apart ∙ ap₂ (λ (r : Row) (s : Row). alike r s) p.3 q.3 ∙ like)))
  | inr off ↦ off
]

none_true : (f : Row → Bool) (rows : List Row) → list_any f rows ≡ false → AllByRecursion (λ r. f r ≡ false) rows
none_true f [] h = tt
none_true f (r ∷ rows) h = let both = or_parts (f r) (list_any f rows) h in (both.0, none_true f rows both.1)

abbrev Clashless : Row → Row → Type 0
Clashless b a = (agree plain key_columns a key_columns b && differ (rowid a) (rowid b)) ≡ false

later_ones : (r : Row) (rows others : List Row) → AllByRecursion (λ b. AllByRecursion (Clashless b) (r ∷ rows)) others → AllByRecursion (λ b. AllByRecursion (Clashless b) rows) others
later_ones r rows [] h = tt
later_ones r rows (b ∷ others) h = (h.0.1, later_ones r rows others h.1)

from_first : (r : Row) (rows others : List Row) → IsHeldRow r → AllByRecursion IsHeldRow others → AllByRecursion (λ b. alike r b ≡ false) others → AllByRecursion (λ b. AllByRecursion (Clashless b) (r ∷ rows)) others → AllByRecursion (λ b. same_keys r b ≡ false) others
from_first r rows [] held all apart h = tt
from_first r rows (b ∷ others) held all apart h = (one_pair r b held all.0 apart.0 h.0.0, from_first r rows others held all.1 apart.1 h.1)

keys_apart : (rows : List Row) → AllByRecursion IsHeldRow rows → IsDistinct alike rows → AllByRecursion (λ b. AllByRecursion (Clashless b) rows) rows → IsDistinct same_keys rows
unfolding IsDistinct
keys_apart [] held apart h = tt
keys_apart (r ∷ rows) held apart h = (from_first r rows rows held.0 held.1 apart.0 h.1, keys_apart rows held.1 apart.1 (later_ones r rows rows h.1))

clashless : (all rows : List Row) → AllByRecursion (λ b. clashes plain key_columns all b ≡ false) rows → AllByRecursion (λ b. AllByRecursion (Clashless b) all) rows
clashless all [] h = tt
clashless all (b ∷ rows) h = (none_true (λ a. agree plain key_columns a key_columns b && differ (rowid a) (rowid b)) all h.0, clashless all rows h.1)

pub distinct_keys : (held rows : List Row) → IsPermutation held rows → AllByRecursion IsHeldRow held → HasRowids held → AllByRecursion (λ b. clashes plain key_columns held b ≡ false) held → IsDistinct same_keys rows
distinct_keys held rows same lawful rowids h = IsDistinct-IsPermutation same_keys keys_flip held rows same (keys_apart held lawful rowids.apart (clashless held held h))

-- ---- The order of the query is that of the keys.

abbrev pub key_order : List (Term × SortKey)
key_order = (col 1 1, ascending Binary) ∷ (col 1 2, ascending Binary) ∷ (col 1 3, ascending Binary) ∷ []

then_equal : (o : Ordering) → ordering_then o Equal ≡ o
then_equal Less = refl
then_equal Equal = refl
then_equal Greater = refl

orders : (x y : Key) (i j m n : Value) → by_order key_order (i ∷ Blob x.schema ∷ Blob x.table ∷ Blob x.image ∷ m ∷ []) (j ∷ Blob y.schema ∷ Blob y.table ∷ Blob y.image ∷ n ∷ []) ≡ key_cmp x y
orders x y i j m n =
    rw (value_cmp-Blob x.schema y.schema, value_cmp-Blob x.table y.table, value_cmp-Blob x.image y.image)
    (ap (λ o. ordering_then (slice_cmp nat_cmp x.schema y.schema) (ordering_then (slice_cmp nat_cmp x.table y.table) o)) (then_equal (slice_cmp nat_cmp x.image y.image)))

then_eq : (o p : Ordering) → is_eq (ordering_then o p) ≡ (is_eq o && is_eq p)
then_eq Less p = refl
then_eq Equal p = refl
then_eq Greater p = refl

cmp_eq : (x y : Key) → is_eq (key_cmp x y) ≡ same_key x y
cmp_eq x y = then_eq (slice_cmp nat_cmp x.schema y.schema) _ ∙ ap₂ (λ b c. b && c) (is_eq-slice_cmp x.schema y.schema)
    (then_eq (slice_cmp nat_cmp x.table y.table) _ ∙ ap₂ (λ b c. b && c) (is_eq-slice_cmp x.table y.table) (is_eq-slice_cmp x.image y.image))

greater : (o : Ordering) → is_lt o ≡ false → is_eq o ≡ false → o ≡ Greater
greater Less lt eq = absurd (true≢false lt)
greater Equal lt eq = absurd (true≢false eq)
greater Greater lt eq = refl

module _ (turns : (x y : Key) → key_cmp x y ≡ ordering_reverse (key_cmp y x)) where
  less : (a b : Row) → (p : IsHeldRow a) → (q : IsHeldRow b) → is_lt (by_order key_order b a) ≡ false → same_keys a b ≡ false → key_cmp p.1 q.1 ≡ Less
  less a b p q order apart =
      let low : is_lt (key_cmp q.1 p.1) ≡ false = ap is_lt (sym (orders q.1 p.1 (Int q.0) (Int p.0) (Int (pos q.2)) (Int (pos p.2))) ∙ sym (ap₂ (λ (r : Row) (s : Row). by_order key_order r s) q.3 p.3)) ∙ order in
      let unlike : is_eq (key_cmp q.1 p.1) ≡ false = cmp_eq q.1 p.1 ∙ sym (ap₂ (λ (r : Row) (s : Row). same_keys r s) q.3 p.3) ∙ sym (keys_flip a b) ∙ apart in
      turns p.1 q.1 ∙ ap ordering_reverse (greater (key_cmp q.1 p.1) low unlike)

  has_key : (a : Row) → (p : IsHeldRow a) → HasKey p.1 a
  has_key a p = (ap (λ (r : Row). column r 1) p.3, ap (λ (r : Row). column r 2) p.3, ap (λ (r : Row). column r 3) p.3)

  rise_from : (a : Row) (rows : List Row) → (p : IsHeldRow a) → AllByRecursion IsHeldRow rows → IsDistinct same_keys (a ∷ rows) → Ascends (by_order key_order) (a ∷ rows) → KeysRise (Some p.1) rows
  unfolding IsDistinct
  rise_from a [] p all apart order = tt
  rise_from a (b ∷ rows) p all apart order = (all.0.1, has_key b all.0, less a b p all.0 order.0 apart.0.0, rise_from b rows all.0 all.1 apart.1 order.1)

  pub keys_rise : (rows : List Row) → AllByRecursion IsHeldRow rows → IsDistinct same_keys rows → Ascends (by_order key_order) rows → KeysRise None rows
  keys_rise [] all apart order = tt
  keys_rise (a ∷ rows) all apart order = (all.0.1, has_key a all.0, tt, rise_from a rows all.0 all.1 apart order)

-- ---- The rows of a sound database.

all_by_has : (P : Row → Type 0) (rows : List Row) → ((r : Row) → Has rows r → P r) → AllByRecursion P rows
all_by_has P [] h = tt
all_by_has P (r ∷ rows) h = (h r (inl refl), all_by_has P rows (λ x there. h x (inr there)))

pub unique_keys : (db : Database) → IsLaidOut db.schema → IsDatabase db → AllByRecursion (λ b. clashes plain key_columns (held_rows db) b ≡ false) (held_rows db)
unique_keys db l sound = all_by_has (λ b. clashes plain key_columns (held_rows db) b ≡ false) (held_rows db)
    (λ r there. keys_are_unique db.schema db.trees (held_at db.schema) 0 key_columns r sound (has_index db.schema.tables l.held.at (held_at db.schema) l.held.found.by_index) refl there)

pub listed_rise : {X E : Type 0} (items : X → List Row) (r : Result X E) (db : Database) → IsLaidOut db.schema → AllByRecursion IsHeldRow (held_rows db) → HasRowids (held_rows db) → IsDatabase db
    → IfOk r (λ x. IsPermutation (held_rows db) (items x)) → IfOk r (λ x. Ascends (by_order key_order) (items x)) → IfOk r (λ x. KeysRise None (items x))
listed_rise items (Ok x) db l lawful rowids sound same order =
    keys_rise key_total.antisymm (items x) (all-permutation IsHeldRow (held_rows db) (items x) same lawful) (distinct_keys (held_rows db) (items x) same lawful rowids (unique_keys db l sound)) order
listed_rise items (Err e) db l lawful rowids sound same order = same
