-- A row that was put in has a key that no row had.
use Rattle.store.proofs.Names.{◌≡◌, inl, inr, ℕ, ℤ, List, [], ◌∷◌, filter, Bool, true, false, ◌&&◌, IsTrue, refl, sym, ap, ap₂, subst, ◌∙◌, AllByRecursion, list_any, and-true, or_parts, and_parts, not-true, eq-eqb, is_eq, match_ordering, Ordering, Less, Equal, Greater, Int, plain, Row, Trees, rowid, put_row, is_int, Schema, clashes, is_taken, all_has, int_is, IsSound, IsLaidOut, held_at, held_tree, Key, HasRowids, alike, is_blob, is_at}
use Rattle.std.specs.List.{IsDistinct}
use Rattle.std.specs.Ordering.{is_ne}
use Rattle.sqlite_value.specs.Keys.{first_key}
use Rattle.sqlite_value.specs.Order.{column, value_cmp}
use Rattle.sqlite_sql.specs.Ops.{binary}
use Rattle.sqlite_schema.specs.declared.schema.Constraint.TheVariants.{Unique}
use Rattle.sqlite_schema.specs.Rules.{agree, differ, passes}
use Rattle.sqlite_rules.specs.Lists.{Has}
use Rattle.sqlite_rules.specs.Edit.{id_in}
use Rattle.sqlite_rules.proofs.ListLemmas.{test_has}
use Rattle.sqlite_catalog.specs.Listing.{IsGuarded, automatic}
use Rattle.store.proofs.AnyWhole.{has_index}
use Rattle.store.proofs.RowLemmas.{blob_is, turned}
use Rattle.store.proofs.Selects.{shown_bool, equals_blob}

-- ---- before a row was put in

pub none_before : (p : Row → Bool) (new : Row) (rows : List Row) → is_taken rows new ≡ false → list_any p (put_row new rows) ≡ false → list_any p rows ≡ false
none_before p new [] free none = refl
none_before p new (r ∷ rows) free none =
    let parts = or_parts _ _ free in go (value_cmp (rowid r) (rowid new)) parts.0 (none_before p new rows parts.1) none
  where
    go : (o : Ordering) → is_eq o ≡ false → (list_any p (put_row new rows) ≡ false → list_any p rows ≡ false)
        → list_any p (match_ordering o (r ∷ put_row new rows) (new ∷ rows) (new ∷ r ∷ rows)) ≡ false → list_any p (r ∷ rows) ≡ false
    go Less apart more none = let parts = or_parts (p r) (list_any p (put_row new rows)) none in rw (parts.0, more parts.1) refl
    go Equal apart more none = absurd (cc)
    go Greater apart more none = (or_parts _ _ none).1

-- ---- another row with the key of this one breaks the rule

unequal : (o : Ordering) → is_eq o ≡ false → is_ne o ≡ true
unequal Less apart = refl
unequal Equal apart = absurd (cc)
unequal Greater apart = refl

module _ (key : Key) (row : Row) (at : is_at key row ≡ true) (keyed_so : IsTrue (is_int (rowid row))) where
  agrees : (r : Row) → agree plain (1 ∷ 2 ∷ 3 ∷ []) r (1 ∷ 2 ∷ 3 ∷ []) row ≡ is_at key r
  unfolding first_key
  agrees r =
      let first = and_parts _ _ at in
      let rest = and_parts _ _ first.1 in
      rw (
        blob_is (column row 1) key.schema first.0,
        blob_is (column row 2) key.table rest.0,
        blob_is (column row 3) key.image rest.1,
        equals_blob (column r 1) key.schema,
        equals_blob (column r 2) key.table,
        equals_blob (column r 3) key.image,
      )
      (ap (λ b. is_blob key.schema (column r 1) && (is_blob key.table (column r 2) && b)) (and-true (is_blob key.image (column r 3))))

  differs : (n m : ℤ) → is_eq (value_cmp (Int n) (Int m)) ≡ false → differ (Int n) (Int m) ≡ true
  unfolding binary
  differs n m apart = shown_bool (is_ne (value_cmp (Int n) (Int m))) ∙ unequal (value_cmp (Int n) (Int m)) apart

  off : (r : Row) → IsTrue (is_int (rowid r)) → alike r row ≡ false → (agree plain (1 ∷ 2 ∷ 3 ∷ []) r (1 ∷ 2 ∷ 3 ∷ []) row && differ (rowid r) (rowid row)) ≡ false → is_at key r ≡ false
  off r keyed free apart =
      let one : rowid r ≡ Int (id_in (rowid r)) = int_is (rowid r) keyed in
      let two : rowid row ≡ Int (id_in (rowid row)) = int_is (rowid row) keyed_so in
      let other : differ (rowid r) (rowid row) ≡ true = ap₂ differ one two ∙ differs (id_in (rowid r)) (id_in (rowid row)) (sym (ap₂ (λ v w. is_eq (value_cmp v w)) one two) ∙ free) in
      sym (and-true (is_at key r)) ∙ (rw (agrees r, other) at apart)

  pub none_at : (rows : List Row) → AllByRecursion (λ r. IsTrue (is_int (rowid r))) rows → is_taken rows row ≡ false → clashes plain (1 ∷ 2 ∷ 3 ∷ []) rows row ≡ false → filter (is_at key) rows ≡ []
  none_at [] keyed free apart = refl
  none_at (r ∷ rows) keyed free apart =
      let taken = or_parts _ _ free in
      let other = or_parts _ _ apart in
      rw (off r keyed.0 taken.0 other.0, none_at rows keyed.1 taken.1 other.1) refl

  free_of : (rows : List Row) → AllByRecursion (λ r. alike row r ≡ false) rows → is_taken rows row ≡ false
  free_of [] apart = refl
  free_of (r ∷ rows) apart = rw (turned row r apart.0, free_of rows apart.1) refl

  pub one_at : (rows : List Row) → HasRowids rows → Has rows row → clashes plain (1 ∷ 2 ∷ 3 ∷ []) rows row ≡ false → filter (is_at key) rows ≡ row ∷ []
  unfolding IsDistinct
  one_at [] h has apart = absurd has
  one_at (r ∷ rows) h (inl same) apart =
      let clear : AllByRecursion (λ y. alike row y ≡ false) rows = subst (λ x. AllByRecursion (λ y. alike x y ≡ false) rows) (sym same) h.apart.0 in
      let none : filter (is_at key) rows ≡ [] = none_at rows h.keyed.1 (free_of rows clear) (or_parts _ _ apart).1 in
      rw (← same, at, none) refl
  one_at (r ∷ rows) h (inr later) apart =
      let other = or_parts _ _ apart in
      let others : HasRowids rows = record { apart = h.apart.1; keyed = h.keyed.1 } in
      rw (off r h.keyed.0 (all_has (λ y. alike r y ≡ false) rows row h.apart.0 later) other.0, one_at rows others later other.1) refl

-- ---- the index that the key of held has keeps rows with one key apart

module _ (schema : Schema) (l : IsLaidOut schema) (db : Trees) (sound : IsSound schema db) where
  there : Has schema.tables (held_at schema)
  there = has_index schema.tables l.held.at (held_at schema) l.held.found.by_index

  guard : (tree : ℕ) × Has schema.indexes (automatic (held_at schema) 0 (1 ∷ 2 ∷ 3 ∷ []) tree)
  guard = all_has (IsGuarded schema.indexes) schema.tables (held_at schema) sound.lists.guarded there 0 (1 ∷ 2 ∷ 3 ∷ []) refl

  pub no_clash : (row : Row) → Has (db (held_tree schema)) row → clashes plain (1 ∷ 2 ∷ 3 ∷ []) (db (held_tree schema)) row ≡ false
  no_clash row has =
      let passed : passes Unique schema db (held_at schema) row ≡ true =
      all_has (λ row. passes Unique schema db (held_at schema) row ≡ true) (db (held_tree schema)) row (all_has _ schema.tables (held_at schema) (sound.obeys.rules Unique) there) has in
      let fits = not-true _ (test_has _ schema.indexes _ passed guard.1) in
      rw (eq-eqb (held_tree schema) (held_tree schema) refl) at fits
