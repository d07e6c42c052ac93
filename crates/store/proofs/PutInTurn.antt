-- New rows that are put in one after another.
use Rattle.store.proofs.Names.{◌≡◌, inl, inr, List, [], ◌∷◌, map, pos, Bool, true, false, refl, sym, ap, subst, arith, AllByRecursion, list_any, is_eq, match_ordering, Ordering, Less, Equal, Greater, or_parts, and_parts, not-true, Value, Int, Blob, plain, Row, rowid, put_row, all-put_row, next_rowid, are_fresh, is_taken, put_all, Chosen, Schema, clashes, IsSomeImage, held_at, Key, HasRowids, IsHeldRow, is_at, count, Appear}
use Rattle.std.proofs.Common.{drop}
use Rattle.sqlite_value.specs.Order.{value_cmp}
use Rattle.sqlite_rules.specs.Lists.{Has}
use Rattle.sqlite_rules.specs.Cast.{cast_row}
use Rattle.sqlite_rules.specs.Edit.{numbered}
use Rattle.sqlite_rules.proofs.TableLemmas.{has_put}
use Rattle.store.proofs.Statements.{given_row, cast_null, cast_int}
use Rattle.store.proofs.Unique.{none_before, none_at}
use Rattle.store.proofs.RowLemmas.{own_bytes, rowids_put, counts_inserted, count_none}

own_key : (key : Key) (id last : Value) → is_at key (id ∷ Blob key.schema ∷ Blob key.table ∷ Blob key.image ∷ last ∷ []) ≡ true
own_key key id last = rw (own_bytes key.schema, own_bytes key.table, own_bytes key.image) refl

-- ---- the rows with their rowids, each the next one after the rows before it

abbrev new_held : Key → List Row → Row
new_held key rows = Int (next_rowid rows) ∷ Blob key.schema ∷ Blob key.table ∷ Blob key.image ∷ Int (pos 1) ∷ []

abbrev pub all_new : List Key → List Row → List Row
all_new [] rows = []
all_new (key ∷ keys) rows = new_held key rows ∷ all_new keys (put_row (new_held key rows) rows)

pub numbered_are : (schema : Schema) (keys : List Key) (rows : List Row) → numbered Chosen rows (map (λ s. cast_row (held_at schema) (drop 0 s)) (map given_row keys)) ≡ all_new keys rows
numbered_are schema [] rows = refl
numbered_are schema (key ∷ keys) rows = rw (cast_null, cast_int (pos 1)) (ap (λ news. new_held key rows ∷ news) (numbered_are schema keys (put_row (new_held key rows) rows)))

-- ---- a row that is there stays, and what holds for no row afterwards holds for none before

has_later : (new : Row) (rows : List Row) (row : Row) → is_taken rows new ≡ false → Has rows row → Has (put_row new rows) row
has_later new [] row free has = absurd has
has_later new (r ∷ rows) row free has = let parts = or_parts _ _ free in go (value_cmp (rowid r) (rowid new)) parts.0 has (has_later new rows row parts.1)
  where
    go : (o : Ordering) → is_eq o ≡ false → Has (r ∷ rows) row → (Has rows row → Has (put_row new rows) row) → Has (match_ordering o (r ∷ put_row new rows) (new ∷ rows) (new ∷ r ∷ rows)) row
    go Less off (inl same) later = inl same
    go Less off (inr more) later = inr (later more)
    go Equal off has later = absurd (cc)
    go Greater off has later = inr has

has_still : (rows news : List Row) (row : Row) → are_fresh rows news ≡ true → Has rows row → Has (put_all rows news) row
has_still rows [] row fresh has = has
has_still rows (new ∷ news) row fresh has = let parts = and_parts _ _ fresh in has_still (put_row new rows) news row parts.1 (has_later new rows row (not-true _ parts.0) has)

none_earlier : (p : Row → Bool) (rows news : List Row) → are_fresh rows news ≡ true → list_any p (put_all rows news) ≡ false → list_any p rows ≡ false
none_earlier p rows [] fresh none = none
none_earlier p rows (new ∷ news) fresh none = let parts = and_parts _ _ fresh in none_before p new rows (not-true _ parts.0) (none_earlier p (put_row new rows) news parts.1 none)

-- ---- where no two rows have a key at the end, each new row had one that no row had

module _ (end : List Row) (apart : (row : Row) → Has end row → clashes plain (1 ∷ 2 ∷ 3 ∷ []) end row ≡ false) where
  pub put_in_turn : (keys : List Key) (rows : List Row) → AllByRecursion (λ key. IsSomeImage key.image) keys → HasRowids rows → AllByRecursion IsHeldRow rows
      → are_fresh rows (all_new keys rows) ≡ true → put_all rows (all_new keys rows) ≡ end → HasRowids end × AllByRecursion IsHeldRow end × Appear keys (count rows) (count end)
  put_in_turn [] rows stored keyed lawful fresh is = (subst HasRowids is keyed, subst (AllByRecursion IsHeldRow) is lawful, ap count (sym is))
  put_in_turn (key ∷ keys) rows stored keyed lawful fresh is =
      let row = new_held key rows in
      let more = put_row row rows in
      let news = all_new keys more in
      let parts = and_parts _ _ fresh in
      let free : is_taken rows row ≡ false = not-true _ parts.0 in
      let at : is_at key row ≡ true = own_key key (Int (next_rowid rows)) (Int (pos 1)) in
      let then = put_in_turn keys more stored.1 (rowids_put row rows refl free keyed) (all-put_row IsHeldRow row rows (_, key, 1, refl, omega arith, omega arith, stored.0) lawful) parts.1 is in
      let there : Has end row = subst (λ l. Has l row) is (has_still more news row parts.1 (has_put row rows)) in
      let none : clashes plain (1 ∷ 2 ∷ 3 ∷ []) rows row ≡ false = none_before _ row rows free (none_earlier _ more news parts.1 (rw is (apart row there))) in
      let zero : count rows key ≡ 0 = count_none key rows (none_at key row at refl rows keyed.keyed free none) in
      (then.0, then.1, (zero, subst (λ c. Appear keys c (count end)) (counts_inserted key row rows at refl free) then.2))
