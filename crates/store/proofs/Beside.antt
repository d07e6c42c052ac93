-- A schema with one table more.
use Rattle.store.proofs.Names.{◌≡◌, ◌≢◌, ◌⊎◌, ◌<◌, ◌+◌, ◌^◌, ◌==◌, ◌&&◌, ◌||◌, not, inl, inr, ℕ, zero, suc, Bool, true, false, cond, is_some, Option, Some, None, List, [], ◌∷◌, ◌++◌, length, slice_get, codes, refl, sym, ap, subst, ◌∙◌, arith, option_and_then, IfSome, false≢true, Reference, parent_key, AllByRecursion, position_from, list_any, ne_eqb, eq-eqb, list_any-append, Table, Index, Schema, table_named, created, next_tree, past_views, table_below, lacks_sequence, meta, held, spans, follow, meta_tree, held_tree, spans_tree, follow_tree, IsFound, HasTable, IsApart, IsLaidOut, IsVacant, with_tables}
use Rattle.std.proofs.Common.{max, find, fold}
use Rattle.std.specs.Option.{option_or, option_map}
use Rattle.sqlite_value.specs.declared.keys.Order.{Order}
use Rattle.sqlite_schema.specs.Rules.{ParentKey, key_in, key_places, declared_order}
use Rattle.std.proofs.lemmas.List.Folds.{find-append}
use Rattle.std.proofs.lemmas.List.Sums.{fold-append}
use Rattle.sqlite_schema.specs.Names.{same_name}
use Rattle.sqlite_rules.specs.Lists.{Has}
use Rattle.sqlite_catalog.proofs.StepLemmas.{same_itself}
use Rattle.sqlite.specs.Rows.{sequence}
use Rattle.store.specs.Layout.{tree_named}
use Rattle.store.specs.Making.{with_meta, with_held, with_spans, new_layout}

-- ---- Look-ups in a list with one item more.

by_test : {A : Type 0} (b : Bool) (a r s o : A) → (r ≡ o → s ≡ o) → cond b a r ≡ o → cond b a s ≡ o
by_test true a r s o f h = h
by_test false a r s o f h = f h

later_place : {X : Type 0} (p : X → Bool) (k n : ℕ) (xs : List X) (x : X) → position_from p k xs ≡ Some n → position_from p k (xs ++ x ∷ []) ≡ Some n
later_place p k n [] x h = absurd (cc)
later_place p k n (y ∷ ys) x h = by_test (p y) (Some k) (position_from p (k + 1) ys) (position_from p (k + 1) (ys ++ x ∷ [])) (Some n) (later_place p (k + 1) n ys x) h

no_test : {A : Type 0} (b : Bool) (a : A) (r s o : Option A) → (r ≡ None → s ≡ o) → cond b (Some a) r ≡ None → cond b (Some a) s ≡ o
no_test true a r s o f h = absurd (cc)
no_test false a r s o f h = f h

last_place : {X : Type 0} (p : X → Bool) (k : ℕ) (xs : List X) (x : X) → position_from p k xs ≡ None → p x ≡ true → position_from p k (xs ++ x ∷ []) ≡ Some (k + length xs)
last_place p k [] x h is = rw is (ap Some (omega arith))
last_place p k (y ∷ ys) x h is = no_test (p y) k (position_from p (k + 1) ys) (position_from p (k + 1) (ys ++ x ∷ [])) (Some (k + length (y ∷ ys))) (λ none. last_place p (k + 1) ys x none is ∙ ap Some (omega arith)) h

no_place : {X : Type 0} (p : X → Bool) (k : ℕ) (xs : List X) (x : X) → position_from p k xs ≡ None → p x ≡ false → position_from p k (xs ++ x ∷ []) ≡ None
no_place p k [] x h is = rw is refl
no_place p k (y ∷ ys) x h is = no_test (p y) k (position_from p (k + 1) ys) (position_from p (k + 1) (ys ++ x ∷ [])) None (λ none. no_place p (k + 1) ys x none is) h

later_item : {X : Type 0} (xs : List X) (n : ℕ) (a x : X) → slice_get xs n ≡ Some a → slice_get (xs ++ x ∷ []) n ≡ Some a
later_item [] n a x h = absurd (cc)
later_item (y ∷ ys) zero a x h = h
later_item (y ∷ ys) (suc n) a x h = later_item ys n a x h

last_item : {X : Type 0} (xs : List X) (x : X) → slice_get (xs ++ x ∷ []) (length xs) ≡ Some x
last_item [] x = refl
last_item (y ∷ ys) x = last_item ys x

none_found : {X : Type 0} (p : X → Bool) (xs : List X) → ((x : X) → Has xs x → p x ≡ false) → find p xs ≡ None
none_found p [] off = refl
none_found p (x ∷ xs) off = rw (off x (inl refl)) (none_found p xs (λ y has. off y (inr has)))

-- ---- Trees.

highest : {X : Type 0} (tree : X → ℕ) (a b : ℕ) (xs : List X) → fold (λ n x. max n (tree x + 1)) (max a b) xs ≡ max (fold (λ n x. max n (tree x + 1)) a xs) b
highest tree a b [] = refl
highest tree a b (x ∷ xs) =
    let turned : max (max a b) (tree x + 1) ≡ max (max a (tree x + 1)) b = omega arith in
    ap (λ n. fold (λ n x. max n (tree x + 1)) n xs) turned ∙ highest tree (max a (tree x + 1)) b xs

-- what a table with one key takes
pub next_created : (schema : Schema) (table : Table) (key : List ℕ) → table.uniques ≡ key ∷ [] → next_tree (created schema table) ≡ next_tree schema + 2
next_created schema table key one =
    let next = next_tree schema in
    let below = fold (λ n (t : Table). max n (t.tree + 1)) (past_views schema) schema.tables in
    let low : fold (λ n (t : Table). max n (t.tree + 1)) (past_views schema) (schema.tables ++ (record table { tree = next }) ∷ []) ≡ max below (next + 1) = fold-append _ (past_views schema) schema.tables ((record table { tree = next }) ∷ []) in
    rw (low, fold-append (λ n (i : Index). max n (i.tree + 1)) (max below (next + 1)) schema.indexes, highest (λ (i : Index). i.tree) below (next + 1) schema.indexes, one) (omega arith)

module _ (schema : Schema) (table : Table) where
  abbrev pub made : Table
  made = record table { tree = next_tree schema }

  abbrev pub after : Schema
  after = created schema table

  -- what was found is found again
  pub found_still : (at : ℕ) (t : Table) → IsFound schema at t → IsFound after at t
  found_still at t f = record {
    by_name = later_place (λ u. same_name u.name t.name) 0 at schema.tables made f.by_name;
    by_index = later_item schema.tables at t made f.by_index;
    by_tree = find-append (λ u. u.tree == t.tree) schema.tables (made ∷ []) ∙ ap (λ o. option_or o (find (λ u. u.tree == t.tree) (made ∷ []))) f.by_tree;
    stored = f.stored;
  }

  -- and so is the new table
  pub found_made : table_named schema table.name ≡ None → next_tree schema < 2 ^ 31 → IsFound after (length schema.tables) made
  found_made free low = record {
    by_name = last_place (λ u. same_name u.name table.name) 0 schema.tables made free (same_itself table.name) ∙ ap Some (omega arith);
    by_index = last_item schema.tables made;
    by_tree = find-append (λ u. u.tree == next_tree schema) schema.tables (made ∷ [])
        ∙ rw (none_found (λ u. u.tree == next_tree schema) schema.tables (λ t has. ne_eqb t.tree (next_tree schema) (λ same. let below = table_below schema t has in omega (arith, same, below))), eq-eqb (next_tree schema) (next_tree schema) refl) refl;
    stored = low;
  }

  pub free_still : (name : List ℕ) → table_named schema name ≡ None → same_name table.name name ≡ false → table_named after name ≡ None
  free_still name free other = no_place (λ u. same_name u.name name) 0 schema.tables made free other

  either_counted : (any : Bool) (counters : Option Table) → (any && not (is_some counters)) ≡ false → table.is_counted ≡ false → (more : Option Table) → (is_some counters ≡ true → is_some more ≡ true) → ((any || (table.is_counted || false)) && not (is_some more)) ≡ false
  either_counted true (Some t) had plain more still = rw (still refl) refl
  either_counted true None had plain more still = absurd (cc)
  either_counted false counters had plain more still = rw plain refl

  abbrev counters : List ℕ
  counters = codes "sqlite_sequence"

  still_some : is_some (sequence schema) ≡ true → is_some (sequence after) ≡ true
  still_some h = by_name (table_named schema counters) refl h
    where
      by_item : (n : ℕ) (o : Option Table) → table_named schema counters ≡ Some n → slice_get schema.tables n ≡ o → is_some o ≡ true → is_some (sequence after) ≡ true
      by_item n None named got h = absurd (cc)
      by_item n (Some t) named got h = rw (later_place (λ u. same_name u.name counters) 0 n schema.tables made named, later_item schema.tables n t made got) refl

      by_name : (o : Option ℕ) → table_named schema counters ≡ o → is_some (option_and_then (slice_get schema.tables) o) ≡ true → is_some (sequence after) ≡ true
      by_name None named h = absurd (cc)
      by_name (Some n) named h = by_item n (slice_get schema.tables n) named refl h

  pub sequence_still : lacks_sequence schema ≡ false → table.is_counted ≡ false → lacks_sequence after ≡ false
  sequence_still had plain = rw (list_any-append (λ (t : Table). t.is_counted) schema.tables (made ∷ [])) (either_counted (list_any (λ (t : Table). t.is_counted) schema.tables) (sequence schema) had plain (sequence after) still_some)

-- ---- References.

-- no other table has the table's tree
pub IsAlone : Schema → Table → Type 0
IsAlone schema table = (t : Table) → Has schema.tables t → t.tree ≡ table.tree → t ≡ table

last_has : {X : Type 0} (xs : List X) (x y : X) → Has (xs ++ x ∷ []) y → Has xs y ⊎ (y ≡ x)
last_has [] x y (inl h) = inr h
last_has [] x y (inr h) = absurd h
last_has (z ∷ zs) x y (inl h) = inl (inl h)
last_has (z ∷ zs) x y (inr h) = elim (last_has zs x y h) [ inl before ↦ inl (inr before) | inr last ↦ inr last ]

module _ (schema : Schema) (table : Table) where
  pub alone_still : (t : Table) → t.tree < next_tree schema → IsAlone schema t → IsAlone (created schema table) t
  unfolding IsAlone
  alone_still t low alone u has same = elim (last_has schema.tables (made schema table) u has) [
    | inl before ↦ alone u before same
    | inr last ↦ absurd (let tree = ap (λ (x : Table). x.tree) last in omega (arith, tree, same, low))
  ]

  pub alone_made : IsAlone (created schema table) (made schema table)
  unfolding IsAlone
  alone_made u has same = elim (last_has schema.tables (made schema table) u has) [
    | inl before ↦ absurd (let below = table_below schema u before in omega (arith, same, below))
    | inr last ↦ last
  ]

here_or_later : {X : Type 0} (p : X → Bool) (ys : List X) (x y : X) (b : Bool) → p y ≡ b → cond b (Some y) (find p ys) ≡ Some x → (find p ys ≡ Some x → Has ys x × (p x ≡ true)) → ((x ≡ y) ⊎ Has ys x) × (p x ≡ true)
here_or_later p ys x y true is h later = let same : y ≡ x = cc in (inl (sym same), subst (λ z. p z ≡ true) same is)
here_or_later p ys x y false is h later = let found = later h in (inr found.0, found.1)

pub found_passes : {X : Type 0} (p : X → Bool) (xs : List X) (x : X) → find p xs ≡ Some x → Has xs x × (p x ≡ true)
found_passes p [] x h = absurd (cc)
found_passes p (y ∷ ys) x h = here_or_later p ys x y (p y) refl h (found_passes p ys x)

-- a key of another table
module _ (tree : ℕ) where
  off_tree : (t : Table) (key : List ℕ) (o : Option Order) → t.tree ≢ tree → IfSome (option_map (λ (x : Order). (t.tree, key, x)) o) (λ (k : ParentKey). k.0 ≢ tree)
  off_tree t key None off = tt
  off_tree t key (Some x) off = off

  of_key : (t : Table) (o : Option (List ℕ)) → t.tree ≢ tree → IfSome (option_and_then (key_in t) o) (λ k. k.0 ≢ tree)
  of_key t None off = tt
  of_key t (Some key) off = off_tree t key (declared_order t key) off

-- A reference by another name does not point to the table's tree.
module _ (schema : Schema) (table : Table) (alone : IsAlone schema table) where
  of_parent : (ref : Reference) (o : Option Table) → find (λ (t : Table). same_name t.name ref.parent) schema.tables ≡ o → same_name table.name ref.parent ≡ false
      → IfSome (option_and_then (λ t. option_and_then (key_in t) (key_places t ref.parent_columns)) o) (λ k. k.0 ≢ table.tree)
  unfolding IsAlone
  of_parent ref None found other = tt
  of_parent ref (Some t) found other =
      let is = found_passes (λ (u : Table). same_name u.name ref.parent) schema.tables t found in
      of_key table.tree t (key_places t ref.parent_columns) (λ same. absurd (false≢true (sym other ∙ ap (λ (u : Table). same_name u.name ref.parent) (sym (alone t is.0 same)) ∙ is.1)))

  pub apart_by : (ref : Reference) → same_name table.name ref.parent ≡ false → IfSome (parent_key schema.tables ref) (λ k. k.0 ≢ table.tree)
  apart_by ref other = of_parent ref _ refl other

apart_refs : (schema : Schema) (table : Table) → IsAlone schema table → (refs : List Reference) → AllByRecursion (λ ref. same_name table.name ref.parent ≡ false) refs → AllByRecursion (λ ref. IfSome (parent_key schema.tables ref) (λ k. k.0 ≢ table.tree)) refs
apart_refs schema table alone [] all = tt
apart_refs schema table alone (ref ∷ refs) all = (apart_by schema table alone ref all.0, apart_refs schema table alone refs all.1)

pub apart_tables : (schema : Schema) (table : Table) → IsAlone schema table → (tables : List Table) → AllByRecursion (λ t. AllByRecursion (λ ref. same_name table.name ref.parent ≡ false) t.references) tables → AllByRecursion (IsApart schema table.tree) tables
apart_tables schema table alone [] all = tt
apart_tables schema table alone (t ∷ tables) all = (apart_refs schema table alone t.references all.0, apart_tables schema table alone tables all.1)

-- What pointed to another tree does so beside a new table.
module _ (schema : Schema) (table : Table) (tree : ℕ) (low : tree < next_tree schema) where
  of_found : (ref : Reference) (o m : Option Table) → IfSome (option_and_then (λ t. option_and_then (key_in t) (key_places t ref.parent_columns)) o) (λ k. k.0 ≢ tree) → ((t : Table) → m ≡ Some t → t.tree ≢ tree)
      → IfSome (option_and_then (λ t. option_and_then (key_in t) (key_places t ref.parent_columns)) (option_or o m)) (λ k. k.0 ≢ tree)
  of_found ref (Some t) m was off = was
  of_found ref None None was off = tt
  of_found ref None (Some t) was off = of_key tree t (key_places t ref.parent_columns) (off t refl)

  refs_still : (refs : List Reference) → AllByRecursion (λ ref. IfSome (parent_key schema.tables ref) (λ k. k.0 ≢ tree)) refs → AllByRecursion (λ ref. IfSome (parent_key (created schema table).tables ref) (λ k. k.0 ≢ tree)) refs
  refs_still [] all = tt
  refs_still (ref ∷ refs) all = (
    rw (find-append (λ (t : Table). same_name t.name ref.parent) schema.tables (made schema table ∷ []))
        (of_found ref (find (λ (t : Table). same_name t.name ref.parent) schema.tables) (find (λ (t : Table). same_name t.name ref.parent) (made schema table ∷ [])) all.0
        (λ t found same. absurd (let is = (found_passes (λ (u : Table). same_name u.name ref.parent) (made schema table ∷ []) t found).0 in only_made t is same))),
    refs_still refs all.1,
  )
    where
      only_made : (t : Table) → Has (made schema table ∷ []) t → t.tree ≡ tree → ⊥
      only_made t (inl is) same = let at = ap (λ (x : Table). x.tree) is in omega (arith, at, same, low)
      only_made t (inr none) same = none

  pub apart_still : (ts : List Table) → AllByRecursion (IsApart schema tree) ts → AllByRecursion (IsApart (created schema table) tree) ts
  apart_still [] all = tt
  apart_still (t ∷ ts) all = (refs_still t.references all.0, apart_still ts all.1)

pub all_more : {X : Type 0} (P : X → Type 0) (xs : List X) (x : X) → AllByRecursion P xs → P x → AllByRecursion P (xs ++ x ∷ [])
all_more P [] x all h = (h, tt)
all_more P (y ∷ ys) x all h = (all.0, all_more P ys x all.1 h)

-- ---- The four tables.

pub tree_is : (schema : Schema) (at : ℕ) (table : Table) → IsFound schema at table → tree_named schema table.name ≡ table.tree
unfolding tree_named
tree_is schema at table f = rw (f.by_name, f.by_index) refl

pub has_table : (schema : Schema) (at : ℕ) (table : Table) (tree : ℕ) → IsFound schema at (record table { tree = tree }) → HasTable schema table
has_table schema at table tree f = record { at = at; found = subst (λ n. IsFound schema at (record table { tree = n })) (sym (tree_is schema at (record table { tree = tree }) f)) f }

module _ (schema : Schema) (made_table table : Table) (h : HasTable schema table) where
  pub has_still : HasTable (created schema made_table) table
  has_still = has_table (created schema made_table) h.at table (tree_named schema table.name) (found_still schema made_table h.at (record table { tree = tree_named schema table.name }) h.found)

  pub tree_still : tree_named (created schema made_table) table.name ≡ tree_named schema table.name
  tree_still = tree_is (created schema made_table) h.at (record table { tree = tree_named schema table.name }) (found_still schema made_table h.at (record table { tree = tree_named schema table.name }) h.found)

module _ (base : Schema) (v : IsVacant base) where
  abbrev one : Schema
  one = with_tables base with_meta

  abbrev two : Schema
  two = with_tables base with_held

  abbrev three : Schema
  three = with_tables base with_spans

  abbrev four : Schema
  four = with_tables base new_layout

  next_one : next_tree one ≡ next_tree base + 2
  next_one = next_created base meta (1 ∷ []) refl

  next_two : next_tree two ≡ next_tree base + 4
  next_two = let more = next_created one held (1 ∷ 2 ∷ 3 ∷ []) refl in omega (arith, next_one, more)

  next_three : next_tree three ≡ next_tree base + 6
  next_three = let more = next_created two spans (1 ∷ 2 ∷ []) refl in omega (arith, next_two, more)

  held_one : table_named one (codes "held") ≡ None
  unfolding same_name
  held_one = free_still base meta (codes "held") v.no_held refl

  spans_two : table_named two (codes "spans") ≡ None
  unfolding same_name
  spans_two = free_still one held (codes "spans") (free_still base meta (codes "spans") v.no_spans refl) refl

  follow_three : table_named three (codes "follow") ≡ None
  unfolding same_name
  follow_three = free_still two spans (codes "follow") (free_still one held (codes "follow") (free_still base meta (codes "follow") v.no_follow refl) refl) refl

  meta_one : IsFound one (length base.tables) (made base meta)
  meta_one = found_made base meta v.no_meta (omega (arith, v.room))

  meta_two : IsFound two (length base.tables) (made base meta)
  meta_two = found_still one held (length base.tables) (made base meta) meta_one

  meta_three : IsFound three (length base.tables) (made base meta)
  meta_three = found_still two spans (length base.tables) (made base meta) meta_two

  meta_found : IsFound four (length base.tables) (made base meta)
  meta_found = found_still three follow (length base.tables) (made base meta) meta_three

  held_found : IsFound four (length one.tables) (made one held)
  held_found = found_still three follow (length one.tables) (made one held) (found_still two spans (length one.tables) (made one held) (found_made one held held_one (omega (arith, v.room, next_one))))

  spans_found : IsFound four (length two.tables) (made two spans)
  spans_found = found_still three follow (length two.tables) (made two spans) (found_made two spans spans_two (omega (arith, v.room, next_two)))

  follow_found : IsFound four (length three.tables) (made three follow)
  follow_found = found_made three follow follow_three (omega (arith, v.room, next_three))

  pub meta_at_one : meta_tree one ≡ next_tree base
  meta_at_one = tree_is one (length base.tables) (made base meta) meta_one

  pub meta_at_two : meta_tree two ≡ next_tree base
  meta_at_two = tree_is two (length base.tables) (made base meta) meta_two

  pub meta_at_three : meta_tree three ≡ next_tree base
  meta_at_three = tree_is three (length base.tables) (made base meta) meta_three

  pub meta_at_base : meta_tree four ≡ next_tree base
  meta_at_base = tree_is four (length base.tables) (made base meta) meta_found

  pub held_at_one : held_tree four ≡ next_tree one
  held_at_one = tree_is four (length one.tables) (made one held) held_found

  pub spans_at_two : spans_tree four ≡ next_tree two
  spans_at_two = tree_is four (length two.tables) (made two spans) spans_found

  pub follow_at_three : follow_tree four ≡ next_tree three
  follow_at_three = tree_is four (length three.tables) (made three follow) follow_found

  held_alone : IsAlone four (made one held)
  held_alone = alone_still three follow (made one held) (omega (arith, next_one, next_three)) (alone_still two spans (made one held) (omega (arith, next_one, next_two)) (alone_made one held))

  spans_alone : IsAlone four (made two spans)
  spans_alone = alone_still three follow (made two spans) (omega (arith, next_two, next_three)) (alone_made two spans)

  unnamed : (name : List ℕ) → AllByRecursion (λ t. AllByRecursion (λ ref. same_name name ref.parent ≡ false) t.references) base.tables → AllByRecursion (λ t. AllByRecursion (λ ref. same_name name ref.parent ≡ false) t.references) four.tables
  unnamed name all =
      let P : Table → Type 0 = λ t. AllByRecursion (λ ref. same_name name ref.parent ≡ false) t.references in
      all_more P three.tables (made three follow) (all_more P two.tables (made two spans) (all_more P one.tables (made one held) (all_more P base.tables (made base meta) all tt) tt) tt) tt

  pub laid_out : IsLaidOut four
  laid_out = record {
    meta = has_table four (length base.tables) meta (next_tree base) meta_found;
    held = has_table four (length one.tables) held (next_tree one) held_found;
    spans = has_table four (length two.tables) spans (next_tree two) spans_found;
    follow = has_table four (length three.tables) follow (next_tree three) follow_found;
    held_free = subst (λ n. AllByRecursion (IsApart four n) four.tables) (sym held_at_one) (apart_tables four (made one held) held_alone four.tables (unnamed (codes "held") v.held_free));
    spans_free = subst (λ n. AllByRecursion (IsApart four n) four.tables) (sym spans_at_two) (apart_tables four (made two spans) spans_alone four.tables (unnamed (codes "spans") v.spans_free));
  }

  pub counted_base : lacks_sequence one ≡ false
  counted_base = sequence_still base meta v.counted refl

  pub counted_one : lacks_sequence two ≡ false
  counted_one = sequence_still one held counted_base refl

  pub counted_two : lacks_sequence three ≡ false
  counted_two = sequence_still two spans counted_one refl

  pub counted_three : lacks_sequence four ≡ false
  counted_three = sequence_still three follow counted_two refl
