-- The tables that the migration makes.
use Rattle.store.proofs.Names.{◌≡◌, ◌<◌, ◌+◌, ℕ, false, [], ◌∷◌, length, codes, None, refl, sym, ap, subst, ◌∙◌, arith, AllByRecursion, Table, Schema, table_named, created, next_tree, table_below, State, lacks_sequence, meta, held, spans, follow, meta_tree, held_tree, spans_tree, follow_tree, meta_at, held_at, IsFound, HasMeta, HasTable, IsApart, IsLaidOut, with_tables, IsCut, HasBare}
use Rattle.sqlite_schema.specs.Names.{same_name}
use Rattle.store.specs.Migrating.{made_spans, made_both}
use Rattle.store.proofs.AnyWhole.{has_index}
use Rattle.store.proofs.Beside.{made, next_created, found_still, found_made, free_still, sequence_still, alone_made, alone_still, apart_tables, apart_still, all_more, tree_is, has_table, has_still, tree_still}

-- no table of the schema refers to this tree, and neither does one more that has no reference
more_free : (schema : Schema) (table : Table) (tree : ℕ) → tree < next_tree schema → AllByRecursion (IsApart schema tree) schema.tables → IsApart (created schema table) tree (made schema table) → AllByRecursion (IsApart (created schema table) tree) (created schema table).tables
more_free schema table tree low free own = all_more (IsApart (created schema table) tree) schema.tables (made schema table) (apart_still schema table tree low schema.tables free) own

module _ (base : Schema) (v : IsCut base) where
  abbrev one : Schema
  one = with_tables base made_spans

  abbrev two : Schema
  two = with_tables base made_both

  next_one : next_tree one ≡ next_tree base + 2
  next_one = next_created base spans (1 ∷ 2 ∷ []) refl

  pub base_has : HasMeta base × HasTable base held
  base_has = (v.meta, v.held)

  pub one_has : HasMeta one × HasTable one held
  one_has = (has_still base spans meta v.meta, has_still base spans held v.held)

  spans_found : IsFound two (length base.tables) (made base spans)
  spans_found = found_still one follow (length base.tables) (made base spans) (found_made base spans v.no_spans (omega (arith, v.room)))

  follow_one : table_named one (codes "follow") ≡ None
  unfolding same_name
  follow_one = free_still base spans (codes "follow") v.no_follow refl

  follow_found : IsFound two (length one.tables) (made one follow)
  follow_found = found_made one follow follow_one (omega (arith, v.room, next_one))

  spans_at_base : spans_tree two ≡ next_tree base
  spans_at_base = tree_is two (length base.tables) (made base spans) spans_found

  follow_at_one : follow_tree two ≡ next_tree one
  follow_at_one = tree_is two (length one.tables) (made one follow) follow_found

  meta_low : meta_tree base < next_tree base
  meta_low = table_below base (meta_at base) (has_index base.tables v.meta.at (meta_at base) v.meta.found.by_index)

  held_low : held_tree base < next_tree base
  held_low = table_below base (held_at base) (has_index base.tables v.held.at (held_at base) v.held.found.by_index)

  both_free : (tree : ℕ) → tree < next_tree base → AllByRecursion (IsApart base tree) base.tables → AllByRecursion (IsApart two tree) two.tables
  both_free tree low free = more_free one follow tree (omega (arith, low, next_one)) (more_free base spans tree low free tt) tt

  meta_two : meta_tree two ≡ meta_tree base
  meta_two = tree_still one follow meta one_has.0 ∙ tree_still base spans meta v.meta

  held_two : held_tree two ≡ held_tree base
  held_two = tree_still one follow held one_has.1 ∙ tree_still base spans held v.held

  laid_out : IsLaidOut two
  laid_out = record {
    meta = has_still one follow meta one_has.0;
    held = has_still one follow held one_has.1;
    spans = has_table two (length base.tables) spans (next_tree base) spans_found;
    follow = has_table two (length one.tables) follow (next_tree one) follow_found;
    held_free = subst (λ n. AllByRecursion (IsApart two n) two.tables) (sym held_two) (both_free (held_tree base) held_low v.held_free);
    spans_free = subst (λ n. AllByRecursion (IsApart two n) two.tables) (sym spans_at_base)
        (apart_tables two (made base spans) (alone_still one follow (made base spans) (omega (arith, next_one)) (alone_made base spans)) two.tables (all_more _ one.tables (made one follow) (all_more _ base.tables (made base spans) v.spans_free tt) tt));
  }

  pub counted_base : lacks_sequence one ≡ false
  counted_base = sequence_still base spans v.counted refl

  pub counted_one : lacks_sequence two ≡ false
  counted_one = sequence_still one follow counted_base refl

  -- both have been made, and have no row
  pub bare : (s : State) → s.now.schema ≡ two → AllByRecursion (λ tree. s.now.trees tree ≡ []) (next_tree one ∷ next_tree base ∷ []) → HasBare s
  bare s is empty = record {
    laid_out = subst IsLaidOut (sym is) laid_out;
    spans = ap (λ x. s.now.trees (spans_tree x)) is ∙ ap s.now.trees spans_at_base ∙ empty.1.0;
    follow = ap (λ x. s.now.trees (follow_tree x)) is ∙ ap s.now.trees follow_at_one ∙ empty.0;
    meta_free = subst (λ (x : Schema). AllByRecursion (IsApart x (meta_tree x)) x.tables) (sym is) (subst (λ n. AllByRecursion (IsApart two n) two.tables) (sym meta_two) (both_free (meta_tree base) meta_low v.meta_free));
  }
