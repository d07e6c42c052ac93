-- Trees that list two schemas list the same tables.
use Rattle.store.proofs.Names.{option_and_then, next_tree, past_views, ◌≡◌, ◌+◌, ℕ, pos, List, [], ◌∷◌, filter, slice_get, false, refl, sym, ap, ap₂, subst, ◌∙◌, arith, AllByRecursion, list_any, position_from, Int, Text, Row, Trees, Table, Index, Schema, table_named, IsSound, IsIndexRow, IsVacant}
use Rattle.std.specs.Prelude.{max, fold, codes, is_some, not, ◌&&◌, None}
use Rattle.sqlite_schema.specs.declared.schema.View.{View}
use Rattle.std.specs.List.{AllZip}
use Rattle.sqlite_trees.specs.Objects.{catalog_tree}
use Rattle.sqlite_schema.specs.Names.{same_name}
use Rattle.sqlite_resolve.specs.Compile.{table_defined_by}
use Rattle.sqlite_catalog.specs.Listing.{IsTableRow, IsViewRow, is_index_row, is_view_row}

-- ---- One row of the catalog is one table.

one_table : (row : Row) (a b : Table) → IsTableRow row a → IsTableRow row b → a ≡ b
one_table row a b p q =
    let texts : Text p.sql ≡ Text q.sql = sym p.sql_is ∙ q.sql_is in
    let sql : p.sql ≡ q.sql = cc in
    let ids : Int (pos (a.tree + 1)) ≡ Int (pos (b.tree + 1)) = sym p.described.id ∙ q.described.id in
    let next : a.tree + 1 ≡ b.tree + 1 = cc in
    let tree : a.tree ≡ b.tree = omega (arith, next) in
    let both = sym p.defined.1 ∙ ap table_defined_by sql ∙ q.defined.1 in
    let made : p.defined.0 ≡ q.defined.0 = cc in
    p.defined.2 ∙ ap₂ (λ (m : Table) (n : ℕ). record m { tree = n }) made tree ∙ sym q.defined.2

same_tables : (rows : List Row) (ts us : List Table) → AllZip IsTableRow rows ts → AllZip IsTableRow rows us → ts ≡ us
same_tables [] [] [] p q = refl
same_tables [] [] (u ∷ us) p q = absurd q
same_tables [] (t ∷ ts) us p q = absurd p
same_tables (r ∷ rows) [] us p q = absurd p
same_tables (r ∷ rows) (t ∷ ts) [] p q = absurd q
same_tables (r ∷ rows) (t ∷ ts) (u ∷ us) p q = ap₂ (λ x xs. x ∷ xs) (one_table r t u p.0 q.0) (same_tables rows ts us p.1 q.1)

-- ---- One schema.

module _ (trees : Trees) (s u : Schema) (p : IsSound s trees) (q : IsSound u trees) where
  pub tables_again : s.tables ≡ u.tables
  tables_again = same_tables _ s.tables u.tables p.lists.listed.tables q.lists.listed.tables

  trees_after : {X : Type 0} (tree : X → ℕ) (R : Row → X → Type 0) (n : ℕ) (rows : List Row) (xs ys : List X) → ((row : Row) (x y : X) → R row x → R row y → tree x ≡ tree y) → AllZip R rows xs → AllZip R rows ys
      → fold (λ m x. max m (tree x + 1)) n xs ≡ fold (λ m x. max m (tree x + 1)) n ys
  trees_after tree R n [] [] [] one p q = refl
  trees_after tree R n [] [] (y ∷ ys) one p q = absurd q
  trees_after tree R n [] (x ∷ xs) ys one p q = absurd p
  trees_after tree R n (r ∷ rows) [] ys one p q = absurd p
  trees_after tree R n (r ∷ rows) (x ∷ xs) [] one p q = absurd q
  trees_after tree R n (r ∷ rows) (x ∷ xs) (y ∷ ys) one p q =
      ap (λ m. fold (λ k z. max k (tree z + 1)) (max n (m + 1)) xs) (one r x y p.0 q.0) ∙ trees_after tree R (max n (tree y + 1)) rows xs ys one p.1 q.1

  one_view : (row : Row) (a b : View) → IsViewRow row a → IsViewRow row b → a.tree ≡ b.tree
  one_view row a b p q =
      let ids : Int (pos (a.tree + 1)) ≡ Int (pos (b.tree + 1)) = sym p.described.id ∙ q.described.id in
      let next : a.tree + 1 ≡ b.tree + 1 = cc in
      omega (arith, next)

  one_place : (row : Row) (i j : Index) → IsIndexRow s.tables row i → IsIndexRow s.tables row j → i.tree ≡ j.tree
  one_place row i j p q =
      let ids : Int (pos (i.tree + 1)) ≡ Int (pos (j.tree + 1)) = sym p.described.id ∙ q.described.id in
      let next : i.tree + 1 ≡ j.tree + 1 = cc in
      omega (arith, next)

  pub next_again : next_tree s ≡ next_tree u
  next_again =
      let views : past_views s ≡ past_views u = trees_after (λ (w : View). w.tree) IsViewRow 0 (filter is_view_row (trees catalog_tree)) s.views u.views one_view p.lists.listed.views q.lists.listed.views in
      let tables : fold (λ n (t : Table). max n (t.tree + 1)) (past_views s) s.tables ≡ fold (λ n (t : Table). max n (t.tree + 1)) (past_views u) u.tables = ap₂ (λ n ts. fold (λ n (t : Table). max n (t.tree + 1)) n ts) views tables_again in
      ap (λ n. fold (λ n (i : Index). max n (i.tree + 1)) n s.indexes) tables
      ∙ trees_after (λ (i : Index). i.tree) (IsIndexRow s.tables) (fold (λ n (t : Table). max n (t.tree + 1)) (past_views u) u.tables) (filter is_index_row (trees catalog_tree)) s.indexes u.indexes one_place p.lists.listed.indexes
      (subst (λ ts. AllZip (IsIndexRow ts) (filter is_index_row (trees catalog_tree)) u.indexes) (sym tables_again) q.lists.listed.indexes)

  pub vacant_again : IsVacant s → IsVacant u
  vacant_again v =
      let named : (name : List ℕ) → table_named s name ≡ None → table_named u name ≡ None = λ name none. ap (λ ts. position_from (λ (t : Table). same_name t.name name) 0 ts) (sym tables_again) ∙ none in
      record {
        no_meta = named (codes "meta") v.no_meta;
        no_executed = named (codes "executed") v.no_executed;
        no_held = named (codes "held") v.no_held;
        no_spans = named (codes "spans") v.no_spans;
        no_follow = named (codes "follow") v.no_follow;
        held_free = subst (AllByRecursion (λ (t : Table). AllByRecursion (λ ref. same_name (codes "held") ref.parent ≡ false) t.references)) tables_again v.held_free;
        spans_free = subst (AllByRecursion (λ (t : Table). AllByRecursion (λ ref. same_name (codes "spans") ref.parent ≡ false) t.references)) tables_again v.spans_free;
        counted = subst (λ (ts : List Table). (list_any (λ t. t.is_counted) ts && not (is_some (option_and_then (slice_get ts) (position_from (λ t. same_name t.name (codes "sqlite_sequence")) 0 ts)))) ≡ false) tables_again v.counted;
        room = rw (← next_again) (v.room);
      }
