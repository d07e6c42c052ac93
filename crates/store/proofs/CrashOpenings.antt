-- Opening what a crash left.
use Rattle.store.proofs.Names.{◌≡◌, inl, inr, ℕ, pos, IsTrue, Option, refl, sym, ap, subst, subst₂, ◌∙◌, AllByRecursion, option_and_then, IfSome, position_from, list_any, table_named, next_tree, Trees, Schema, Table, parent_key, IsSound, IsDatabase, State, Survives, Names, StoreFault, Memory, Damaged, Content, IsLaidOut, IsFirstLaidOut, IsFound, HasTable, IsApart, meta, held, spans, follow, meta_tree, executed_tree, held_tree, spans_tree, follow_tree, StandsFor, SaysLayout, HasRowids, IsMetaRow, IsHeldRow, IsExecutedRow, id_in, AreNames, AreSpans, span_rows, bag_of, count, AreOf, IsAtRest, IsOf, IsReady, IsWanted, IsTurned, MayEnter, names_for}
use Rattle.std.specs.Option.{option_map}
use Rattle.std.specs.Prelude.{slice_get, find, ◌==◌, ◌&&◌, not, is_some, false, None, map, codes, List, unwrap_or, ◌≢◌}
use Rattle.std.specs.FinSet as set
use Rattle.sqlite_schema.specs.Names.{same_name}
use Rattle.sqlite.specs.Effect.{Database as Stored}
use Rattle.store.specs.declared.fault.StoreFault.TheVariants.{Database, Layout, Follows}
use Rattle.store.specs.Layout.{IsNoParent, tree_named, executed}
use Rattle.store.specs.Entering.{IsRefusedOpening, IsLeft}
use Rattle.store.proofs.SameSchema.{tables_again, next_again, vacant_again}
use Rattle.store.proofs.OneState.{one_of, known_of, not_damaged, not_other}
use Rattle.store.proofs.OpeningOutcome.{weaken}

-- ---- The same trees under another schema that they list.

module _ (s u : Schema) (same : s.tables ≡ u.tables) where
  tree_again : (name : List ℕ) → tree_named s name ≡ tree_named u name
  unfolding tree_named
  tree_again name = ap (λ ts. unwrap_or (option_map (λ (t : Table). t.tree) (option_and_then (slice_get ts) (position_from (λ t. same_name t.name name) 0 ts))) 0) same

  found_again : (at : ℕ) (table : Table) → IsFound s at table → IsFound u at table
  found_again at table f = record {
    by_name = ap (λ ts. position_from (λ (t : Table). same_name t.name table.name) 0 ts) (sym same) ∙ f.by_name;
    by_index = ap (λ (ts : List Table). slice_get ts at) (sym same) ∙ f.by_index;
    by_tree = ap (λ (ts : List Table). find (λ t. t.tree == table.tree) ts) (sym same) ∙ f.by_tree;
    stored = f.stored;
  }

  has_again : (table : Table) → HasTable s table → HasTable u table
  has_again table h = record { at = h.at; found = subst (λ n. IsFound u h.at (record table { tree = n })) (tree_again table.name) (found_again h.at (record table { tree = tree_named s table.name }) h.found) }

  free_again : (name : List ℕ) → AllByRecursion (IsApart s (tree_named s name)) s.tables → AllByRecursion (IsApart u (tree_named u name)) u.tables
  free_again name all = subst (λ n. AllByRecursion (IsApart u n) u.tables) (tree_again name)
      (subst (λ ts. AllByRecursion (λ (t : Table). AllByRecursion (λ ref. IfSome (parent_key ts ref) (λ key. key.0 ≢ tree_named s name)) t.references) ts) same all)

  laid_again : IsLaidOut s → IsLaidOut u
  laid_again l = record {
    meta = has_again meta l.meta;
    held = has_again held l.held;
    spans = has_again spans l.spans;
    follow = has_again follow l.follow;
    held_free = free_again (codes "held") l.held_free;
    spans_free = free_again (codes "spans") l.spans_free;
  }

  first_again : next_tree s ≡ next_tree u → IsFirstLaidOut s → IsFirstLaidOut u
  first_again next l =
      let none : (name : List ℕ) → table_named s name ≡ None → table_named u name ≡ None = λ name none. ap (λ ts. position_from (λ (t : Table). same_name t.name name) 0 ts) (sym same) ∙ none in
      let unnamed : (name : List ℕ) → IsNoParent s name → IsNoParent u name = λ name all. subst (AllByRecursion (λ (t : Table). AllByRecursion (λ ref. same_name name ref.parent ≡ false) t.references)) same all in
      record {
        meta = has_again meta l.meta;
        executed = has_again executed l.executed;
        held = has_again held l.held;
        no_spans = none (codes "spans") l.no_spans;
        no_follow = none (codes "follow") l.no_follow;
        alone = subst (λ n. AllByRecursion (λ (t : Table). t.tree ≡ n → t.name ≡ codes "executed") u.tables) (tree_again (codes "executed")) (subst (AllByRecursion (λ (t : Table). t.tree ≡ executed_tree s → t.name ≡ codes "executed")) same l.alone);
        meta_free = free_again (codes "meta") l.meta_free;
        held_free = free_again (codes "held") l.held_free;
        executed_free = unnamed (codes "executed") l.executed_free;
        spans_free = unnamed (codes "spans") l.spans_free;
        counted = subst (λ (ts : List Table). (list_any (λ t. t.is_counted) ts && not (is_some (option_and_then (slice_get ts) (position_from (λ t. same_name t.name (codes "sqlite_sequence")) 0 ts)))) ≡ false) same l.counted;
        room = rw (← next) l.room;
      }

module _ (s u : Schema) (trees : Trees) (same : s.tables ≡ u.tables) where
  meta_same : meta_tree s ≡ meta_tree u
  meta_same = tree_again s u same (codes "meta")

  held_same : held_tree s ≡ held_tree u
  held_same = tree_again s u same (codes "held")

  spans_same : spans_tree s ≡ spans_tree u
  spans_same = tree_again s u same (codes "spans")

  follow_same : follow_tree s ≡ follow_tree u
  follow_same = tree_again s u same (codes "follow")

  stands_again : (names : Names) (content : Content) → StandsFor (record { schema = s; trees = trees }) names content → StandsFor (record { schema = u; trees = trees }) names content
  stands_again names content h = record {
    laid_out = laid_again s u same h.laid_out;
    says = subst (λ at. SaysLayout (pos 2) (trees at)) meta_same h.says;
    meta = subst (λ at. AllByRecursion IsMetaRow (trees at)) meta_same h.meta;
    follow = subst (λ at. AreNames (trees at) names) follow_same h.follow;
    held = subst (λ at. AllByRecursion IsHeldRow (trees at)) held_same h.held;
    executed = subst (λ at. AreSpans (trees at) content.executed) spans_same h.executed;
    rows = h.rows ∙ ap (λ at. bag_of (count (trees at))) held_same;
  }

  rowids_again : (IsLaidOut s → HasRowids (span_rows (record { schema = s; trees = trees }))) → IsLaidOut u → HasRowids (span_rows (record { schema = u; trees = trees }))
  rowids_again h laid = subst (λ at. HasRowids (trees at)) spans_same (h (laid_again u s (sym same) laid))

module _ (only names : Names) (content : Content) (trees : Trees) (s u : Schema) (p : IsSound s trees) (q : IsSound u trees) where
  executed_same : executed_tree s ≡ executed_tree u
  executed_same = tree_again s u (tables_again trees s u p q) (codes "executed")

  of_again : IsOf only names (record { schema = s; trees = trees }) content → IsOf only names (record { schema = u; trees = trees }) content
  of_again (inl h) = inl ((vacant_again trees s u p q h.0.0, h.0.1), h.1)
  of_again (inr (inl h)) = inr (inl (stands_again s u trees (tables_again trees s u p q) names content h))
  of_again (inr (inr h)) = inr (inr (
    h.0,
    record {
      laid_out = first_again s u (tables_again trees s u p q) (next_again trees s u p q) h.1.laid_out;
      says = subst (λ at. SaysLayout (pos 1) (trees at)) (meta_same s u trees (tables_again trees s u p q)) h.1.says;
      rules = record { meta = subst (λ at. AllByRecursion IsMetaRow (trees at)) (meta_same s u trees (tables_again trees s u p q)) h.1.rules.meta; executed = subst (λ at. AllByRecursion IsExecutedRow (trees at)) executed_same h.1.rules.executed; held = subst (λ at. AllByRecursion IsHeldRow (trees at)) (held_same s u trees (tables_again trees s u p q)) h.1.rules.held };
      executed = h.1.executed ∙ ap (λ at. set.from_list (map id_in (trees at))) executed_same;
      rows = h.1.rows ∙ ap (λ at. bag_of (count (trees at))) (held_same s u trees (tables_again trees s u p q));
    },
  ))

-- What was left is a database that the connection reads.
module _ (only names : Names) (content : Content) (now : Stored) (sound : IsDatabase now) (left : IsLeft only names content now.trees) where
  was_sound : IsSound left.db.schema now.trees
  was_sound = subst (IsSound left.db.schema) (sym left.trees_are) left.sound

  pub left_of : IsOf only names now content
  left_of = of_again only names content now.trees left.db.schema now.schema was_sound sound (subst (λ t. IsOf only names (record { schema = left.db.schema; trees = t }) content) (sym left.trees_are) left.of)

  pub left_apart : IsLaidOut now.schema → HasRowids (span_rows now)
  left_apart = rowids_again left.db.schema now.schema now.trees (tables_again now.trees left.db.schema now.schema was_sound sound)
      (subst (λ t. IsLaidOut left.db.schema → HasRowids (span_rows (record { schema = left.db.schema; trees = t }))) (sym left.trees_are) left.spans_apart)

pub left_by : (schema : Schema) (names : Names) (content : Content) (trees : Trees) → AreOf schema names content trees → (only : Names) → IsLeft only names content trees
left_by schema names content trees h only = record {
  db = record { schema = schema; trees = trees };
  trees_are = refl;
  sound = h.sound;
  of = inr (inl h.stands);
  spans_apart = λ _. h.spans_apart;
}

-- ---- Opening it.

module _ (only names : Names) (content : Content) (s : State) (is_open : IsTrue s.is_open) (settled : s.now ≡ s.committed) (sound : IsDatabase s.now) (left : IsLeft only names content s.now.trees) where
  of : IsOf only names s.now content
  of = left_of only names content s.now sound left

  pub left_ready : IsReady s
  left_ready = record { is_open = is_open; settled = settled; known = known_of only s.now names content of }

  pub found_rest : (new : State) (n : Names) (a : Content) → IsOf only n s.now a → IsAtRest new n a → (n ≡ names) × IsAtRest new n content × (a ≡ content)
  found_rest new n a h rest = let one = one_of only s.now n names a content h of in (one.0, subst (IsAtRest new n) one.1 rest, one.1)

  pub left_again : (trees : Trees) → MayEnter only s trees → IsLeft only names content trees
  left_again trees m =
      let one = one_of only s.now m.names names m.content content m.of of in
      record {
        db = m.may.db;
        trees_are = m.may.trees_are;
        sound = m.may.sound;
        of = inr (inl (subst₂ (StandsFor m.may.db) one.0 one.1 m.may.stands));
        spans_apart = λ _. m.may.spans_apart;
      }

  pub survives_again : (new : State) → Survives s new (MayEnter only s) → Survives s new (IsLeft only names content)
  survives_again new h = weaken s new (MayEnter only s) (IsLeft only names content) left_again h

pub refused_for : (wanted : Option Names) (names : Names) (content : Content) (s : State) → IsDatabase s.now → IsLeft (names_for wanted) names content s.now.trees
    → (fault : StoreFault) (new : State) → IsTurned wanted s new fault → IsRefusedOpening wanted names fault
refused_for wanted names content s sound left (Database e) new t = inl tt
refused_for wanted names content s sound left Memory new t = inl tt
refused_for wanted names content s sound left Damaged new t =
    let only = names_for wanted in
    inl (not_damaged only s.now names content sound (left_apart only names content s.now sound left) (left_of only names content s.now sound left) t.0)
refused_for wanted names content s sound left (Layout k) new t =
    let only = names_for wanted in
    inl (not_other only s.now names content k (left_of only names content s.now sound left) t.0)
refused_for wanted names content s sound left Follows new t =
    let only = names_for wanted in
    let one = one_of only s.now t.0.0 names t.0.1 content (inr t.0.2) (left_of only names content s.now sound left) in
    inr (refl, λ is. t.0.3 (subst (IsWanted wanted) (sym one.0) is))
refused_for wanted names content s sound left _ new t = inl t.0
