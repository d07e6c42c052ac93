-- What a query for a whole table answers.
use Rattle.store.proofs.Names.{◌≡◌, ◌<◌, ◌≤◌, ◌+◌, inl, inr, ℕ, suc, zero, List, [], ◌∷◌, map, flat_map, length, Bool, true, false, not, ◌&&◌, ◌||◌, cond, None, Ok, Err, Result, IfOk, OnOk, IfErr, refl, sym, ap, subst, subst₂, ◌∙◌, arith, AllByRecursion, IsPermutation, IsPermutation-map, Value, Null, Row, Term, eval_all, is_lt, all-permutation, overlay, Column, Select, all_has, Table, Schema, IsSound, Trees, Error, IsDatabase, State, IsLive, IsUnchanged, IsRolledBack, Survives, AsksAll, Rested, by_order, Rests}
use Rattle.std.proofs.Common.{drop}
use Rattle.std.specs.Prelude.{unwrap_or}
use Rattle.sqlite_value.specs.declared.keys.Key.{Key}
use Rattle.sqlite_value.specs.Order.{column}
use Rattle.sqlite_sql.specs.Query.{IsAnswerAs, output, Output, output_cmp, key_cmp}
use Rattle.store.proofs.SortedLists.{ascends_of}
use Rattle.sqlite_schema.specs.declared.schema.Constraint.TheVariants.{Datatype, NotNull}
use Rattle.sqlite_schema.specs.Rules.{are_typed, are_present}
use Rattle.sqlite_sql.specs.Ops.{is_null}
use Rattle.sqlite_rules.specs.Lists.{Has}
use Rattle.sqlite.specs.State.{Shown, IsNotRun, FailsToQuery, CommitsShowing}
use Rattle.sqlite.specs.Given.{IsPlain}
use Rattle.sqlite.proofs.Callers.{reads_as, never_commits}
use Rattle.store.specs.Load.{IsFilled, columns_from, whole, Ascends}
use Rattle.store.proofs.Statements.{unchanged}
use Rattle.store.proofs.Keeps.{kept_query}
use Rattle.store.proofs.Selects.{map_twice}

-- ---- How long rows are.

and_left : (a b : Bool) → (a && b) ≡ true → a ≡ true
and_left true b h = refl
and_left false b h = h

and_right : (a b : Bool) → (a && b) ≡ true → b ≡ true
and_right true b h = h
and_right false b h = absurd (cc)

-- a row has no more values than columns
no_longer : (at : ℕ) (cs : List Column) (vs : Row) → are_typed None at cs vs ≡ true → length vs ≤ length cs
no_longer at [] [] h = omega arith
no_longer at [] (v ∷ vs) h = absurd (cc)
no_longer at (c ∷ cs) [] h = omega arith
no_longer at (c ∷ cs) (v ∷ vs) h = let more = no_longer (at + 1) cs vs (and_right _ _ h) in omega arith

-- and not fewer, if the last column is never NULL
not_past : (row : Row) (at : ℕ) → not (is_null (column row at)) ≡ true → at < length row
not_past [] at h = absurd (cc)
not_past (v ∷ row) zero h = omega arith
not_past (v ∷ row) (suc at) h = let more = not_past row at h in omega arith

no_shorter : (at : ℕ) (cs : List Column) (row : Row) → IsFilled cs → are_present None at cs row ≡ true → at + length cs < length row
no_shorter at [] row filled h = absurd filled
no_shorter at (c ∷ []) row filled h = let there = not_past row (at + 1) (subst (λ b. (not b || not (is_null (column row (at + 1)))) ≡ true) filled (and_left _ _ h)) in omega arith
no_shorter at (c ∷ d ∷ cs) row filled h = let more = no_shorter (at + 1) (d ∷ cs) row filled (and_right _ _ h) in omega arith

after : (row : Row) (n : ℕ) → n < length row → length (drop 1 row) ≤ n → length row ≡ n + 1
after [] n long short = absurd (omega arith)
after (v ∷ row) n long short = omega arith

-- ---- What is shown of a row.

shifted : (params : Row) (v : Value) (row : Row) (at n : ℕ) → eval_all (columns_from (suc at) n) (params ∷ (v ∷ row) ∷ []) ≡ eval_all (columns_from at n) (params ∷ row ∷ [])
shifted params v row at zero = refl
shifted params v row at (suc n) = ap (λ l. column row at ∷ l) (shifted params v row (suc at) n)

shown_whole : (params row : Row) → eval_all (columns_from 0 (length row)) (params ∷ row ∷ []) ≡ row
shown_whole params [] = refl
shown_whole params (v ∷ row) = ap (λ l. v ∷ l) (shifted params v row 0 (length row) ∙ shown_whole params row)

all_shown : (params : Row) (n : ℕ) (rows : List Row) → AllByRecursion (λ row. length row ≡ n) rows → map (λ row. eval_all (columns_from 0 n) (params ∷ row ∷ [])) rows ≡ rows
all_shown params n [] all = refl
all_shown params n (row ∷ rows) all = rw (all_shown params n rows all.1) (ap (λ r. r ∷ rows) (ap (λ k. eval_all (columns_from 0 k) (params ∷ row ∷ [])) (sym all.0) ∙ shown_whole params row))

-- ---- What a query answers.

each_matched : (params : Row) (rows : List Row) → flat_map (λ r. (params ∷ r ∷ []) ∷ []) rows ≡ map (λ r. params ∷ r ∷ []) rows
each_matched params [] = refl
each_matched params (r ∷ rows) = ap (λ l. (params ∷ r ∷ []) ∷ l) (each_matched params rows)

whole_answers : (tree width : ℕ) (order : List (Term × Key)) (db : Trees) (lost : Value) (params : Row) (rows : List Row) → IsAnswerAs lost (whole tree width order) db params rows
    → IsPermutation (map (λ r. eval_all (columns_from 0 width) (params ∷ r ∷ [])) (db tree)) rows
whole_answers tree width order db lost params rows a =
    let q = whole tree width order in
    let staged : a.staged ≡ map (λ r. params ∷ r ∷ []) (db tree) = a.grouped ∙ each_matched params (db tree) in
    let kept : a.kept ≡ map (output q) (map (λ r. params ∷ r ∷ []) (db tree)) = a.distinct ∙ ap (map (output q)) staged in
    let same : IsPermutation (map (λ (o : Output). o.1) a.kept) (map (λ (o : Output). o.1) a.ordered) = IsPermutation-map (λ (o : Output). o.1) a.kept a.ordered a.same in
    let first : map (λ (o : Output). o.1) a.kept ≡ map (λ r. eval_all (columns_from 0 width) (params ∷ r ∷ [])) (db tree) =
    ap (map (λ (o : Output). o.1)) kept ∙ map_twice (output q) (λ (o : Output). o.1) _ ∙ map_twice _ _ (db tree) in
    subst (IsPermutation (map (λ r. eval_all (columns_from 0 width) (params ∷ r ∷ [])) (db tree))) (sym a.shown) (subst (λ l. IsPermutation l (map (λ (o : Output). o.1) a.ordered)) first same)

-- the rows of an answer are in its order
module _ (width : ℕ) (order : List (Term × Key)) where
  abbrev IsOwn : Output → Type 0
  IsOwn o = o.0 ≡ eval_all (map (λ (k : Term × Key). k.0) order) ([] ∷ o.1 ∷ [])

  each_own : (tree : ℕ) (rows : List Row) → AllByRecursion (λ row. length row ≡ width) rows → AllByRecursion IsOwn (map (output (whole tree width order)) (map (λ r. [] ∷ r ∷ []) rows))
  each_own tree [] all = tt
  each_own tree (r ∷ rows) all = (
    ap (λ (x : Row). eval_all (map (λ (k : Term × Key). k.0) order) ([] ∷ x ∷ [])) (sym (ap (λ k. eval_all (columns_from 0 k) ([] ∷ r ∷ [])) (sym all.0) ∙ shown_whole [] r)),
    each_own tree rows all.1,
  )

  shown_ascend : (tree : ℕ) (os : List Output) → AllByRecursion IsOwn os → Ascends (output_cmp (whole tree width order)) os → Ascends (by_order order) (map (λ (o : Output). o.1) os)
  shown_ascend tree [] own h = tt
  shown_ascend tree (o ∷ []) own h = tt
  shown_ascend tree (o ∷ p ∷ os) own h = (
    subst₂ (λ x y. is_lt (key_cmp 0 (map (λ (k : Term × Key). k.1) order) x y) ≡ false) own.1.0 own.0 h.0,
    shown_ascend tree (p ∷ os) own.1 h.1,
  )

  pub whole_ascends : (tree : ℕ) (db : Trees) (lost : Value) (rows : List Row) → AllByRecursion (λ row. length row ≡ width) (db tree) → IsAnswerAs lost (whole tree width order) db [] rows → Ascends (by_order order) rows
  whole_ascends tree db lost rows long a =
      let q = whole tree width order in
      let staged : a.staged ≡ map (λ r. [] ∷ r ∷ []) (db tree) = a.grouped ∙ each_matched [] (db tree) in
      let kept : a.kept ≡ map (output q) (map (λ r. [] ∷ r ∷ []) (db tree)) = a.distinct ∙ ap (map (output q)) staged in
      let own : AllByRecursion IsOwn a.ordered = all-permutation IsOwn a.kept a.ordered a.same (subst (AllByRecursion IsOwn) (sym kept) (each_own tree (db tree) long)) in
      subst (Ascends (by_order order)) (sym a.shown) (shown_ascend tree a.ordered own (ascends_of (output_cmp q) a.ordered a.sorted))

nothing_given : (b : Bool) (x : List Row) → unwrap_or (cond b None None) x ≡ x
nothing_given true x = refl
nothing_given false x = refl

-- the rows of a table have as many values as there are columns
pub row_lengths : (schema : Schema) (db : Trees) (table : Table) → Has schema.tables table → table.key ≡ None → IsFilled table.columns → IsSound schema db
    → AllByRecursion (λ row. length row ≡ suc (length table.columns)) (db table.tree)
row_lengths schema db table there apart filled sound = go (db table.tree)
    (all_has _ schema.tables table (sound.obeys.rules Datatype) there) (all_has _ schema.tables table (sound.obeys.rules NotNull) there)
  where
    go : (rows : List Row) → AllByRecursion (λ row. Rattle.sqlite_schema.specs.Rules.passes Datatype schema db table row ≡ true) rows
        → AllByRecursion (λ row. Rattle.sqlite_schema.specs.Rules.passes NotNull schema db table row ≡ true) rows → AllByRecursion (λ row. length row ≡ suc (length table.columns)) rows
    go [] typed present = tt
    go (row ∷ rows) typed present =
        let low = no_shorter 0 table.columns row filled (subst (λ k. are_present k 0 table.columns row ≡ true) apart present.0) in
        let high = no_longer 0 table.columns (drop 1 row) (subst (λ k. are_typed k 0 table.columns (drop 1 row) ≡ true) apart (and_left _ _ typed.0)) in
        (after row (length table.columns) (omega (arith, low)) high ∙ (omega arith), go rows typed.1 present.1)

module _ (sql : List ℕ) (tree : ℕ) (old new : State) (asks : AsksAll old.now.schema sql tree) where
  lengths : IsDatabase old.now → AllByRecursion (λ row. length row ≡ suc (length asks.table.columns)) (old.now.trees asks.table.tree)
  lengths sound = row_lengths old.now.schema old.now.trees asks.table asks.there asks.rowid_apart asks.filled sound

  no_tables : (t : ℕ) → overlay old.now.trees [] t ≡ old.now.trees t
  no_tables t = nothing_given _ (old.now.trees t)

  pub all_rows : {X : Type 0} (items : X → List Row) (r : Result X Error) → IsLive old → OnOk r (IsUnchanged old new) → IfOk r (λ x. Shown sql [] old new (items x)) → IfOk r (λ x. IsPermutation (old.now.trees tree) (items x))
  all_rows items (Ok x) live same shown =
      let width = suc (length asks.table.columns) in
      let sound = (live same.0.was_open).0 in
      let got = reads_as sql [] old new old.now.schema refl (Select _ _) asks.is asks.plain asks.elsewhere (items x) shown in
      let answered = whole_answers tree width asks.order (overlay old.now.trees []) Null [] (items x) (got.answer Null) in
      subst (λ l. IsPermutation l (items x)) (ap (map (λ (r : Row). eval_all (columns_from 0 width) ([] ∷ r ∷ []))) (no_tables tree) ∙ all_shown [] width (old.now.trees tree) (subst (λ t. AllByRecursion (λ (row : Row). length row ≡ width) (old.now.trees t)) asks.tree_is (lengths sound))) answered
  all_rows items (Err e) live same shown = shown

  pub all_ascend : {X : Type 0} (items : X → List Row) (r : Result X Error) → IsLive old → OnOk r (IsUnchanged old new) → IfOk r (λ x. Shown sql [] old new (items x)) → IfOk r (λ x. Ascends (by_order asks.order) (items x))
  all_ascend items (Ok x) live same shown =
      let width = suc (length asks.table.columns) in
      let sound = (live same.0.was_open).0 in
      let got = reads_as sql [] old new old.now.schema refl (Select _ _) asks.is asks.plain asks.elsewhere (items x) shown in
      let long : AllByRecursion (λ (row : Row). length row ≡ width) (overlay old.now.trees [] tree) = subst (AllByRecursion (λ (row : Row). length row ≡ width)) (sym (no_tables tree)) (subst (λ t. AllByRecursion (λ (row : Row). length row ≡ width) (old.now.trees t)) asks.tree_is (lengths sound)) in
      whole_ascends width asks.order tree (overlay old.now.trees []) Null (items x) long (got.answer Null)
  all_ascend items (Err e) live same shown = shown

  pub all_same : {X : Type 0} (items : X → List Row) (r : Result X Error) → IfOk r (λ x. Shown sql [] old new (items x)) → OnOk r (IsUnchanged old new)
  all_same items (Ok x) shown = unchanged sql [] old new (items x) old.now.schema refl asks.plain shown
  all_same items (Err e) shown = tt

  rests_unchanged : IsUnchanged old new → Rests old new
  rests_unchanged same is_open = (same.0.now_is, same.0.committed_is)

  rests_rolled : IsRolledBack old new → old.now ≡ old.committed → Rests old new
  rests_rolled undone settled is_open = let u = undone.undone is_open in (u.0 ∙ sym settled, u.1)

  rests_not_run : (e : Error) → IsNotRun old new sql [] e → old.now ≡ old.committed → Rests old new
  unfolding IsNotRun
  rests_not_run e (inl h) settled = rests_unchanged h.1
  rests_not_run e (inr h) settled = rests_rolled h.3 settled

  rests_failed : (e : Error) → FailsToQuery sql [] old new e → old.now ≡ old.committed → Rests old new
  unfolding FailsToQuery
  rests_failed e (inl h) settled = rests_not_run e h settled
  rests_failed e (inr h) settled =
      let known = sym h.1.is in
      let bare = subst IsPlain (sym known) asks.plain in
      rests_unchanged (rw bare.0 at h.2).3

  pub all_rests : {X : Type 0} (r : Result X Error) → OnOk r (IsUnchanged old new) → IfErr r (FailsToQuery sql [] old new) → Rested old new
  all_rests r same failed = record { commit = kept_query sql [] old new r same failed; rests = go r same failed }
    where
      go : {X : Type 0} (r : Result X Error) → OnOk r (IsUnchanged old new) → IfErr r (FailsToQuery sql [] old new) → old.now ≡ old.committed → Rests old new
      go (Ok x) same failed settled = rests_unchanged same
      go (Err e) same failed settled = rests_failed e failed settled

-- a text that asks for a table commits nothing
pub all_survives : (sql : List ℕ) (old new : State) → Survives old new (CommitsShowing sql [] old) → Survives old new (λ _. (tree : ℕ) → ¬ AsksAll old.now.schema sql tree)
all_survives sql old new s = record {
  clean = s.clean;
  shield = s.shield;
  counts = s.counts;
  limit = s.limit;
  closes = s.closes;
  crash = λ clean db left. elim (s.crash clean db left) [ inl was ↦ inl was | inr made ↦ inr (λ tree asks. never_commits sql [] old db asks.plain made) ];
}
