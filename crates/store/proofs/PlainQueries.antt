-- Queries outside a transaction.
use Rattle.store.proofs.Names.{◌≡◌, inl, inr, ℕ, List, [], ◌∷◌, map, filter, Option, Some, None, Ok, Err, Result, unwrap_or, IfOk, IfErr, OnOk, IsTrue, refl, sym, ap, ◌∙◌, IsPermutation, Row, Compiled, Error, State, Survives, IsUnchanged, IsRolledBack, CellValue, Names, IsImage, Content, row_of, IsLaidOut, held_tree, read_text, Key, Finds, is_at, held_rows, count, IsAtRest, Rests}
use Rattle.sqlite_value.specs.Order.{column}
use Rattle.sqlite.specs.State.{IsNotRun, FailsToQuery, FailsToShow, Shown, CommitsShowing}
use Rattle.store.specs.Rows.{key_of}
use Rattle.store.proofs.AnySchema.{read_means}
use Rattle.store.proofs.Selects.{key_params}
use Rattle.store.proofs.Statements.{shown_reads, shown_same}
use Rattle.store.proofs.Keeps.{query_survives}
use Rattle.store.proofs.BetweenCalls.{counted_none, counted_some}
use Rattle.store.proofs.Bags.{at_row}
use Rattle.store.proofs.ExecutedInMemory.{rest_same}

pub rests_unchanged : (old new : State) → IsUnchanged old new → Rests old new
rests_unchanged old new h is_open = (h.0.now_is, h.0.committed_is)

pub rests_undone : (old new : State) → old.now ≡ old.committed → IsRolledBack old new → Rests old new
rests_undone old new settled h is_open = let u = h.undone is_open in (u.0 ∙ sym settled, u.1)

rests_showing : (old new : State) (sql : List ℕ) (c : Compiled) (params : Row) (e : Error) (r : _) → old.now ≡ old.committed → FailsToShow old new sql c params e r → Rests old new
rests_showing old new sql c params e None settled h = rests_unchanged old new h.3
rests_showing old new sql c params e (Some what) settled (inl h) = rests_unchanged old new h.1
rests_showing old new sql c params e (Some what) settled (inr h) = rests_undone old new settled h.3

pub rests_not_run : (sql : List ℕ) (params : Row) (old new : State) (e : Error) → old.now ≡ old.committed → IsNotRun old new sql params e → Rests old new
unfolding IsNotRun
rests_not_run sql params old new e settled (inl h) = rests_unchanged old new h.1
rests_not_run sql params old new e settled (inr h) = rests_undone old new settled h.3

pub rests_query : (sql : List ℕ) (params : Row) (old new : State) (e : Error) → old.now ≡ old.committed → FailsToQuery sql params old new e → Rests old new
unfolding FailsToQuery
rests_query sql params old new e settled (inl h) = rests_not_run sql params old new e settled h
rests_query sql params old new e settled (inr h) = rests_showing old new sql h.0 _ e h.0.returning settled h.2

pub rests_read : {X : Type 0} (sql : List ℕ) (params : Row) (old new : State) (r : Result X Error) → old.now ≡ old.committed → OnOk r (IsUnchanged old new) → IfErr r (FailsToQuery sql params old new) → Rests old new
rests_read sql params old new (Ok x) settled same failed = rests_unchanged old new same
rests_read sql params old new (Err e) settled same failed = rests_query sql params old new e settled failed

module _ (old new : State) (key : Key) (l : IsLaidOut old.now.schema) where
  pub find_read : {X : Type 0} (items : X → List Row) (r : Result X Error) → IfOk r (λ x. Shown read_text (key_params key []) old new (items x))
      → IfOk r (λ x. IsPermutation (map (λ r. column r 4 ∷ []) (filter (is_at key) (held_rows old.now))) (items x))
  find_read items r h = shown_reads old.now.schema l items r old new key refl h

  pub find_same : {X : Type 0} (items : X → List Row) (r : Result X Error) → IfOk r (λ x. Shown read_text (key_params key []) old new (items x)) → OnOk r (IsUnchanged old new)
  find_same items r h = shown_same old.now.schema l items r old new key refl h

  pub find_survives : Survives old new (CommitsShowing read_text (key_params key []) old) → Survives old new (λ _. ⊥)
  find_survives s = query_survives read_text (key_params key []) old new (read_means old.now.schema l.held.at (held_tree old.now.schema) l.held.found).plain s

pub found_count : (key : Key) (rows : List Row) (found : Option ℕ) → Finds key rows found → unwrap_or found 0 ≡ count rows key
found_count key rows None f = sym (counted_none key rows f)
found_count key rows (Some m) f = sym (counted_some key rows m f)

-- the copies of a row that a database has
pub row_count : (s : State) (names : Names) (content : Content) (schema table : List ℕ) (cells : List CellValue) (bytes : List ℕ) → IsImage cells bytes → IsAtRest s names content
    → content.rows (row_of schema table cells) ≡ count (held_rows s.now) (key_of schema table bytes)
row_count s names content schema table cells bytes is rest = ap (λ bag. bag (row_of schema table cells)) rest.stands.rows ∙ at_row schema table cells bytes is (count (held_rows s.now))

pub rest_unchanged : (old new : State) (names : Names) (content : Content) → IsUnchanged old new → IsAtRest old names content → IsAtRest new names content
rest_unchanged old new names content same rest = rest_same old new names content same.0.is_open same.0.now_is same.0.committed_is rest

-- a reading that failed
pub rest_read : (old new : State) (names : Names) (content : Content) → IsAtRest old names content → Rests old new → IsTrue new.is_open → IsAtRest new names content
rest_read old new names content rest rests is_open = let r = rests is_open in rest_same old new names content is_open r.0 r.1 rest
