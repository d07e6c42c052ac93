-- What each call on one row of spans does, where it succeeds.
use Rattle.store.proofs.Names.{◌≡◌, inl, ℕ, ℤ, List, [], ◌∷◌, map, filter, codes, not, Bool, true, false, cond, Ok, Err, Result, OnOk, refl, sym, ap, ap₂, subst, ◌∙◌, AllByRecursion, IsPermutation, IsPermutation-map, IsPermutation-cons, IsPermutation-trans, is_eq, IsPermutation-filter, Null, Int, Blob, Row, rowid, put_row, without_rowid, has_rowid, Edit, edit_of, next_rowid, are_fresh, is_taken, put_all, without_all, Chosen, Given, has_filtered, Schema, Error, State, ExecutesInside, one_permutation, IsLaidOut, meta_at, held_at, follow_at, spans_tree, add_span_text, drop_span_text, set_end_text, IsHeldRow, HasRowids, meta_rows, held_rows, span_rows, shown_span, shown_spans, begins_at, IsWorking, StaysOpen, Moves}
use Rattle.sqlite_value.specs.Order.{column, value_cmp}
use Rattle.sqlite_rules.specs.Edit.{id_in}
use Rattle.sqlite_rules.specs.Calls.{ids_of}
use Rattle.store.specs.Layout.{spans_at}
use Rattle.store.specs.Inside.{Begins}
use Rattle.store.proofs.Statements.{Applied, cast_null, cast_int, adds_span, drops_span, sets_end}
use Rattle.store.proofs.RowLemmas.{rowids_put, rowids_without, left_is, put_among}
use Rattle.store.proofs.Effects.{fresh_alone, keyed_row, own_id, same_rows, stays, still_beside, meta_spans, held_spans, follow_spans}
use Rattle.store.proofs.Keys.{keys_same}
use Rattle.store.proofs.BesideStays.{own_spans}

-- ---- what is stored of spans, and what passes a test

cases_map : (f : Row → Row) (x : Row) (b : Bool) (rows : List Row) → map f (cond b (x ∷ rows) rows) ≡ cond b (f x ∷ map f rows) (map f rows)
cases_map f x true rows = refl
cases_map f x false rows = refl

filter_map_is : (f : Row → Row) (p : Row → Bool) (rows : List Row) → map f (filter (λ r. p (f r)) rows) ≡ filter p (map f rows)
filter_map_is f p [] = refl
filter_map_is f p (x ∷ rows) = cases_map f x (p (f x)) (filter (λ r. p (f r)) rows) ∙ ap (λ l. cond (p (f x)) (f x ∷ l) l) (filter_map_is f p rows)

none_pass : (p : Row → Bool) (rows : List Row) → AllByRecursion (λ r. p r ≡ false) rows → filter p rows ≡ []
none_pass p [] all = refl
none_pass p (x ∷ rows) all = rw all.0 (none_pass p rows all.1)

all_pass : (p : Row → Bool) (rows : List Row) → AllByRecursion (λ r. p r ≡ false) rows → filter (λ r. not (p r)) rows ≡ rows
all_pass p [] all = refl
all_pass p (x ∷ rows) all = rw (all.0, all_pass p rows all.1)

one_mapped : (f : Row → Row) (rows : List Row) (y : Row) → map f rows ≡ y ∷ [] → (r : Row) × (rows ≡ r ∷ []) × (f r ≡ y)
one_mapped f [] y h = absurd (cc)
one_mapped f (x ∷ []) y h = (x, refl, cc)
one_mapped f (x ∷ z ∷ rows) y h = absurd (cc)

module _ (source : List ℕ) (lo : ℤ) (rows : List Row) (span : Row) (others : List Row) (h : Begins source lo (shown_spans rows) span others) where
  -- one row begins there
  one_begins : (r : Row) × (filter (λ r. begins_at source lo (shown_span r)) rows ≡ r ∷ []) × (shown_span r ≡ span)
  one_begins =
      let p = begins_at source lo in
      let alone : filter p (span ∷ others) ≡ span ∷ [] = rw (h.begins, none_pass p others h.apart) refl in
      let same : IsPermutation (span ∷ []) (filter p (shown_spans rows)) = subst (λ l. IsPermutation l (filter p (shown_spans rows))) alone (IsPermutation-filter p (span ∷ others) (shown_spans rows) h.all) in
      one_mapped shown_span (filter (λ r. p (shown_span r)) rows) span (filter_map_is shown_span p rows ∙ one_permutation span _ same)

  others_left : IsPermutation others (shown_spans (filter (λ r. not (begins_at source lo (shown_span r))) rows))
  others_left =
      let p = begins_at source lo in
      let q : Row → Bool = λ r. not (begins_at source lo r) in
      let left : filter q (span ∷ others) ≡ others = rw (h.begins, all_pass p others h.apart) refl in
      let same : IsPermutation others (filter q (shown_spans rows)) = subst (λ l. IsPermutation l (filter q (shown_spans rows))) left (IsPermutation-filter q (span ∷ others) (shown_spans rows) h.all) in
      subst (IsPermutation others) (sym (filter_map_is shown_span q rows)) same

rowids_without_all : (ids : List ℤ) (rows : List Row) → HasRowids rows → HasRowids (without_all rows ids)
rowids_without_all [] rows h = h
rowids_without_all (id ∷ ids) rows h = rowids_without_all ids (without_rowid id rows) (rowids_without id rows h)

module _ (old new : State) (was : IsWorking old) where
  abbrev l : IsLaidOut old.now.schema
  l = was.laid_out

  abbrev schema : Schema
  schema = old.now.schema

  abbrev rows : List Row
  rows = span_rows old.now

  shaped_old : HasRowids rows
  shaped_old = was.spans_apart

  rows_new : (edit : Edit) → Applied schema old new edit → span_rows new.now ≡ new.now.trees (spans_tree schema)
  rows_new edit h = ap (λ s. new.now.trees (spans_tree s)) h.schema_is

  held_stays : (edit : Edit) → Applied schema old new edit → edit.table ≡ spans_at schema → held_rows new.now ≡ held_rows old.now
  held_stays edit h at = same_rows old new (codes "held") h.schema_is (stays schema l.held.at (held_at schema) old.now.trees new.now.trees edit l.held.found h.step (rw at (held_spans schema l)))

  meta_stays : (edit : Edit) → Applied schema old new edit → edit.table ≡ spans_at schema → meta_rows new.now ≡ meta_rows old.now
  meta_stays edit h at = same_rows old new (codes "meta") h.schema_is (stays schema l.meta.at (meta_at schema) old.now.trees new.now.trees edit l.meta.found h.step (rw at (meta_spans schema l)))

  goes_on : (edit : Edit) → Applied schema old new edit → edit.table ≡ spans_at schema → HasRowids (new.now.trees (spans_tree schema)) → StaysOpen old new
  goes_on edit h at shaped = record {
    working = record {
      is_open = h.shown.is_open;
      inside = h.shown.mode ∙ was.inside;
      laid_out = subst IsLaidOut (sym h.schema_is) was.laid_out;
      held_apart = subst HasRowids (sym (held_stays edit h at)) was.held_apart;
      spans_apart = subst HasRowids (sym (rows_new edit h)) shaped;
      lawful = subst (AllByRecursion IsHeldRow) (sym (held_stays edit h at)) was.lawful;
      sound = h.sound;
      beside = still_beside old new edit l.spans.at was.inside was.beside was.sound h (rw at l.spans.found) (rw at (own_spans old.committed.schema)) (keys_same old.now new.now h.schema_is (meta_stays edit h at));
    };
    schema = h.schema_is;
    committed = h.shown.committed_is ∙ ap (λ b. cond b old.committed new.now) was.inside;
    meta = meta_stays edit h at;
    follow = same_rows old new (codes "follow") h.schema_is (stays schema l.follow.at (follow_at schema) old.now.trees new.now.trees edit l.follow.found h.step (rw at (follow_spans schema l)));
  }

  abbrev new_span : List ℕ → ℤ → ℤ → Row
  new_span source lo hi = Int (next_rowid rows) ∷ Blob source ∷ Int lo ∷ Int hi ∷ []

  news_added : (source : List ℕ) (lo hi : ℤ) → (edit_of old.now.trees (spans_at schema) [] Chosen 0 ((Null ∷ Blob source ∷ Int lo ∷ Int hi ∷ []) ∷ [])).news ≡ new_span source lo hi ∷ []
  news_added source lo hi = rw (cast_null, cast_int lo, cast_int hi) refl

  moves_added : (source : List ℕ) (lo hi : ℤ) → Applied schema old new (edit_of old.now.trees (spans_at schema) [] Chosen 0 ((Null ∷ Blob source ∷ Int lo ∷ Int hi ∷ []) ∷ []))
      → Moves old new ((Blob source ∷ Int lo ∷ Int hi ∷ []) ∷ shown_spans (span_rows old.now))
  moves_added source lo hi h =
      let row = new_span source lo hi in
      let news = news_added source lo hi in
      let is : new.now.trees (spans_tree schema) ≡ put_row row rows = h.step.rows ∙ ap (put_all rows) news in
      let free : is_taken rows row ≡ false = fresh_alone rows row (ap (are_fresh rows) (sym news) ∙ h.step.fresh) in
      let among : IsPermutation (shown_spans (row ∷ rows)) (shown_spans (put_row row rows)) = IsPermutation-map shown_span (row ∷ rows) (put_row row rows) (put_among row rows free) in
      record {
        on = goes_on _ h refl (rw is (rowids_put row rows refl free shaped_old));
        held = held_stays _ h refl;
        stored = subst (λ l. IsPermutation ((Blob source ∷ Int lo ∷ Int hi ∷ []) ∷ shown_spans rows) (shown_spans l)) (sym (rows_new _ h ∙ is)) among;
      }

  -- ---- the row of a span that begins there
  module _ (source : List ℕ) (lo : ℤ) (span : Row) (others : List Row) (begins : Begins source lo (shown_spans (span_rows old.now)) span others) where
    abbrev r : Row
    r = (one_begins source lo rows span others begins).0

    abbrev id : ℤ
    id = id_in (rowid r)

    found : filter (λ r. begins_at source lo (shown_span r)) rows ≡ r ∷ []
    found = (one_begins source lo rows span others begins).1

    shown : shown_span r ≡ span
    shown = (one_begins source lo rows span others begins).2

    keyed : rowid r ≡ Int id
    keyed = keyed_row rows r shaped_old (has_filtered (λ r. begins_at source lo (shown_span r)) rows r (rw found (inl refl))).0

    others_are : IsPermutation others (shown_spans (without_rowid id rows))
    others_are =
        let at_id : has_rowid id r ≡ true = ap (λ v. is_eq (value_cmp v (Int id))) keyed ∙ own_id id in
        subst (λ l. IsPermutation others (shown_spans l)) (sym (left_is (λ r. begins_at source lo (shown_span r)) id r rows shaped_old.apart found at_id)) (others_left source lo rows span others begins)

    moves_dropped : (answer : List Row) → IsPermutation (map (λ r. column r 0 ∷ []) (filter (λ r. begins_at source lo (shown_span r)) rows)) answer
        → Applied schema old new (edit_of old.now.trees (spans_at schema) (ids_of answer) Given 0 []) → Moves old new others
    moves_dropped answer same h =
        let one_row : answer ≡ (column r 0 ∷ []) ∷ [] = one_permutation _ answer (subst (λ l. IsPermutation (map (λ r. column r 0 ∷ []) l) answer) found same) in
        let is : new.now.trees (spans_tree schema) ≡ without_rowid id rows = h.step.rows ∙ ap (λ l. without_all rows (ids_of l)) one_row in
        record {
          on = goes_on _ h refl (rw is (rowids_without id rows shaped_old));
          held = held_stays _ h refl;
          stored = subst (λ l. IsPermutation others (shown_spans l)) (sym (rows_new _ h ∙ is)) others_are;
        }

    -- the row that is put in its place
    abbrev set_row : ℤ → Row
    set_row hi = Int id ∷ Blob source ∷ Int lo ∷ Int hi ∷ []

    news_set : (end hi : ℤ) (answer : List Row) → span ≡ Blob source ∷ Int lo ∷ Int end ∷ [] → answer ≡ (column r 0 ∷ column r 0 ∷ column r 1 ∷ column r 2 ∷ Int hi ∷ []) ∷ []
        → (edit_of old.now.trees (spans_at schema) (ids_of answer) Given 1 answer).news ≡ set_row hi ∷ []
    news_set end hi answer is answer_is =
        let cells = shown ∙ is in
        rw (answer_is, keyed, ap (λ (c : Row). column c 0) cells, ap (λ (c : Row). column c 1) cells, cast_int id, cast_int lo, cast_int hi) refl

    moves_set : (end hi : ℤ) (answer : List Row) → span ≡ Blob source ∷ Int lo ∷ Int end ∷ []
        → IsPermutation (map (λ r. column r 0 ∷ column r 0 ∷ column r 1 ∷ column r 2 ∷ Int hi ∷ []) (filter (λ r. begins_at source lo (shown_span r)) rows)) answer
        → Applied schema old new (edit_of old.now.trees (spans_at schema) (ids_of answer) Given 1 answer) → Moves old new ((Blob source ∷ Int lo ∷ Int hi ∷ []) ∷ others)
    moves_set end hi answer is same h =
        let row = set_row hi in
        let rest = without_rowid id rows in
        let one_row : answer ≡ (column r 0 ∷ column r 0 ∷ column r 1 ∷ column r 2 ∷ Int hi ∷ []) ∷ [] =
        one_permutation _ answer (subst (λ l. IsPermutation (map (λ r. column r 0 ∷ column r 0 ∷ column r 1 ∷ column r 2 ∷ Int hi ∷ []) l) answer) found same) in
        let news = news_set end hi answer is one_row in
        let left : without_all rows (ids_of answer) ≡ rest = ap (λ l. without_all rows (ids_of l)) one_row in
        let free : is_taken rest row ≡ false = fresh_alone rest row (ap₂ are_fresh (sym left) (sym news) ∙ h.step.fresh) in
        let now : new.now.trees (spans_tree schema) ≡ put_row row rest = h.step.rows ∙ ap₂ put_all left news in
        let among : IsPermutation (shown_spans (row ∷ rest)) (shown_spans (put_row row rest)) = IsPermutation-map shown_span (row ∷ rest) (put_row row rest) (put_among row rest free) in
        record {
          on = goes_on _ h refl (rw now (rowids_put row rest refl free (rowids_without id rows shaped_old)));
          held = held_stays _ h refl;
          stored = subst (λ l. IsPermutation ((Blob source ∷ Int lo ∷ Int hi ∷ []) ∷ others) (shown_spans l)) (sym (rows_new _ h ∙ now))
              (IsPermutation-trans ((Blob source ∷ Int lo ∷ Int hi ∷ []) ∷ others) (shown_spans (row ∷ rest)) (shown_spans (put_row row rest)) (IsPermutation-cons (Blob source ∷ Int lo ∷ Int hi ∷ []) others (shown_spans rest) others_are) among);
        }

  pub done_add : (source : List ℕ) (lo hi : ℤ) (r : Result ℕ Error) → ExecutesInside 0 add_span_text (Blob source ∷ Int lo ∷ Int hi ∷ []) old new r
      → OnOk r (Moves old new ((Blob source ∷ Int lo ∷ Int hi ∷ []) ∷ shown_spans (span_rows old.now)))
  done_add source lo hi (Ok n) h = moves_added source lo hi (adds_span schema l old new refl source lo hi n h.0)
  done_add source lo hi (Err e) h = tt

  pub done_drop : (source : List ℕ) (lo : ℤ) (span : Row) (others : List Row) (r : Result ℕ Error) → Begins source lo (shown_spans (span_rows old.now)) span others
      → ExecutesInside 0 drop_span_text (Blob source ∷ Int lo ∷ []) old new r → OnOk r (Moves old new others)
  done_drop source lo span others (Ok n) begins h =
      let it = drops_span schema l old new refl l.spans_free source lo n h.0 in
      moves_dropped source lo span others begins it.0 it.1 it.2
  done_drop source lo span others (Err e) begins h = tt

  pub done_set : (source : List ℕ) (lo end hi : ℤ) (others : List Row) (r : Result ℕ Error) → Begins source lo (shown_spans (span_rows old.now)) (Blob source ∷ Int lo ∷ Int end ∷ []) others
      → ExecutesInside 0 set_end_text (Blob source ∷ Int lo ∷ Int hi ∷ []) old new r → OnOk r (Moves old new ((Blob source ∷ Int lo ∷ Int hi ∷ []) ∷ others))
  done_set source lo end hi others (Ok n) begins h =
      let it = sets_end schema l old new refl l.spans_free source lo hi n h.0 in
      moves_set source lo (Blob source ∷ Int lo ∷ Int end ∷ []) others begins end hi it.0 refl it.1 it.2
  done_set source lo end hi others (Err e) begins h = tt

  -- whichever rows there were
  pub drop_goes : (source : List ℕ) (lo : ℤ) (r : Result ℕ Error) → ExecutesInside 0 drop_span_text (Blob source ∷ Int lo ∷ []) old new r → OnOk r (StaysOpen old new)
  drop_goes source lo (Ok n) h =
      let it = drops_span schema l old new refl l.spans_free source lo n h.0 in
      goes_on _ it.2 refl (rw it.2.step.rows (rowids_without_all (ids_of it.0) rows shaped_old))
  drop_goes source lo (Err e) h = tt
