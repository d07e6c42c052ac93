-- A database stands for one content at most, and then it is neither damaged nor of another layout.
use Rattle.store.proofs.Names.{◌≡◌, ◌<◌, ◌≤◌, ◌-◌, ◌^◌, inl, inr, ◌≢◌, ℕ, zero, suc, ℤ, pos, true, ◌||◌, List, [], ◌∷◌, length, map, flat_map, IsTrue, refl, sym, ap, ap₂, subst, subst₂, ◌∙◌, arith, AllByRecursion, list_any, IsPermutation, false≢true, cases_Bool, le-leb, lt-ltb, eq_by_cmp, list_any-append, IsPermutation-sym, IsPermutation-trans, IsPermutation-map, list_any-IsPermutation, IsDistinct-IsPermutation, bytes_eq-Decides, Row, rowid, is_int, all-permutation, Schema, int_is, Database, IsDatabase, Id, Ids, IsSource, IsGtid, id_cmp, Span, id_cmp_total, id_cmp-same, Names, Content, IsFirstLaidOut, IsLaidOut, IsVacant, SaysLayout, StandsFor, StandsForFirst, AreSpans, HasRowids, IsSpanRow, meta_rows, follow_rows, held_rows, span_rows, bag_of, count, name_in, span_in, stored_span, shown_span, shown_spans, touches, blob_in, IsOf, tables_of, has_any}
use Rattle.std.proofs.Common.{negsuc}
use Rattle.std.specs.List.{IsDistinct}
use Rattle.std.specs.FinSet as set
use Rattle.std.proofs.lemmas.Bool.{or_right}
use Rattle.sqlite_value.specs.Order.{column}
use Rattle.sqlite_rules.specs.Edit.{id_in}
use Rattle.gtid.specs.Group.{ids_of_interval}
use Rattle.gtid.specs.Span.{is_in, Covers}
use Rattle.gtid.specs.declared.interval.Interval.{Interval}
use Rattle.gtid.proofs.Sets.{listed_in_interval}
use Rattle.store.specs.Layout.{spans_at}
use Rattle.store.specs.Rows.{KeepsRules, executed_rows, id_in as id_at, span_from, number_in}
use Rattle.store.specs.Entering.{IsStored, IsDamaged, no_meta, no_layout, lacks_first, lacks_second, breaks_first, breaks_second, IsOtherLayout, IsKnown, blank, first, second, has_first, has_second}
use Rattle.store.proofs.AnyWhole.{has_index}
use Rattle.store.proofs.Known.{meta_there, none_meta, none_any, known_first, known_second}
use Rattle.store.proofs.Readings.{row_lengths}
use Rattle.store.proofs.SpanRows
use Rattle.store.proofs.SpanRows.{flips}
use Rattle.store.proofs.SortedSpans.{all_some, all_distinct}

-- ---- One number under the key `layout`.

pub one_number : (rows : List Row) (m n : ℤ) → SaysLayout m rows → SaysLayout n rows → m ≡ n
one_number rows m n p q = let both = sym p ∙ q in cc

pub two_layouts : (rows : List Row) → SaysLayout (pos 1) rows → SaysLayout (pos 2) rows → ⊥
two_layouts rows p q =
    let same : pos 1 ≡ pos 2 = one_number rows (pos 1) (pos 2) p q in
    let n : ◌≡◌ {A = ℕ} 1 2 = cc in
    absurd (omega (arith, n))

pub says_second : (db : Database) (names : Names) (content : Content) → StandsFor db names content → SaysLayout (pos 2) (meta_rows db)
says_second db names content h = h.says

-- ---- One set of the rows of spans.

abbrev span_shown : Row → Span
span_shown r = span_from (blob_in (column r 0)) (number_in (column r 1)) (number_in (column r 2))

shown_back : (spans : List Span) → map span_shown (map stored_span spans) ≡ spans
shown_back [] = refl
shown_back (s ∷ spans) = ap (λ l. s ∷ l) (shown_back spans)

one_set : (rows : List Row) (a b : Ids) → AreSpans rows a → AreSpans rows b → a ≡ b
one_set rows a b p q =
    let same : IsPermutation (map stored_span p.spans) (map stored_span q.spans) = IsPermutation-trans _ _ _ p.rows_are (IsPermutation-sym _ _ q.rows_are) in
    let spans : IsPermutation p.spans q.spans = subst₂ IsPermutation (shown_back p.spans) (shown_back q.spans) (IsPermutation-map span_shown _ _ same) in
    set.same_set id_cmp_total id_cmp-same a b (λ x. p.least.covers x ∙ list_any-IsPermutation (is_in x) p.spans q.spans spans ∙ sym (q.least.covers x))

-- ---- One content.

pub same_content : (a b : Content) → a.executed ≡ b.executed → a.rows ≡ b.rows → a ≡ b
same_content a b p q = λ i. record { executed = p i; rows = q i }

never_both : (db : Database) (n : Names) (a b : Content) → StandsFor db n a → StandsForFirst db b → ⊥
never_both db n a b p q = two_layouts (meta_rows db) q.says (says_second db n a p)

pub one_stored : (db : Database) (n m : Names) (a b : Content) → IsStored n db a → IsStored m db b → (n ≡ m) × (a ≡ b)
one_stored db n m a b (inl p) (inl q) = (p.follow.names_are ∙ sym q.follow.names_are, same_content a b (one_set (span_rows db) a.executed b.executed p.executed q.executed) (p.rows ∙ sym q.rows))
one_stored db n m a b (inl p) (inr q) = absurd (never_both db n a b p q.1)
one_stored db n m a b (inr p) (inl q) = absurd (never_both db m b a q p.1)
one_stored db n m a b (inr p) (inr q) = (p.0 ∙ sym q.0, same_content a b (p.1.executed ∙ sym q.1.executed) (p.1.rows ∙ sym q.1.rows))

-- ---- Which tables are there.

pub stored_meta : (db : Database) (n : Names) (a : Content) → IsStored n db a → (tables_of db.schema).meta ≡ true
stored_meta db n a (inl p) = meta_there db.schema (p.laid_out.meta)
stored_meta db n a (inr p) = meta_there db.schema p.1.laid_out.meta

pub blank_meta : (schema : Schema) → IsVacant schema → (tables_of schema).meta ≡ true → ⊥
blank_meta schema vacant there = false≢true (sym (none_meta schema vacant) ∙ there)

laid_second : (schema : Schema) → IsLaidOut schema → has_second (tables_of schema) ≡ true
laid_second schema l = rw (l.held.found.by_name, l.spans.found.by_name, l.follow.found.by_name) refl

first_first : (schema : Schema) → IsFirstLaidOut schema → has_first (tables_of schema) ≡ true
first_first schema l = rw (l.executed.found.by_name, l.held.found.by_name) refl

pub one_of : (only : Names) (db : Database) (n m : Names) (a b : Content) → IsOf only n db a → IsOf only m db b → (n ≡ m) × (a ≡ b)
one_of only db n m a b (inl p) (inl q) = (p.1 ∙ sym q.1, p.0.1 ∙ sym q.0.1)
one_of only db n m a b (inl p) (inr q) = absurd (blank_meta db.schema p.0.0 (stored_meta db m b q))
one_of only db n m a b (inr p) (inl q) = absurd (blank_meta db.schema q.0.0 (stored_meta db n a p))
one_of only db n m a b (inr p) (inr q) = one_stored db n m a b p q

pub known_of : (only : Names) (db : Database) (n : Names) (a : Content) → IsOf only n db a → IsKnown db
known_of only db n a (inl p) = blank p.0.0
known_of only db n a (inr (inl p)) = second p.laid_out (λ there says. two_layouts (meta_rows db) says (says_second db n a p))
known_of only db n a (inr (inr p)) = first p.1.laid_out

-- ---- The rules that its rows keep.

-- what is stored of a lawful span
abbrev IsShown : Row → Type 0
IsShown shown = (s : Span) × (shown ≡ stored_span s) × IsSource s.source × (1 ≤ s.lo) × (s.lo < s.hi) × (s.hi ≤ 2 ^ 63 - 1)

in_itself : (s : Span) (n : ℕ) → s.lo ≤ n → n < s.hi → is_in (s.source, n) s ≡ true
in_itself s n low high = rw ((bytes_eq-Decides s.source s.source).1 refl, le-leb s.lo n low, lt-ltb n s.hi high) refl

lawful_shown : (spans : List Span) → ((q : Id) → list_any (is_in q) spans ≡ true → IsGtid q) → AllByRecursion (λ s. s.lo < s.hi) spans → AllByRecursion IsShown (map stored_span spans)
lawful_shown [] gtids some = tt
lawful_shown (s ∷ spans) gtids some =
    let low : IsGtid (s.source, s.lo) = gtids (s.source, s.lo) (ap (λ b. b || list_any (is_in (s.source, s.lo)) spans) (in_itself s s.lo (omega arith) some.0)) in
    let high : IsGtid (s.source, s.hi - 1) = gtids (s.source, s.hi - 1) (ap (λ b. b || list_any (is_in (s.source, s.hi - 1)) spans) (in_itself s (s.hi - 1) (omega (arith, some.0)) (omega (arith, some.0)))) in
    ((s, refl, low.0, low.1, some.0, omega (arith, high.2)), lawful_shown spans (λ q there. gtids q (or_right _ _ there)) some.1)

one_row : (r : Row) → IsShown (shown_span r) → length r ≡ 4 → IsTrue (is_int (rowid r)) → IsSpanRow r
one_row [] h long keyed = absurd (omega arith)
one_row (v ∷ []) h long keyed = absurd (omega arith)
one_row (v ∷ x ∷ []) h long keyed = absurd (omega arith)
one_row (v ∷ x ∷ y ∷ []) h long keyed = absurd (omega arith)
one_row (v ∷ x ∷ y ∷ z ∷ []) h long keyed = (id_in v, h.0, ap₂ (λ a l. a ∷ l) (int_is v keyed) h.1, h.2, h.3, h.4, h.5)
one_row (v ∷ x ∷ y ∷ z ∷ w ∷ more) h long keyed = absurd (omega arith)

lawful_rows : (rows : List Row) → AllByRecursion IsShown (shown_spans rows) → AllByRecursion (λ r. length r ≡ 4) rows → AllByRecursion (λ r. IsTrue (is_int (rowid r))) rows → AllByRecursion IsSpanRow rows
lawful_rows [] shown long keyed = tt
lawful_rows (r ∷ rows) shown long keyed = (one_row r shown.0 long.0 keyed.0, lawful_rows rows shown.1 long.1 keyed.1)

spans_of_rows : (rows : List Row) → map span_shown (shown_spans rows) ≡ map span_in rows
spans_of_rows [] = refl
spans_of_rows (r ∷ rows) = ap (λ l. span_in r ∷ l) (spans_of_rows rows)

pub rules_kept : (db : Database) (n : Names) (a : Content) → IsDatabase db → HasRowids (span_rows db) → StandsFor db n a → KeepsRules db
rules_kept db n a sound rowids h =
    let l = h.laid_out in
    let e = h.executed in
    let long : AllByRecursion (λ r. length r ≡ 4) (span_rows db) = row_lengths db.schema db.trees (spans_at db.schema) (has_index db.schema.tables l.spans.at (spans_at db.schema) l.spans.found.by_index) refl refl sound in
    let shown : AllByRecursion IsShown (shown_spans (span_rows db)) = all-permutation IsShown (map stored_span e.spans) (shown_spans (span_rows db)) e.rows_are
    (lawful_shown e.spans (λ q there. e.lawful q (e.least.covers q ∙ there)) (all_some e.spans e.least.least)) in
    record {
      meta = h.meta;
      follow = h.follow.lawful;
      spans = lawful_rows (span_rows db) shown long rowids.keyed;
      apart = subst (IsDistinct touches) (spans_of_rows (span_rows db))
          (IsDistinct-IsPermutation touches flips (map span_shown (map stored_span e.spans)) (map span_shown (shown_spans (span_rows db))) (IsPermutation-map span_shown _ _ e.rows_are)
          (subst (IsDistinct touches) (sym (shown_back e.spans)) (all_distinct e.spans e.least.least)));
      held = h.held;
    }

-- ---- It is not damaged, and of no other layout.

pub not_damaged : (only : Names) (db : Database) (n : Names) (a : Content) → IsDatabase db → (IsLaidOut db.schema → HasRowids (span_rows db)) → IsOf only n db a → IsDamaged db → ⊥
not_damaged only db n a sound rowids (inl p) (no_meta none any) = false≢true (sym (none_any db.schema p.0.0) ∙ any)
not_damaged only db n a sound rowids (inl p) (no_layout there off) = blank_meta db.schema p.0.0 there
not_damaged only db n a sound rowids (inl p) (lacks_first there says lacks) = blank_meta db.schema p.0.0 there
not_damaged only db n a sound rowids (inl p) (lacks_second there says lacks) = blank_meta db.schema p.0.0 there
not_damaged only db n a sound rowids (inl p) (breaks_first there says off) = blank_meta db.schema p.0.0 there
not_damaged only db n a sound rowids (inl p) (breaks_second there says off) = blank_meta db.schema p.0.0 there
not_damaged only db n a sound rowids (inr p) (no_meta none any) = false≢true (sym none ∙ stored_meta db n a p)
not_damaged only db n a sound rowids (inr (inl p)) (no_layout there off) = off (pos 2) (says_second db n a p)
not_damaged only db n a sound rowids (inr (inl p)) (lacks_first there says lacks) = two_layouts (meta_rows db) says (says_second db n a p)
not_damaged only db n a sound rowids (inr (inl p)) (lacks_second there says lacks) = false≢true (sym lacks ∙ laid_second db.schema p.laid_out)
not_damaged only db n a sound rowids (inr (inl p)) (breaks_first there says off) = two_layouts (meta_rows db) says (says_second db n a p)
not_damaged only db n a sound rowids (inr (inl p)) (breaks_second there says off) = off (rules_kept db n a sound (rowids p.laid_out) p)
not_damaged only db n a sound rowids (inr (inr p)) (no_layout there off) = off (pos 1) p.1.says
not_damaged only db n a sound rowids (inr (inr p)) (lacks_first there says lacks) = false≢true (sym lacks ∙ first_first db.schema p.1.laid_out)
not_damaged only db n a sound rowids (inr (inr p)) (lacks_second there says lacks) = two_layouts (meta_rows db) p.1.says says
not_damaged only db n a sound rowids (inr (inr p)) (breaks_first there says off) = off p.1.rules
not_damaged only db n a sound rowids (inr (inr p)) (breaks_second there says off) = two_layouts (meta_rows db) p.1.says says

pub not_other : (only : Names) (db : Database) (n : Names) (a : Content) (k : ℤ) → IsOf only n db a → IsOtherLayout db k → ⊥
not_other only db n a k (inl p) o = blank_meta db.schema p.0.0 o.0
not_other only db n a k (inr (inl p)) o = o.3 (one_number (meta_rows db) k (pos 2) o.1 (says_second db n a p))
not_other only db n a k (inr (inr p)) o = o.2 (one_number (meta_rows db) k (pos 1) o.1 p.1.says)

pub never_two : (db : Database) (k : ℤ) → IsDamaged db → IsOtherLayout db k → ⊥
never_two db k (no_meta none any) o = false≢true (sym none ∙ o.0)
never_two db k (no_layout there off) o = off k o.1
never_two db k (lacks_first there says lacks) o = o.2 (one_number (meta_rows db) k (pos 1) o.1 says)
never_two db k (lacks_second there says lacks) o = o.3 (one_number (meta_rows db) k (pos 2) o.1 says)
never_two db k (breaks_first there says off) o = o.2 (one_number (meta_rows db) k (pos 1) o.1 says)
never_two db k (breaks_second there says off) o = o.3 (one_number (meta_rows db) k (pos 2) o.1 says)

-- ---- It is one of the three.

abbrev ids_of_spans : List Span → List Id
ids_of_spans = flat_map (λ s. ids_of_interval s.source (record { lo = s.lo; hi = s.hi }))

in_spans : (q : Id) (spans : List Span) → list_any (eq_by_cmp id_cmp q) (ids_of_spans spans) ≡ list_any (is_in q) spans
in_spans q [] = refl
in_spans q (s ∷ spans) =
    let i : Interval = record { lo = s.lo; hi = s.hi } in
    list_any-append (eq_by_cmp id_cmp q) (ids_of_interval s.source i) (ids_of_spans spans) ∙ ap₂ (λ b c. b || c) (listed_in_interval q s.source i) (in_spans q spans)

covered : (spans : List Span) → Covers spans (set.from_list (ids_of_spans spans))
covered spans q = set.contains-from_list id_cmp_total (ids_of_spans spans) q ∙ in_spans q spans

pub some_state : (db : Database) → IsKnown db → has_any (tables_of db.schema) ≡ true → ((n : Names) (a : Content) → ¬ IsStored n db a) → ¬ IsDamaged db → ((k : ℤ) → ¬ IsOtherLayout db k) → ⊥
some_state db known any none sound alike = elim (cases_Bool (tables_of db.schema).meta) [
  | inl there ↦ sound (no_layout there (λ n says. one_of_all there n says))
  | inr off ↦ sound (no_meta off any)
]
  where
    other : (tables_of db.schema).meta ≡ true → (n : ℤ) → SaysLayout n (meta_rows db) → n ≢ pos 1 → n ≢ pos 2 → ⊥
    other there n says one two = alike n (there, says, one, two)

    at_first : (tables_of db.schema).meta ≡ true → SaysLayout (pos 1) (meta_rows db) → ⊥
    at_first there says = elim (cases_Bool (has_first (tables_of db.schema))) [
      | inr lacks ↦ sound (lacks_first there says lacks)
      | inl all ↦ sound (breaks_first there says (λ rules. none set.empty (record { executed = set.from_list (map id_at (executed_rows db)); rows = bag_of (count (held_rows db)) })
          (inr (refl, record { laid_out = known_first db known says all; says = says; rules = rules; executed = refl; rows = refl }))))
    ]

    at_second : (tables_of db.schema).meta ≡ true → SaysLayout (pos 2) (meta_rows db) → ⊥
    at_second there says = elim (cases_Bool (has_second (tables_of db.schema))) [
      | inr lacks ↦ sound (lacks_second there says lacks)
      | inl all ↦ (
          let laid = known_second db known says all in
          sound (breaks_second there says (λ rules.
          let ids = set.from_list {R = id_cmp} (ids_of_spans (map span_in (span_rows db))) in
          none (set.from_list (map name_in (follow_rows db))) (record { executed = ids; rows = bag_of (count (held_rows db)) }) (inl (record {
            laid_out = laid;
            says = says;
            meta = rules.meta;
            follow = record { lawful = rules.follow; names_are = refl };
            held = rules.held;
            executed = SpanRows.spans_are (span_rows db) ids rules.spans rules.apart (covered (map span_in (span_rows db)));
            rows = refl;
          })))))
    ]

    one_of_all : (tables_of db.schema).meta ≡ true → (n : ℤ) → SaysLayout n (meta_rows db) → ⊥
    one_of_all there (pos zero) says = other there (pos 0) says (λ e. let k : ◌≡◌ {A = ℕ} 0 1 = cc in absurd (omega (arith, k))) (λ e. let k : ◌≡◌ {A = ℕ} 0 2 = cc in absurd (omega (arith, k)))
    one_of_all there (pos (suc zero)) says = at_first there says
    one_of_all there (pos (suc (suc zero))) says = at_second there says
    one_of_all there (pos (suc (suc (suc m)))) says = other there (pos (suc (suc (suc m)))) says (λ e. let k : suc (suc (suc m)) ≡ 1 = cc in absurd (omega (arith, k))) (λ e. let k : suc (suc (suc m)) ≡ 2 = cc in absurd (omega (arith, k)))
    one_of_all there (negsuc m) says = other there (negsuc m) says (λ e. absurd (cc)) (λ e. absurd (cc))
