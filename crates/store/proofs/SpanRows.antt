-- The sets that rows of spans and of executed are.
use Rattle.store.proofs.Names.{◌≡◌, ◌<◌, ◌≤◌, ◌-◌, ◌^◌, inl, inr, Bool, true, false, not, ◌&&◌, nat_le, nat_lt, bytes_eq, List, [], ◌∷◌, map, None, Some, Ok, Err, Result, IfOk, IfErr, OnOk, refl, sym, ap, subst, ◌∙◌, arith, AllByRecursion, list_any, IsPermutation, eq_by_cmp, and_parts, cases_Bool, leb-true, le-leb, ltb-true, not-true, not-false, IsPermutation-map, IsPermutation-sym, list_any-IsPermutation, IsDistinct-IsPermutation, bytes_eq-Decides, Row, Id, Ids, IsSource, IsGtid, id_cmp, IsLeast, IsLawfulSpan, Span, id_cmp_total, id_cmp-same, StoreFault, Memory, IsSpanRow, IsExecutedRow, HasRowids, AreSpans, touches, stored_span, shown_span, shown_spans, span_in, id_in, span_of_id, Judges}
use Rattle.std.specs.List.{IsDistinct}
use Rattle.std.specs.FinSet as set
use Rattle.std.proofs.lemmas.Bool.{and_cases, leb-false}
use Rattle.gtid.specs.Span.{is_in, Covers, IsBefore}
use Rattle.gtid.specs.Gathering.{SpansRise, ComesAfter}
use Rattle.gtid.proofs.Sets.{tied}
use Rattle.gtid.proofs.SomeLeastList.{one_number}
use Rattle.binlog.proofs.TableSets.{bytes_eq-sym}
use Rattle.store.specs.Judge.{apart_from}
use Rattle.store.proofs.Steps.{fault_by}
use Rattle.store.proofs.SortedSpans.{all_distinct, sorted_of}

-- ---- Spans in order, of which no two consecutive ones touch.

and_false : (b c : Bool) → b ≡ true → (b && c) ≡ false → c ≡ false
and_false true c is h = h
and_false false c is h = absurd (cc)

before_from : (a b : Span) → b.lo < b.hi → ComesAfter a.source a.lo b → touches a b ≡ false → IsBefore a b
before_from a b some (inl less) off = inl less
before_from a b some (inr at) off =
    let one = (bytes_eq-Decides a.source b.source).1 (sym at.0) in
    let low = le-leb a.lo b.hi (omega (arith, at.1, some)) in
    inr (sym at.0, leb-false b.lo a.hi (and_false (nat_le a.lo b.hi) (nat_le b.lo a.hi) low (and_false (bytes_eq a.source b.source) _ one off)))

least_from : (a : Span) (spans : List Span) → AllByRecursion IsLawfulSpan (a ∷ spans) → SpansRise (a ∷ spans) → apart_from (Some a) spans ≡ true → IsLeast (a ∷ spans)
least_from a [] lawful rise off = lawful.0.1
least_from a (b ∷ spans) lawful rise off =
    let parts = and_parts (not (touches a b)) (apart_from (Some b) spans) off in
    (lawful.0.1, before_from a b lawful.1.0.1 rise.0.0 (not-true (touches a b) parts.0), least_from b spans lawful.1 rise.1 parts.1)

apart_distinct : (spans : List Span) → AllByRecursion IsLawfulSpan spans → SpansRise spans → apart_from None spans ≡ true → IsDistinct touches spans
unfolding IsDistinct
apart_distinct [] lawful rise off = tt
apart_distinct (a ∷ spans) lawful rise off = all_distinct (a ∷ spans) (least_from a spans lawful rise off)

touching : (a : Span) (spans : List Span) → apart_from (Some a) spans ≡ false → IsDistinct touches (a ∷ spans) → ⊥
unfolding IsDistinct
touching a [] h up = absurd (cc)
touching a (b ∷ spans) h up = elim (and_cases (not (touches a b)) (apart_from (Some b) spans) h) [
  | inl here ↦ (let one = not-false (touches a b) here in let off = up.0.0 in cc)
  | inr there ↦ touching b spans there up.1
]

not_apart : (spans : List Span) → apart_from None spans ≡ false → IsDistinct touches spans → ⊥
not_apart [] h up = absurd (cc)
not_apart (a ∷ spans) h up = touching a spans h up

and_flip : (b c : Bool) → (b && c) ≡ (c && b)
and_flip true true = refl
and_flip true false = refl
and_flip false true = refl
and_flip false false = refl

pub flips : (a b : Span) → touches a b ≡ touches b a
flips a b = rw (bytes_eq-sym a.source b.source, and_flip (nat_le a.lo b.hi) (nat_le b.lo a.hi)) refl

module _ (spans sorted : List Span) (same : IsPermutation spans sorted) (rise : SpansRise sorted) (lawful : AllByRecursion IsLawfulSpan sorted) where
  pub set_damaged : apart_from None sorted ≡ false → IsDistinct touches spans → ⊥
  set_damaged off up = not_apart sorted off (IsDistinct-IsPermutation touches flips spans sorted same up)

  pub set_apart : apart_from None sorted ≡ true → IsDistinct touches spans
  set_apart off = IsDistinct-IsPermutation touches flips sorted spans (IsPermutation-sym _ _ same) (apart_distinct sorted lawful rise off)

pub set_covers : (spans sorted : List Span) (rules : Type 0) (r : Result Ids StoreFault) → IsPermutation spans sorted → IfOk r (Covers sorted) → IfErr r (λ fault. fault ≡ Memory) → Judges r (Covers spans) rules
set_covers spans sorted rules (Ok ids) same ok err = λ q. ok q ∙ sym (list_any-IsPermutation (is_in q) spans sorted same)
set_covers spans sorted rules (Err e) same ok err = subst (λ f. Judges {X = Ids} (Err f) (Covers spans) rules) (sym err) (tt, tt)

-- ---- Rows of spans.

pub lawful_rows : (rows : List Row) → AllByRecursion IsSpanRow rows → AllByRecursion IsLawfulSpan (map span_in rows)
lawful_rows [] all = tt
lawful_rows (row ∷ rows) all =
    let it = all.0 in
    let is : span_in row ≡ it.1 = ap span_in it.2 in
    (subst IsLawfulSpan (sym is) (it.4, it.5, omega (arith, it.6)), lawful_rows rows all.1)

pub lawful_spans : (rows : List Row) (spans : List Span) → AllByRecursion IsSpanRow rows → spans ≡ map span_in rows → AllByRecursion IsLawfulSpan spans
lawful_spans rows spans all is = subst (AllByRecursion IsLawfulSpan) (sym is) (lawful_rows rows all)

some_spans : (spans : List Span) → AllByRecursion IsLawfulSpan spans → AllByRecursion (λ s. s.lo < s.hi) spans
some_spans [] all = tt
some_spans (s ∷ spans) all = (all.0.1, some_spans spans all.1)

shown_rows : (rows : List Row) → AllByRecursion IsSpanRow rows → map stored_span (map span_in rows) ≡ shown_spans rows
shown_rows [] all = refl
shown_rows (row ∷ rows) all =
    let it = all.0 in
    rw (shown_rows rows all.1) (ap (λ (r : Row). stored_span (span_in r) ∷ shown_spans rows) it.2 ∙ ap (λ (r : Row). shown_span r ∷ shown_spans rows) (sym it.2))

in_span : (q : Id) (s : Span) → IsSource s.source → 1 ≤ s.lo → s.hi ≤ 2 ^ 63 - 1 → is_in q s ≡ true → IsGtid q
in_span q s source low high h =
    let p = and_parts (bytes_eq q.0 s.source) (nat_le s.lo q.1 && nat_lt q.1 s.hi) h in
    let n = and_parts (nat_le s.lo q.1) (nat_lt q.1 s.hi) p.1 in
    let from = leb-true s.lo q.1 n.0 in
    let to = ltb-true q.1 s.hi n.1 in
    (subst IsSource (sym ((bytes_eq-Decides q.0 s.source).0 p.0)) source, omega (arith, low, from), omega (arith, high, to))

are_gtids : (rows : List Row) → AllByRecursion IsSpanRow rows → (q : Id) → list_any (is_in q) (map span_in rows) ≡ true → IsGtid q
are_gtids [] all q h = absurd (cc)
are_gtids (row ∷ rows) all q h =
    let it = all.0 in
    elim (cases_Bool (is_in q (span_in row))) [
      | inl here ↦ in_span q it.1 it.3 it.4 it.6 (subst (λ s. is_in q s ≡ true) (ap span_in it.2) here)
      | inr off ↦ are_gtids rows all.1 q (rw off at h)
    ]

-- rows that keep the rules are the least intervals of the set that they cover
pub spans_are : (rows : List Row) (ids : Ids) → AllByRecursion IsSpanRow rows → IsDistinct touches (map span_in rows) → Covers (map span_in rows) ids → AreSpans rows ids
spans_are rows ids all up c =
    let spans = map span_in rows in
    let s = sorted_of spans (some_spans _ (lawful_rows rows all)) up in
    record {
      spans = s.sorted;
      least = record { least = s.least; covers = λ q. c q ∙ list_any-IsPermutation (is_in q) spans s.sorted s.same };
      lawful = λ q there. are_gtids rows all q (sym (c q) ∙ there);
      rows_are = subst (IsPermutation (map stored_span s.sorted)) (shown_rows rows all) (IsPermutation-map stored_span s.sorted spans (IsPermutation-sym spans s.sorted s.same));
    }

pub spans_judged : (rows : List Row) (spans : List Span) (r : Result Ids StoreFault) → AllByRecursion IsSpanRow rows → HasRowids rows → spans ≡ map span_in rows → OnOk r (IsDistinct touches spans)
    → Judges r (Covers spans) (IsDistinct touches spans) → Judges r (λ ids. AreSpans rows ids × HasRowids rows) (AllByRecursion IsSpanRow rows × IsDistinct touches (map span_in rows))
spans_judged rows spans (Ok ids) all rowids is up covers = (spans_are rows ids all (subst (IsDistinct touches) is up) (subst (λ l. Covers l ids) is covers), rowids)
spans_judged rows spans (Err fault) all rowids is up off = (off.0, fault_by fault (λ rules. subst (IsDistinct touches) (sym is) rules.1) off.1)

-- ---- Rows of executed.

pub lawful_ids : (rows : List Row) (spans : List Span) → AllByRecursion IsExecutedRow rows → spans ≡ map (λ r. span_of_id (id_in r)) rows → AllByRecursion IsLawfulSpan spans
lawful_ids rows spans all is = subst (AllByRecursion IsLawfulSpan) (sym is) (go rows all)
  where
    go : (rows : List Row) → AllByRecursion IsExecutedRow rows → AllByRecursion IsLawfulSpan (map (λ r. span_of_id (id_in r)) rows)
    go [] all = tt
    go (row ∷ rows) all =
        let it = all.0 in
        let is : span_of_id (id_in row) ≡ span_of_id it.1 = ap (λ r. span_of_id (id_in r)) it.2 in
        (subst IsLawfulSpan (sym is) (it.3.1, omega arith, omega (arith, it.3.2)), go rows all.1)

listed_ids : (q : Id) (rows : List Row) → list_any (is_in q) (map (λ r. span_of_id (id_in r)) rows) ≡ list_any (eq_by_cmp id_cmp q) (map id_in rows)
listed_ids q [] = refl
listed_ids q (row ∷ rows) = rw (listed_ids q rows, tied q (id_in row), one_number q.1 (id_in row).1) refl

pub ids_judged : (rows : List Row) (spans : List Span) (r : Result Ids StoreFault) → AllByRecursion IsExecutedRow rows → spans ≡ map (λ r. span_of_id (id_in r)) rows → IfOk r (Covers spans) → IfErr r (λ fault. fault ≡ Memory)
    → Judges r (λ ids. AllByRecursion IsExecutedRow rows × (ids ≡ set.from_list (map id_in rows))) (AllByRecursion IsExecutedRow rows)
ids_judged rows spans (Ok ids) all is ok err =
    let c : Covers (map (λ r. span_of_id (id_in r)) rows) ids = subst (λ l. Covers l ids) is ok in
    (all, set.same_set id_cmp_total id_cmp-same ids (set.from_list (map id_in rows)) (λ q. c q ∙ listed_ids q rows ∙ sym (set.contains-from_list id_cmp_total (map id_in rows) q)))
ids_judged rows spans (Err e) all is ok err = subst (λ f. Judges {X = Ids} (Err f) (λ ids. AllByRecursion IsExecutedRow rows × (ids ≡ set.from_list (map id_in rows))) (AllByRecursion IsExecutedRow rows)) (sym err) (tt, tt)
