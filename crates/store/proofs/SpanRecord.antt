-- The spans next to a number and the number become one span.
use Rattle.store.proofs.Names.{◌≡◌, inl, inr, ℕ, ◌-◌, ◌<◌, ◌≤◌, ◌^◌, nat_le, nat_lt, bytes_eq, ◌&&◌, ◌||◌, Bool, pos, List, [], ◌∷◌, ◌++◌, map, true, false, Some, None, Option, Ok, Err, Result, OnOk, refl, sym, ap, subst, ◌∙◌, append_assoc, arith, AllByRecursion, list_any, IsPermutation, eq_by_cmp, IsPermutation-refl, IsPermutation-trans, IsPermutation-cons, IsPermutation-map, IsPermutation-sym, list_any-IsPermutation, all-permutation, IsDistinct-IsPermutation, and_parts, and_from, false_from_ne_true, leb-true, ltb-true, le-leb, lt-ltb, bytes_eq-Decides, Int, Blob, Row, Error, State, IsLeast, IsLawfulSpan, Id, Ids, id_cmp, Beside, Span, id_cmp_total, span_rows, stored_span, shown_spans, begins_at, touches, Moves, AreRowsOf, Records}
use Rattle.std.proofs.Common.{IfSome}
use Rattle.std.specs.List.{IsDistinct}
use Rattle.std.specs.FinSet as set
use Rattle.std.proofs.lemmas.List.Sorted.{IsPermutation-middle}
use Rattle.std.proofs.Math.Bool.{or-true}
use Rattle.gtid.specs.Span.{is_in}
use Rattle.gtid.specs.Beside.{one_or_none, joined, Joins}
use Rattle.store.specs.Inside.{Begins, Shows}
use Rattle.store.proofs.Effects.{own_id}
use Rattle.store.proofs.BetweenCalls.{goes_then}
use Rattle.store.proofs.RowLemmas.{own_bytes, same_int}
use Rattle.store.proofs.SpanRows.{flips}
use Rattle.store.proofs.SortedSpans.{IsSome, IsClear, all_some, all_clear, all_distinct, without}

-- no span that is clear of this part begins where it does
begins_apart : (source : List ℕ) (lo hi : ℕ) (rest : List Span) → lo < hi → AllByRecursion IsSome rest → AllByRecursion (IsClear source lo hi) rest
    → AllByRecursion (λ r. begins_at source (pos lo) r ≡ false) (map stored_span rest)
begins_apart source lo hi [] long some clear = tt
begins_apart source lo hi (t ∷ rest) long some clear = (
  false_from_ne_true _ (λ at.
      let p = and_parts _ _ at in
      let source_is : t.source ≡ source = (bytes_eq-Decides t.source source).0 p.0 in
      let lo_is : t.lo ≡ lo = same_int t.lo lo p.1 in
      elim (clear.0 (sym source_is)) [ inl below ↦ absurd (omega (arith, below, lo_is, some.0)) | inr above ↦ absurd (omega (arith, above, lo_is, long)) ]),
  begins_apart source lo hi rest long some.1 clear.1,
)

-- Least intervals are not empty, and the others are clear of one of them.
others_clear : (front : List Span) (x : Span) (rest : List Span) → IsLeast (front ++ x ∷ rest) → AllByRecursion IsSome (x ∷ (front ++ rest)) × AllByRecursion (IsClear x.source x.lo x.hi) (front ++ rest)
unfolding IsDistinct
others_clear front x rest least =
    let first : IsPermutation (front ++ x ∷ rest) (x ∷ (front ++ rest)) = IsPermutation-middle front x rest in
    let apart : IsDistinct touches (x ∷ (front ++ rest)) = IsDistinct-IsPermutation touches flips (front ++ x ∷ rest) (x ∷ (front ++ rest)) first (all_distinct (front ++ x ∷ rest) least) in
    (all-permutation IsSome (front ++ x ∷ rest) (x ∷ (front ++ rest)) first (all_some (front ++ x ∷ rest) least), all_clear x (front ++ rest) apart.0)

-- the rows without one of their spans
pub one_out : (front : List Span) (x : Span) (rest : List Span) (rows : List Row) → AreRowsOf rows (front ++ x ∷ rest) → Begins x.source (pos x.lo) (shown_spans rows) (stored_span x) (map stored_span (front ++ rest))
one_out front x rest rows h =
    let clear = others_clear front x rest h.least in
    record {
      begins = and_from _ _ (own_bytes x.source) (own_id (pos x.lo));
      apart = begins_apart x.source x.lo x.hi (front ++ rest) clear.0.0 clear.0.1 clear.1;
      all = IsPermutation-trans (stored_span x ∷ map stored_span (front ++ rest)) (map stored_span (front ++ x ∷ rest)) (shown_spans rows)
          (IsPermutation-sym (map stored_span (front ++ x ∷ rest)) (map stored_span (x ∷ (front ++ rest))) (IsPermutation-map stored_span (front ++ x ∷ rest) (x ∷ (front ++ rest)) (IsPermutation-middle front x rest))) h.rows_are;
    }

-- ---- a span that is in the place of another

-- a span that is clear of a part has no number of it
not_in : (q : Id) (lo hi : ℕ) (t : Span) → lo ≤ q.1 → q.1 < hi → IsClear q.0 lo hi t → is_in q t ≡ false
not_in q lo hi t from to clear = false_from_ne_true _ (λ at.
    let p = and_parts (bytes_eq q.0 t.source) (nat_le t.lo q.1 && nat_lt q.1 t.hi) at in
    let n = and_parts (nat_le t.lo q.1) (nat_lt q.1 t.hi) p.1 in
    let low = leb-true t.lo q.1 n.0 in
    let high = ltb-true q.1 t.hi n.1 in
    elim (clear ((bytes_eq-Decides q.0 t.source).0 p.0)) [ inl below ↦ absurd (omega (arith, below, from, high)) | inr above ↦ absurd (omega (arith, above, to, low)) ])

none_has : (q : Id) (lo hi : ℕ) (spans : List Span) → lo ≤ q.1 → q.1 < hi → AllByRecursion (IsClear q.0 lo hi) spans → list_any (is_in q) spans ≡ false
none_has q lo hi [] from to clear = refl
none_has q lo hi (t ∷ spans) from to clear = rw (not_in q lo hi t from to clear.0, none_has q lo hi spans from to clear.1) refl

any_middle : (q : Id) (front : List Span) (x : Span) (rest : List Span) → list_any (is_in q) (front ++ x ∷ rest) ≡ (is_in q x || list_any (is_in q) (front ++ rest))
any_middle q front x rest = list_any-IsPermutation (is_in q) (front ++ x ∷ rest) (x ∷ (front ++ rest)) (IsPermutation-middle front x rest)

start_in : (x : Span) → IsSome x → is_in (x.source, x.lo) x ≡ true
start_in x some = rw ((bytes_eq-Decides x.source x.source).1 refl, le-leb x.lo x.lo (omega arith), lt-ltb x.lo x.hi some) refl

or_false : (b c : Bool) → c ≡ false → (b || c) ≡ true → b ≡ true
or_false true c off h = refl
or_false false c off h = absurd (cc)

-- With another span in the place of one: if the start of that is still in some span, they are of the same source.
same_source : (front : List Span) (x : Span) (rest : List Span) (y : Span) → IsLeast (front ++ x ∷ rest) → list_any (is_in (x.source, x.lo)) (front ++ y ∷ rest) ≡ true → x.source ≡ y.source
same_source front x rest y least has =
    let q : Id = (x.source, x.lo) in
    let clear = others_clear front x rest least in
    let none : list_any (is_in q) (front ++ rest) ≡ false = none_has q x.lo x.hi (front ++ rest) (omega arith) clear.0.0 clear.1 in
    let at : is_in q y ≡ true = or_false (is_in q y) (list_any (is_in q) (front ++ rest)) none (sym (any_middle q front y rest) ∙ has) in
    (bytes_eq-Decides x.source y.source).0 (and_parts (bytes_eq x.source y.source) (nat_le y.lo x.lo && nat_lt x.lo y.hi) at).0

-- ---- a number and its neighbours

without_one : (front : List Span) (o : Option Span) (rest : List Span) → IsLeast (front ++ (one_or_none o ++ rest)) → IsLeast (front ++ rest)
without_one front None rest h = h
without_one front (Some x) rest h = without front x rest h

module _ (ids : Ids) (q : Id) (beside : Beside) (spans : List Span) (j : Joins ids q beside spans) (a : State) (shows : Shows (span_rows a.now) spans ids) where
  abbrev one : Span
  one = joined q beside.below beside.above

  pub both_there : AreRowsOf (span_rows a.now) ((j.front ++ one_or_none beside.below) ++ (one_or_none beside.above ++ j.rest))
  both_there =
      let there : AreRowsOf (span_rows a.now) (j.front ++ (one_or_none beside.below ++ (one_or_none beside.above ++ j.rest))) =
      subst (AreRowsOf (span_rows a.now)) j.spans_are (record { least = shows.least.least; rows_are = shows.rows_are }) in
      subst (AreRowsOf (span_rows a.now)) (sym (append_assoc j.front (one_or_none beside.below) (one_or_none beside.above ++ j.rest))) there

  -- the neighbour above is gone
  module _ (b : State) (first : Moves a b (map stored_span ((j.front ++ one_or_none beside.below) ++ j.rest))) where
    one_there : AreRowsOf (span_rows b.now) (j.front ++ (one_or_none beside.below ++ j.rest))
    one_there =
        let there : AreRowsOf (span_rows b.now) ((j.front ++ one_or_none beside.below) ++ j.rest) =
        record { least = without_one (j.front ++ one_or_none beside.below) beside.above j.rest both_there.least; rows_are = first.stored } in
        subst (AreRowsOf (span_rows b.now)) (append_assoc j.front (one_or_none beside.below) j.rest) there

    recorded : (e : State) (others : List Row) (r : Result ℕ Error) → IsPermutation (map stored_span (j.front ++ j.rest)) others → OnOk r (Moves b e (stored_span one ∷ others)) → OnOk r (Records a e (set.insert ids q))
    recorded e others (Ok n) same last = record {
      on = goes_then a b e first.on last.on;
      held = last.held ∙ first.held;
      spans = j.front ++ one ∷ j.rest;
      shows = record {
        least = j.joined_least;
        rows_are = IsPermutation-trans (map stored_span (j.front ++ one ∷ j.rest)) (stored_span one ∷ map stored_span (j.front ++ j.rest)) (shown_spans (span_rows e.now))
            (IsPermutation-map stored_span (j.front ++ one ∷ j.rest) (one ∷ (j.front ++ j.rest)) (IsPermutation-middle j.front one j.rest))
            (IsPermutation-trans (stored_span one ∷ map stored_span (j.front ++ j.rest)) (stored_span one ∷ others) (shown_spans (span_rows e.now))
            (IsPermutation-cons (stored_span one) (map stored_span (j.front ++ j.rest)) others same) last.stored);
      };
    }
    recorded e others (Err fault) same last = tt

    -- there is none below, and the span is put in
    pub recorded_new : (e : State) (r : Result ℕ Error) → beside.below ≡ None → OnOk r (Moves b e (stored_span one ∷ shown_spans (span_rows b.now))) → OnOk r (Records a e (set.insert ids q))
    recorded_new e r none last = recorded e (shown_spans (span_rows b.now)) r (subst (λ o. AreRowsOf (span_rows b.now) (j.front ++ (one_or_none o ++ j.rest))) none one_there).rows_are last

    -- the one below is made longer
    module _ (x : Span) (is : beside.below ≡ Some x) where
      there : AreRowsOf (span_rows b.now) (j.front ++ x ∷ j.rest)
      there = subst (λ o. AreRowsOf (span_rows b.now) (j.front ++ (one_or_none o ++ j.rest))) is one_there

      pub begins_below : Begins x.source (pos x.lo) (shown_spans (span_rows b.now)) (stored_span x) (map stored_span (j.front ++ j.rest))
      begins_below = one_out j.front x j.rest (span_rows b.now) there

      -- its start is in the set, and so in the one span
      has_start : set.contains ids (x.source, x.lo) ≡ true
      has_start =
          let p : Id = (x.source, x.lo) in
          let rest = one_or_none beside.above ++ j.rest in
          let spans_are : spans ≡ j.front ++ x ∷ rest = subst (λ o. spans ≡ j.front ++ (one_or_none o ++ rest)) is j.spans_are in
          shows.least.covers p ∙ ap (list_any (is_in p)) spans_are ∙ any_middle p j.front x rest ∙ ap (λ b. b || list_any (is_in p) (j.front ++ rest)) (start_in x (others_clear j.front x j.rest there.least).0.0)

      source_is : x.source ≡ q.0
      source_is =
          let p : Id = (x.source, x.lo) in
          let added : set.contains (set.insert ids q) p ≡ true = set.contains-insert id_cmp_total ids q p ∙ rw has_start (or-true (eq_by_cmp id_cmp p q)) in
          same_source j.front x j.rest one there.least (sym (j.joined_least.covers p) ∙ added)

      longer_is : (Blob x.source ∷ Int (pos x.lo) ∷ Int (pos one.hi) ∷ []) ≡ stored_span one
      longer_is = rw (source_is, is) refl

      pub recorded_longer : (e : State) (r : Result ℕ Error) → OnOk r (Moves b e ((Blob x.source ∷ Int (pos x.lo) ∷ Int (pos one.hi) ∷ []) ∷ map stored_span (j.front ++ j.rest))) → OnOk r (Records a e (set.insert ids q))
      recorded_longer e r last =
          let others = map stored_span (j.front ++ j.rest) in
          recorded e others r (IsPermutation-refl others) (subst (λ row. OnOk r (Moves b e (row ∷ others))) longer_is last)

-- ---- the numbers of the one span

pub low_joined : (q : Id) (below above : Option Span) → IfSome below IsLawfulSpan → q.1 ≤ 2 ^ 63 - 2 → (joined q below above).lo < 2 ^ 63
low_joined q None above lawful n = omega (arith, n)
low_joined q (Some s) above lawful n = omega (arith, lawful.1, lawful.2)

pub high_joined : (q : Id) (below above : Option Span) → IfSome above IsLawfulSpan → q.1 ≤ 2 ^ 63 - 2 → (joined q below above).hi < 2 ^ 63
high_joined q below None lawful n = omega (arith, n)
high_joined q below (Some s) lawful n = lawful.2
