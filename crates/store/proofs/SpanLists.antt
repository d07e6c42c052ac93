-- Lists of spans stored and deleted.
use Rattle.store.proofs.Names.{◌≡◌, inl, inr, ◌≤◌, ◌^◌, ◌-◌, List, [], ◌∷◌, ◌++◌, map, true, Ok, Err, Result, OnOk, append-nil, sym, subst, ◌∙◌, and_parts, bytes_eq-Decides, AllByRecursion, list_any, IsPermutation, IsPermutation-trans, IsPermutation-cons, Row, State, Span, held_rows, span_rows, shown_spans, stored_span, Id, Ids, IsSource, AreGtids, IsLeastList, Moves, HasLeft, AreRowsOf, Records}
use Rattle.std.proofs.lemmas.Bool.{or_cases}
use Rattle.std.specs.FinSet as set
use Rattle.std.proofs.lemmas.List.Sorted.{IsPermutation-append_comm, IsPermutation-append_left}
use Rattle.gtid.specs.Span.{is_in}
use Rattle.gtid.proofs.OneLeastList.{one_least_list, tail_least}
use Rattle.store.specs.Inside.{Shows}
use Rattle.store.proofs.BetweenCalls.{goes_then}

-- ---- the spans, one after another

one_less : (a b c spans : List Row) (x : Row) → IsPermutation a (b ++ x ∷ spans) → IsPermutation (x ∷ b) c → IsPermutation a (c ++ spans)
one_less a b c spans x so_far moved =
    IsPermutation-trans a (b ++ x ∷ spans) (c ++ spans) so_far
    (IsPermutation-trans (b ++ x ∷ spans) (x ∷ spans ++ b) (c ++ spans) (IsPermutation-append_comm b (x ∷ spans))
    (IsPermutation-trans (x ∷ spans ++ b) (x ∷ b ++ spans) (c ++ spans) (IsPermutation-cons x (spans ++ b) (b ++ spans) (IsPermutation-append_comm spans b))
    (IsPermutation-append_left spans (x ∷ b) c moved)))

pub left_less : (old mid new : State) (spans rest : List Span) (span : Span) → HasLeft old mid spans (span ∷ rest) → Moves mid new (stored_span span ∷ shown_spans (span_rows mid.now)) → HasLeft old new spans rest
left_less old mid new spans rest span so_far moved = record {
  on = goes_then old mid new so_far.on moved.on;
  held = moved.held ∙ so_far.held;
  stored = one_less (shown_spans (span_rows old.now) ++ map stored_span spans) (shown_spans (span_rows mid.now)) (shown_spans (span_rows new.now)) (map stored_span rest) (stored_span span) so_far.stored moved.stored;
}

-- ---- spans deleted

pub one_removed : (old mid new : State) (span : Span) (rest : List Span) → AreRowsOf (span_rows mid.now) (span ∷ rest) → held_rows mid.now ≡ held_rows old.now → Moves mid new (map stored_span rest)
    → AreRowsOf (span_rows new.now) rest × (held_rows new.now ≡ held_rows old.now)
one_removed old mid new span rest lists held moved = (record { least = tail_least span rest lists.least; rows_are = moved.stored }, moved.held ∙ held)

-- ---- spans instead of others

source_of : (q : Id) (spans : List Span) → AllByRecursion (λ s. IsSource s.source) spans → list_any (is_in q) spans ≡ true → IsSource q.0
source_of q [] each there = absurd (cc)
source_of q (s ∷ spans) each there = elim (or_cases (is_in q s) (list_any (is_in q) spans) there) [
  | inl here ↦ subst IsSource (sym ((bytes_eq-Decides q.0 s.source).0 (and_parts _ _ here).0)) each.0
  | inr further ↦ source_of q spans each.1 further
]

-- the members of a set whose sources are lawful
pub are_gtids : {E : Type 0} (ids : Ids) (spans : List Span) (r : Result (Unit {0}) E) → IsLeastList spans ids → ((q : Id) → set.contains ids q ≡ true → (1 ≤ q.1) × (q.1 ≤ 2 ^ 63 - 2))
    → OnOk r (AllByRecursion (λ s. IsSource s.source) spans) → OnOk r (AreGtids ids)
are_gtids ids spans (Ok u) least numbers each = λ q there. (source_of q spans each (sym (least.covers q) ∙ there), (numbers q there).0, (numbers q there).1)
are_gtids ids spans (Err e) least numbers each = tt

pub all_listed : (old : State) (ids : Ids) (spans sorted : List Span) → Shows (span_rows old.now) spans ids → IsLeastList sorted ids → AreRowsOf (span_rows old.now) sorted
all_listed old ids spans sorted shows least =
    record { least = least.least; rows_are = subst (λ l. IsPermutation (map stored_span l) (shown_spans (span_rows old.now))) (one_least_list ids spans sorted shows.least least) shows.rows_are }

pub replaced : {E : Type 0} (old mid new : State) (ids : Ids) (spans : List Span) (r : Result (Unit {0}) E) → IsLeastList spans ids → Moves old mid [] → OnOk r (HasLeft mid new spans []) → OnOk r (Records old new ids)
replaced old mid new ids spans (Ok u) least removed added = record {
  on = goes_then old mid new removed.on added.on;
  held = added.held ∙ removed.held;
  spans = spans;
  shows = record {
    least = least;
    rows_are = subst (IsPermutation (map stored_span spans)) (append-nil (shown_spans (span_rows new.now)))
        (IsPermutation-trans (map stored_span spans) (shown_spans (span_rows mid.now) ++ map stored_span spans) (shown_spans (span_rows new.now) ++ [])
        (IsPermutation-append_left (map stored_span spans) [] (shown_spans (span_rows mid.now)) removed.stored) added.stored);
  };
}
replaced old mid new ids spans (Err e) least removed added = tt
