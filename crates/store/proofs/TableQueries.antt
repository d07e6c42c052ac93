-- From the answer of a query for a whole table to the table.
use Rattle.store.proofs.Names.{IfErr, ◌≡◌, Bool, true, false, MatchBool, List, map, Ok, Err, Result, IfOk, refl, sym, ap, ◌∙◌, AllByRecursion, is_eq, ordering_reverse, eq_by_cmp, IsTotalOrder, Ordering, Less, Equal, Greater, IsPermutation, IsPermutation-sym, IsPermutation-trans, IsPermutation-map, list_any-IsPermutation, IsDistinct-IsPermutation, all-permutation, rowid, Row, value_cmp_total, Ids, id_cmp_total, id_cmp-same, Names, name_cmp_total, name_cmp-same, StoreFault, Damaged, alike, HasRowids, IsMetaRow, IsHeldRow, IsFollowRow, IsSpanRow, IsExecutedRow, AreNames, AreSpans, touches, shown_span, span_in, id_in, name_in, Judges, OnSeen}
use Rattle.std.specs.List.{IsDistinct}
use Rattle.std.specs.FinSet as set
use Rattle.sqlite_value.specs.Order.{value_cmp}
use Rattle.store.specs.declared.table.meta.Meta.{Meta}
use Rattle.store.specs.Judge.{IsMeta}
use Rattle.store.specs.Load.{IsLoadFault}
use Rattle.store.proofs.Steps.{fault_by}
use Rattle.store.proofs.Laid.{only_back}
use Rattle.store.proofs.SpanRows.{flips}

pub on_seen : {X P : Type 0} (r : Result X StoreFault) → P → OnSeen r P
on_seen (Ok x) p = p
on_seen (Err Damaged) p = p
on_seen (Err _) p = tt

pub judged_by : {X : Type 0} {Good Other : X → Type 0} {rules others : Type 0} (r : Result X StoreFault) → ((x : X) → Good x → Other x) → (others → rules) → Judges r Good rules → Judges r Other others
judged_by (Ok x) good back h = good x h
judged_by (Err fault) good back h = (h.0, fault_by fault back h.1)

-- which faults a judgement admits
pub judged_fault : {X : Type 0} (Good : X → Type 0) (rules : Type 0) (r : Result X StoreFault) → Judges r Good rules → IfErr r IsLoadFault
judged_fault Good rules (Ok x) h = tt
judged_fault Good rules (Err fault) h = h.0

either_way : (o : Ordering) → is_eq (ordering_reverse o) ≡ is_eq o
either_way Less = refl
either_way Equal = refl
either_way Greater = refl

turns : (a b : Row) → alike a b ≡ alike b a
turns a b = ap is_eq (value_cmp_total.antisymm (rowid a) (rowid b)) ∙ either_way (value_cmp (rowid b) (rowid a))

same_list : {K : Type 0} {R : K → K → Ordering} (o : IsTotalOrder R) → set.IsAntisymmetric R → (xs ys : List K) → IsPermutation xs ys → ◌≡◌ {A = set.FinSet R} (set.from_list xs) (set.from_list ys)
same_list {R = R} o one xs ys same = set.same_set o one (set.from_list xs) (set.from_list ys) (λ q.
    set.contains-from_list o xs q ∙ list_any-IsPermutation (eq_by_cmp R q) xs ys same ∙ sym (set.contains-from_list o ys q))

module _ (rows answer : List Row) (same : IsPermutation rows answer) where
  back : IsPermutation answer rows
  back = IsPermutation-sym _ _ same

  apart : HasRowids answer → HasRowids rows
  apart h = record { apart = IsDistinct-IsPermutation alike turns answer rows back h.apart; keyed = all-permutation _ answer rows back h.keyed }

  lawful_back : (b : Bool) → MatchBool b (AllByRecursion IsMetaRow answer) (¬ AllByRecursion IsMetaRow answer) → MatchBool b (AllByRecursion IsMetaRow rows) (¬ AllByRecursion IsMetaRow rows)
  lawful_back true h = all-permutation IsMetaRow answer rows back h
  lawful_back false h = λ all. h (all-permutation IsMetaRow rows answer same all)

  pub meta_table : {E : Type 0} (r : Result Meta E) → IfOk r (IsMeta answer) → IfOk r (IsMeta rows)
  meta_table (Ok m) h = record { layout = only_back rows answer m.layout same h.layout; lawful = lawful_back m.lawful h.lawful; apart = apart h.apart }
  meta_table (Err e) h = h

  pub held_table : {X : Type 0} (r : Result X StoreFault) → Judges r (λ _. AllByRecursion IsHeldRow answer × HasRowids answer) (AllByRecursion IsHeldRow answer) → Judges r (λ _. AllByRecursion IsHeldRow rows × HasRowids rows) (AllByRecursion IsHeldRow rows)
  held_table r h = judged_by r (λ x it. (all-permutation IsHeldRow answer rows back it.0, apart it.1)) (all-permutation IsHeldRow rows answer same) h

  names_back : (names : Names) → AreNames answer names → AreNames rows names
  names_back names h = record {
    lawful = all-permutation IsFollowRow answer rows back h.lawful;
    names_are = h.names_are ∙ same_list name_cmp_total name_cmp-same (map name_in answer) (map name_in rows) (IsPermutation-map name_in answer rows back);
  }

  pub follow_table : (r : Result Names StoreFault) → Judges r (AreNames answer) (AllByRecursion IsFollowRow answer) → Judges r (AreNames rows) (AllByRecursion IsFollowRow rows)
  follow_table r h = judged_by r names_back (all-permutation IsFollowRow rows answer same) h

  spans_back : (ids : Ids) → AreSpans answer ids × HasRowids answer → AreSpans rows ids × HasRowids rows
  spans_back ids h = (
    record {
      spans = h.0.spans;
      least = h.0.least;
      lawful = h.0.lawful;
      rows_are = IsPermutation-trans _ _ _ h.0.rows_are (IsPermutation-map shown_span answer rows back);
    },
    apart h.1,
  )

  pub spans_table : (r : Result Ids StoreFault) → Judges r (λ ids. AreSpans answer ids × HasRowids answer) (AllByRecursion IsSpanRow answer × IsDistinct touches (map span_in answer))
      → Judges r (λ ids. AreSpans rows ids × HasRowids rows) (AllByRecursion IsSpanRow rows × IsDistinct touches (map span_in rows))
  spans_table r h = judged_by r spans_back (λ it. (all-permutation IsSpanRow rows answer same it.0, IsDistinct-IsPermutation touches flips (map span_in rows) (map span_in answer) (IsPermutation-map span_in rows answer same) it.1)) h

  pub executed_table : (r : Result Ids StoreFault) → Judges r (λ ids. AllByRecursion IsExecutedRow answer × (ids ≡ set.from_list (map id_in answer))) (AllByRecursion IsExecutedRow answer)
      → Judges r (λ ids. AllByRecursion IsExecutedRow rows × (ids ≡ set.from_list (map id_in rows))) (AllByRecursion IsExecutedRow rows)
  executed_table r h = judged_by r
      (λ ids it. (all-permutation IsExecutedRow answer rows back it.0, it.1 ∙ same_list id_cmp_total id_cmp-same (map id_in answer) (map id_in rows) (IsPermutation-map id_in answer rows back)))
      (all-permutation IsExecutedRow rows answer same) h
