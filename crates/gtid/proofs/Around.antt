-- The spans around the intervals of a source, and the set with one more number.
use Rattle.gtid.proofs.Names.{◌≡◌, ◌≢◌, ℕ, zero, suc, ◌<◌, Bool, true, false, nat_eq, ◌&&◌, ◌||◌, List, [], ◌∷◌, ◌++◌, map, length, slice_index_or, refl, ap, sym, subst, ◌∙◌, arith, Option, Some, None, IfSome, Less, nat_cmp, slice_cmp, list_any, bytes_eq, list_any-append, Id, Ids, has, AreLeast, Ascend, IsBelow, IsGap, IsLeast, IsLeastList, IsLawfulSpan, spans_of, Interval, Group, Span}
use Rattle.std.proofs.Common.{subst₂}
use Rattle.std.specs.FinSet as set
use Rattle.std.specs.Option.{option_map}
use Rattle.std.proofs.lemmas.List.{append_assoc, map-append}
use Rattle.gtid.specs.Group.{sources, ids_of}
use Rattle.gtid.specs.Span.{is_in}
use Rattle.gtid.specs.Spans.{span, spans_of_group}
use Rattle.gtid.specs.Beside.{one_or_none, joined, joined_interval, Joins, Touches, Among}
use Rattle.gtid.specs.declared.beside.Beside.{Beside}
use Rattle.gtid.proofs.GroupMerge.{ascend_first}
use Rattle.gtid.proofs.SourcePlace.{below_at}
use Rattle.gtid.proofs.Sets.{id_cmp_total, tied}
use Rattle.gtid.proofs.LeastList.{IsUnder, least_group, under_first, under_groups, least_spans, in_group, least_list_of}
use Rattle.gtid.proofs.OneLeastList.{one_least_list}

-- ---- The intervals of a source among the spans.

-- and what is below the source and the groups is below the first span, whatever intervals there are
record Stands (s : List ℕ) (intervals : List Interval) (groups : List Group) : Type 0 where
  among : Among s intervals groups
  under : (t : List ℕ) → IsBelow t (sources groups) → slice_cmp nat_cmp t s ≡ Less → (others : List Interval) → others ≢ [] → IsUnder t (among.front ++ (map (span s) others ++ among.after))

here : (s : List ℕ) (intervals : List Interval) (all groups : List Group) → spans_of all ≡ map (span s) intervals ++ spans_of groups → Ascend (sources groups) → IsBelow s (sources groups) → Stands s intervals all
here s intervals all groups is ascend below = record {
  among = record {
    front = [];
    after = spans_of groups;
    spans_are = is;
    other_least = λ others least some. least_group s 0 others (spans_of groups) least (under_groups s groups below) (least_spans groups ascend);
  };
  under = λ t _ less others some. under_first t s others (spans_of groups) less some;
}

further : (f : Group) (groups : List Group) (s : List ℕ) (intervals : List Interval) → IsBelow f.source (sources groups) → slice_cmp nat_cmp f.source s ≡ Less → Stands s intervals groups → Stands s intervals (f ∷ groups)
further f groups s intervals below less there =
    let a = there.among in
    let first = spans_of_group f in
    let moved : (others : List Interval) → first ++ (a.front ++ (map (span s) others ++ a.after)) ≡ (first ++ a.front) ++ (map (span s) others ++ a.after) = λ others. sym (append_assoc first a.front (map (span s) others ++ a.after)) in
    record {
      among = record {
        front = first ++ a.front;
        after = a.after;
        spans_are = ap (λ l. first ++ l) a.spans_are ∙ moved intervals;
        other_least = λ others least some.
            subst IsLeast (moved others) (least_group f.source 0 f.intervals.items _ f.least (there.under f.source below less others some) (a.other_least others least some));
      };
      under = λ t beneath _ others some. subst (IsUnder t) (moved others) (under_first t f.source f.intervals.items _ beneath.0 f.some);
    }

stands_at : (groups : List Group) (k : ℕ) (g : Group) (s : List ℕ) → Ascend (sources groups) → k < length groups → ((d : Group) → slice_index_or groups k d ≡ g) → g.source ≡ s → Stands s g.intervals.items groups
stands_at [] k g s ascend short at same = absurd (omega (arith, short))
stands_at (f ∷ groups) zero g s ascend short at same =
    let split = ascend_first f.source (sources groups) ascend in
    let from : f.source ≡ s = ap (λ x. x.source) (at f) ∙ same in
    here s g.intervals.items (f ∷ groups) groups (λ i. map (span (from i)) ((at f) i).intervals.items ++ spans_of groups) split.1 (subst (λ t. IsBelow t (sources groups)) from split.0)
stands_at (f ∷ groups) (suc k) g s ascend short at same =
    let split = ascend_first f.source (sources groups) ascend in
    let less = subst (λ t. slice_cmp nat_cmp f.source t ≡ Less) (ap (λ x. x.source) (at g) ∙ same) (below_at f.source groups k g split.0 (omega (arith, short))) in
    further f groups s g.intervals.items split.0 less (stands_at groups k g s split.1 (omega (arith, short)) at same)

stands_gap : (groups : List Group) (k : ℕ) (s : List ℕ) → Ascend (sources groups) → IsGap s groups k → Stands s [] groups
stands_gap [] k s ascend gap = here s [] [] [] refl ascend tt
stands_gap (f ∷ groups) zero s ascend gap = here s [] (f ∷ groups) (f ∷ groups) refl ascend gap.2
stands_gap (f ∷ groups) (suc k) s ascend gap =
    let split = ascend_first f.source (sources groups) ascend in
    further f groups s [] split.0 gap.1.0.0 (stands_gap groups k s split.1 (omega (arith, gap.0), gap.1.1, gap.2))

pub among_at : (groups : List Group) (k : ℕ) (g : Group) (s : List ℕ) (intervals : List Interval) → Ascend (sources groups) → k < length groups → ((d : Group) → slice_index_or groups k d ≡ g) → g.source ≡ s →
    intervals ≡ g.intervals.items → Among s intervals groups
among_at groups k g s intervals ascend short at same is = subst (λ l. Among s l groups) (sym is) (stands_at groups k g s ascend short at same).among

pub among_gap : (groups : List Group) (k : ℕ) (s : List ℕ) → Ascend (sources groups) → IsGap s groups k → Among s [] groups
among_gap groups k s ascend gap = (stands_gap groups k s ascend gap).among

-- ---- The spans with one more number.

around : (f : Interval → Span) (front : List Span) (xs ys : List Interval) (after : List Span) → front ++ (map f (xs ++ ys) ++ after) ≡ (front ++ map f xs) ++ (map f ys ++ after)
around f front xs ys after =
    ap (λ l. front ++ (l ++ after)) (map-append f xs ys) ∙ ap (λ l. front ++ l) (append_assoc (map f xs) (map f ys) after) ∙ sym (append_assoc front (map f xs) (map f ys ++ after))

spread : (f : Interval → Span) (below above : Option Interval) (front : List Span) (xs ys : List Interval) (after : List Span) →
    front ++ (map f (xs ++ (one_or_none below ++ (one_or_none above ++ ys))) ++ after)
    ≡ (front ++ map f xs) ++ (one_or_none (option_map f below) ++ (one_or_none (option_map f above) ++ (map f ys ++ after)))
spread f None None front xs ys after = around f front xs ys after
spread f None (Some y) front xs ys after = around f front xs (y ∷ ys) after
spread f (Some x) None front xs ys after = around f front xs (x ∷ ys) after
spread f (Some x) (Some y) front xs ys after = around f front xs (x ∷ y ∷ ys) after

joined_span : (s : List ℕ) (number : ℕ) (below above : Option Interval) → span s (joined_interval number below above) ≡ joined (s, number) (option_map (span s) below) (option_map (span s) above)
joined_span s number None None = refl
joined_span s number None (Some y) = refl
joined_span s number (Some x) None = refl
joined_span s number (Some x) (Some y) = refl

shuffle : (e x y f b : Bool) → ((e && x) || (f || ((e && y) || b))) ≡ (f || ((e && (x || y)) || b))
shuffle false x y f b = refl
shuffle true true y true b = refl
shuffle true true y false b = refl
shuffle true false y f b = refl

in_around : (q : Id) (s : List ℕ) (front : List Span) (intervals : List Interval) (after : List Span) →
    list_any (is_in q) (front ++ (map (span s) intervals ++ after)) ≡ (list_any (is_in q) front || ((bytes_eq q.0 s && has intervals q.1) || list_any (is_in q) after))
in_around q s front intervals after =
    list_any-append (is_in q) front (map (span s) intervals ++ after)
    ∙ ap (λ b. list_any (is_in q) front || b) (list_any-append (is_in q) (map (span s) intervals) after ∙ ap (λ b. b || list_any (is_in q) after) (in_group q s intervals))

some_inside : (xs : List Interval) (y : Interval) (ys : List Interval) → xs ++ y ∷ ys ≢ []
some_inside [] y ys is = absurd (cc is)
some_inside (x ∷ xs) y ys is = absurd (cc is)

with_number : (s : List ℕ) (number : ℕ) (front : List Span) (intervals now : List Interval) (after spans : List Span) (ids : Ids) → IsLeastList spans ids → spans ≡ front ++ (map (span s) intervals ++ after) →
    IsLeast (front ++ (map (span s) now ++ after)) → ((n : ℕ) → has now n ≡ (nat_eq n number || has intervals n)) → IsLeastList (front ++ (map (span s) now ++ after)) (set.insert ids (s, number))
with_number s number front intervals now after spans ids of are least adds = record {
  least = least;
  covers = λ q.
      set.contains-insert id_cmp_total ids (s, number) q
      ∙ (λ i. tied q (s, number) i || (of.covers q ∙ ap (list_any (is_in q)) are ∙ in_around q s front intervals after) i)
      ∙ shuffle (bytes_eq q.0 s) (nat_eq q.1 number) (has intervals q.1) (list_any (is_in q) front) (list_any (is_in q) after)
      ∙ (λ i. list_any (is_in q) front || ((bytes_eq q.0 s && sym (adds q.1) i) || list_any (is_in q) after))
      ∙ sym (in_around q s front now after);
}

pub joins : (all groups : List Group) (ids : Ids) (s : List ℕ) (number : ℕ) (intervals : List Interval) (below above : Option Interval) (beside : Beside) → Ascend (sources all) → groups ≡ all → ids_of all ≡ ids →
    Among s intervals groups → Touches number below above intervals → beside.below ≡ option_map (span s) below → beside.above ≡ option_map (span s) above →
    (spans : List Span) → IsLeastList spans ids → Joins ids (s, number) beside spans
joins all groups ids s number intervals below above beside ascend same is a t is_below is_above spans of =
    let f = span s in
    let j = joined_interval number below above in
    let are : spans ≡ a.front ++ (map f intervals ++ a.after) = one_least_list ids spans (spans_of groups) of (least_list_of (spans_of groups) groups all ids ascend refl same is) ∙ a.spans_are in
    let rest = map f t.rest ++ a.after in
    let made : f j ≡ joined (s, number) beside.below beside.above = joined_span s number below above ∙ (λ i. joined (s, number) (sym is_below i) (sym is_above i)) in
    let new = with_number s number a.front intervals (t.front ++ j ∷ t.rest) a.after spans ids of are (a.other_least (t.front ++ j ∷ t.rest) t.least (some_inside t.front j t.rest)) t.adds in
    record {
      front = a.front ++ map f t.front;
      rest = rest;
      spans_are = are ∙ ap (λ l. a.front ++ (map f l ++ a.after)) t.intervals_are ∙ spread f below above a.front t.front t.rest a.after ∙ (λ i. (a.front ++ map f t.front) ++ (one_or_none (sym is_below i) ++ (one_or_none (sym is_above i) ++ rest)));
      joined_least = subst (λ l. IsLeastList l (set.insert ids (s, number))) (around f a.front t.front (j ∷ t.rest) a.after ∙ ap (λ x. (a.front ++ map f t.front) ++ x ∷ rest) made) new;
    }

-- ---- What lies beside a number.

lawful_at : (s : List ℕ) (end : ℕ) (front : List Interval) (x : Interval) (rest : List Interval) → AreLeast end (front ++ x ∷ rest) → IsLawfulSpan (span s x)
lawful_at s end [] x rest h = (omega (arith, h.0), h.1, h.2)
lawful_at s end (f ∷ front) x rest h = lawful_at s f.hi front x rest h.3

abbrev pub AreLawful : Option Span → Option Span → Type 0
AreLawful below above = IfSome below IsLawfulSpan × IfSome above IsLawfulSpan

both_lawful : (s : List ℕ) (below above : Option Interval) (front rest : List Interval) → AreLeast 0 (front ++ (one_or_none below ++ (one_or_none above ++ rest))) → AreLawful (option_map (span s) below) (option_map (span s) above)
both_lawful s None None front rest h = (tt, tt)
both_lawful s None (Some y) front rest h = (tt, lawful_at s 0 front y rest h)
both_lawful s (Some x) None front rest h = (lawful_at s 0 front x rest h, tt)
both_lawful s (Some x) (Some y) front rest h = (lawful_at s 0 front x (y ∷ rest) h, lawful_at s 0 (front ++ x ∷ []) y rest (subst (AreLeast 0) (sym (append_assoc front (x ∷ []) (y ∷ rest))) h))

-- the neighbours of a number
pub beside_lawful : (s : List ℕ) (number : ℕ) (intervals : List Interval) (below above : Option Interval) (beside : Beside) → AreLeast 0 intervals → Touches number below above intervals →
    beside.below ≡ option_map (span s) below → beside.above ≡ option_map (span s) above → AreLawful beside.below beside.above
beside_lawful s number intervals below above beside least t is_below is_above =
    subst₂ AreLawful (sym is_below) (sym is_above) (both_lawful s below above t.front t.rest (subst (AreLeast 0) t.intervals_are least))
