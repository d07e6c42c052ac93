-- The spans of groups are the least intervals of their set.
use Rattle.gtid.proofs.Names.{◌≡◌, ◌≢◌, ℕ, ◌<◌, inl, inr, false, ◌&&◌, ◌||◌, List, [], ◌∷◌, ◌++◌, map, refl, ap, sym, subst, ◌∙◌, Less, nat_cmp, slice_cmp, list_any, bytes_eq, and_right, list_any-append, Id, Ids, AreLeast, is_within, has, Ascend, IsBelow, is_listed, IsBefore, IsLeast, IsLeastList, spans_of, Interval, Group, Span}
use Rattle.std.proofs.Math.Bool.{and-or_distrib_left}
use Rattle.gtid.specs.Group.{sources, ids_of}
use Rattle.gtid.specs.Span.{is_in}
use Rattle.gtid.specs.Spans.{span, spans_of_group}
use Rattle.gtid.proofs.GroupMerge.{ascend_first}
use Rattle.gtid.proofs.Sets.{contains_listed}

-- the span is before the first of the list
abbrev pub Leads : Span → List Span → Type 0
Leads a [] = Unit {0}
Leads a (b ∷ spans) = IsBefore a b

pub least_cons : (a : Span) (spans : List Span) → a.lo < a.hi → Leads a spans → IsLeast spans → IsLeast (a ∷ spans)
least_cons a [] some leads least = some
least_cons a (b ∷ spans) some leads least = (some, leads, least)

-- the source is below that of the first of the list
abbrev pub IsUnder : List ℕ → List Span → Type 0
IsUnder s [] = Unit {0}
IsUnder s (b ∷ spans) = slice_cmp nat_cmp s b.source ≡ Less

under_leads : (a : Span) (spans : List Span) → IsUnder a.source spans → Leads a spans
under_leads a [] under = tt
under_leads a (b ∷ spans) under = inl under

pub least_group : (s : List ℕ) (end : ℕ) (intervals : List Interval) (rest : List Span) → AreLeast end intervals → IsUnder s rest → IsLeast rest → IsLeast (map (span s) intervals ++ rest)
least_group s end [] rest least under after = after
least_group s end (i ∷ intervals) rest least under after =
    least_cons (span s i) (map (span s) intervals ++ rest) least.1 (leads intervals least.3) (least_group s i.hi intervals rest least.3 under after)
  where
    leads : (intervals : List Interval) → AreLeast i.hi intervals → Leads (span s i) (map (span s) intervals ++ rest)
    leads [] least = under_leads (span s i) rest under
    leads (j ∷ intervals) least = inr (refl, least.0)

pub under_first : (s t : List ℕ) (intervals : List Interval) (rest : List Span) → slice_cmp nat_cmp s t ≡ Less → intervals ≢ [] → IsUnder s (map (span t) intervals ++ rest)
under_first s t [] rest less some = absurd (some refl)
under_first s t (i ∷ intervals) rest less some = less

pub under_groups : (s : List ℕ) (groups : List Group) → IsBelow s (sources groups) → IsUnder s (spans_of groups)
under_groups s [] below = tt
under_groups s (g ∷ groups) below = under_first s g.source g.intervals.items (spans_of groups) below.0 g.some

pub least_spans : (groups : List Group) → Ascend (sources groups) → IsLeast (spans_of groups)
least_spans [] ascend = tt
least_spans (g ∷ groups) ascend =
    let f = ascend_first g.source (sources groups) ascend in
    least_group g.source 0 g.intervals.items (spans_of groups) g.least (under_groups g.source groups f.0) (least_spans groups f.1)

pub in_group : (q : Id) (s : List ℕ) (intervals : List Interval) → list_any (is_in q) (map (span s) intervals) ≡ (bytes_eq q.0 s && has intervals q.1)
in_group q s [] = sym (and_right (bytes_eq q.0 s) false refl)
in_group q s (i ∷ intervals) = ap (λ b. is_in q (span s i) || b) (in_group q s intervals) ∙ sym (and-or_distrib_left (bytes_eq q.0 s) (is_within q.1 i) (has intervals q.1))

in_spans : (q : Id) (groups : List Group) → list_any (is_in q) (spans_of groups) ≡ is_listed q groups
in_spans q [] = refl
in_spans q (g ∷ groups) =
    list_any-append (is_in q) (spans_of_group g) (spans_of groups) ∙ (λ i. in_group q g.source g.intervals.items i || in_spans q groups i)

pub least_list : (groups : List Group) → Ascend (sources groups) → IsLeastList (spans_of groups) (ids_of groups)
least_list groups ascend = record {
  least = least_spans groups ascend;
  covers = λ q. contains_listed groups q ∙ sym (in_spans q groups);
}

pub least_list_of : (spans : List Span) (groups all : List Group) (ids : Ids) → Ascend (sources all) → spans ≡ spans_of groups → groups ≡ all → ids_of all ≡ ids → IsLeastList spans ids
least_list_of spans groups all ids ascend of same is = rw (of, same) (subst (IsLeastList (spans_of all)) is (least_list all ascend))
