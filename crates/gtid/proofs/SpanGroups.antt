-- Groups made of spans in the order in which they begin.
use Rattle.gtid.proofs.Names.{◌≡◌, ℕ, suc, ◌+◌, ◌<◌, ◌≤◌, ◌^◌, inl, inr, Bool, true, false, ◌&&◌, ◌||◌, List, [], ◌∷◌, ◌++◌, length, get_or, take, ◌-◌, refl, ap, sym, subst, ◌∙◌, arith, Result, Ok, Err, IfOk, Ordering, Less, Equal, Greater, nat_cmp, is_lt, ordering_then, slice_cmp, nat_list_cmp_total, list_any, AllByRecursion, bytes_eq, All-from_recursion, nat_tests, common_steps, take_all, bytes_eq-Decides, Id, id_cmp, has, is_within, AreLeast, IsLawfulSpan, Ascend, IsBelow, AreBelow, is_of, is_listed, GtidFault, Group, Interval, Span, or-false}
use Rattle.std.proofs.Common.{drop}
use Rattle.std.specs.Prelude.{max}
use Rattle.std.specs.Cmp.{IsStrictWeakOrder, tied_itself}
use Rattle.std.specs.List.Sorted.{IsSortedBy, IsPermutation}
use Rattle.std.specs.Global.{Vec}
use Rattle.std.specs.Fn.{Called, ComparesAs}
use Rattle.std.specs.FinSet as set
use Rattle.std.proofs.lemmas.Fn.{always_returns_same}
use denote.Param.Members.{Mut}
use denote.Ref.{Bor}
use Rattle.std.proofs.lemmas.List.Elements.{recursion_from_All}
use Rattle.std.proofs.lemmas.List.Sorted.{ranks_by, sorted_far, All-permutation, list_any-IsPermutation}
use Rattle.gtid.specs.Span.{is_in}
use Rattle.gtid.specs.Merged.{AreLeastBefore}
use Rattle.gtid.specs.Group.{sources}
use Rattle.gtid.specs.Gathering.{start, ComesAfter, SpansRise, span_sources, AreAbove, interval_of, IsFirst, IsOtherSource}
use Rattle.gtid.proofs.IntervalUnion.{has-append, before_push, least_from_before, within_wider}
use Rattle.gtid.proofs.GroupMerge.{ascend_nil, ascend_push, below_all, below_head, below_push, sources_push, listed_push}
use Rattle.gtid.proofs.Lowest.{lower}
use Rattle.std.proofs.Math.Bool.{or_assoc}
use Rattle.gtid.proofs.Sets.{id_cmp_total}

-- ---- The order.

then_other : (o p : Ordering) → (o ≡ Equal → ⊥) → ordering_then o p ≡ o
then_other Less p h = refl
then_other Equal p h = absurd (h refl)
then_other Greater p h = refl

pub order_same : (a b : Span) → bytes_eq a.source b.source ≡ true → nat_cmp a.lo b.lo ≡ id_cmp (start a) (start b)
order_same a b same =
    let one : slice_cmp nat_cmp a.source b.source ≡ Equal =
    ap (λ t. slice_cmp nat_cmp a.source t) (sym ((bytes_eq-Decides a.source b.source).0 same)) ∙ tied_itself nat_list_cmp_total a.source in
    ap (λ o. ordering_then o (nat_cmp a.lo b.lo)) (sym one)

pub order_other : (a b : Span) → (bytes_eq a.source b.source ≡ true → ⊥) → slice_cmp nat_cmp a.source b.source ≡ id_cmp (start a) (start b)
order_other a b other =
    sym (then_other (slice_cmp nat_cmp a.source b.source) (nat_cmp a.lo b.lo)
    (λ one. other ((bytes_eq-Decides a.source b.source).1 (set.slice_cmp-IsAntisymmetric set.nat_cmp-IsAntisymmetric a.source b.source one))))

abbrev pub begins_before : Span → Span → Bool
begins_before a b = is_lt (id_cmp (start a) (start b))

pub begins_before-order : IsStrictWeakOrder begins_before
begins_before-order = ranks_by id_cmp_total start

le_from_cmp : (a b : ℕ) → is_lt (nat_cmp b a) ≡ false → a ≤ b
le_from_cmp a b h = grind (arith, common_steps, nat_tests)

follows_by : (a b : Span) (o : Ordering) → slice_cmp nat_cmp b.source a.source ≡ o → is_lt (ordering_then o (nat_cmp b.lo a.lo)) ≡ false → ComesAfter a.source a.lo b
follows_by a b Less is h = absurd (Prim.cc)
follows_by a b Equal is h = inr (set.slice_cmp-IsAntisymmetric set.nat_cmp-IsAntisymmetric b.source a.source is, le_from_cmp a.lo b.lo h)
follows_by a b Greater is h = inl (lower Greater b.source a.source (sym is) refl)

follows : (a b : Span) → begins_before b a ≡ false → ComesAfter a.source a.lo b
follows a b h = follows_by a b (slice_cmp nat_cmp b.source a.source) refl h

-- no later span begins before an earlier one
abbrev AreInOrder : List Span → Type 0
AreInOrder spans = (i j : ℕ) (d : Span) → i ≤ j → j < length spans → begins_before (get_or spans j d) (get_or spans i d) ≡ false

all_follow : (s : Span) (spans : List Span) → ((k : ℕ) → k < length spans → begins_before (get_or spans k s) s ≡ false) → AllByRecursion (ComesAfter s.source s.lo) spans
all_follow s [] h = tt
all_follow s (t ∷ spans) h = (follows s t (h 0 (omega arith)), all_follow s spans (λ k short. h (suc k) (omega arith)))

rise_from : (spans : List Span) → AreInOrder spans → SpansRise spans
rise_from [] h = tt
rise_from (s ∷ spans) h = (
  all_follow s spans (λ k short. h 0 (suc k) s (omega arith) (omega arith)),
  rise_from spans (λ i j d le short. h (suc i) (suc j) d (omega arith) (omega arith)),
)

rise_from_sorted : (spans : List Span) → IsSortedBy begins_before spans → SpansRise spans
rise_from_sorted spans sorted = rise_from spans (sorted_far begins_before begins_before-order spans sorted)

-- from what a sort ensures, where each call of its closure compares where two spans begin
pub rise_from_sort : {F : Type 0} {g : Mut F (Bor Span × (Bor Span × Unit {0})) Ordering} {f : F} (spans : List Span) → ((lt : Span → Span → Bool) → IsStrictWeakOrder lt → ComparesAs g lt f → IsSortedBy lt spans) →
    ((a : Bor Span × (Bor Span × Unit {0})) (r : Ordering) (f' : F) → Called g f a r f' → (r ≡ id_cmp (start a.0.now) (start a.1.0.now)) × (f' ≡ f)) → SpansRise spans
rise_from_sort {g = g} {f = f} spans sorted answers =
    rise_from_sorted spans (sorted begins_before begins_before-order
    (always_returns_same g (λ a r. is_lt r ≡ begins_before a.0.now a.1.0.now) f (λ a r f' k. (ap is_lt (answers a r f' k).0, (answers a r f' k).1))))

-- ---- The intervals of one source.

pub taken_first : (source : List ℕ) (spans : List Span) (d : Span) → 1 ≤ length spans → bytes_eq (get_or spans 0 d).source source ≡ true →
    IsFirst source spans (interval_of (get_or spans 0 d)) (take (length spans - 1) (drop 1 spans))
taken_first source [] d some same = absurd (omega (arith, some))
taken_first source (s ∷ spans) d some same = ((bytes_eq-Decides s.source source).0 same, refl, take_all (length (s ∷ spans) - 1) spans (omega arith))

not_below_itself : (s : List ℕ) → slice_cmp nat_cmp s s ≡ Less → ⊥
not_below_itself s less = let equal = tied_itself nat_list_cmp_total s in cc (less, equal)

-- What of a source's spans is joined, and what is left of all: the last interval may grow.
pub record Joined (first : Span) (after : List Span) (joined : List Interval) (last : Interval) (left : List Span) : Type 0 where
  pub before : AreLeastBefore 0 last.lo joined
  pub some : last.lo < last.hi
  pub in_range : last.hi < 2 ^ 63
  pub lawful : AllByRecursion IsLawfulSpan left
  pub rise : SpansRise left
  pub follow : AllByRecursion (ComesAfter first.source last.lo) left
  pub fewer : length left ≤ length after
  pub same : (q : Id) → list_any (is_in q) (first ∷ after) ≡ ((bytes_eq q.0 first.source && (has joined q.1 || is_within q.1 last)) || list_any (is_in q) left)

pub joined_first : {joined : List Interval} (first : Span) (after : List Span) → AllByRecursion IsLawfulSpan (first ∷ after) → SpansRise (first ∷ after) → joined ≡ [] → Joined first after joined (interval_of first) after
joined_first {joined} first after lawful rise none = record {
  before = rw none lawful.0.0;
  some = lawful.0.1;
  in_range = lawful.0.2;
  lawful = lawful.1;
  rise = rise.1;
  follow = rise.0;
  fewer = omega arith;
  same = λ q. rw none refl;
}

later : (source : List ℕ) (lo : ℕ) (s : Span) → s.source ≡ source → ComesAfter source lo s → lo ≤ s.lo
later source lo s same (inl less) = absurd (not_below_itself source (ap (λ t. slice_cmp nat_cmp source t) (sym same) ∙ less))
later source lo s same (inr of) = of.1

-- one span more of the same source
one_more : (e j w x m : Bool) → ((e && (j || w)) || ((e && x) || m)) ≡ ((e && (j || (w || x))) || m)
one_more true true w x m = refl
one_more true false true x m = refl
one_more true false false x m = refl
one_more false j w x m = refl

one_apart : (e j w x m : Bool) → ((e && (j || w)) || ((e && x) || m)) ≡ ((e && ((j || (w || false)) || x)) || m)
one_apart true true w x m = refl
one_apart true false true x m = refl
one_apart true false false x m = refl
one_apart false j w x m = refl

-- the next one touches the last one
pub joined_on : {first : Span} {after : List Span} {joined : List Interval} {last : Interval} (left : List Span) (next : Interval) (others : List Span) → Joined first after joined last left →
    IsFirst first.source left next others → next.lo ≤ last.hi → Joined first after joined (record { lo = last.lo; hi = max last.hi next.hi }) others
joined_on [] next others j taken touch = absurd taken
joined_on {first} {after} {joined} {last} (s ∷ spans) next others j (same, is, rest) touch =
    let on : s.lo ≤ last.hi = subst (λ (i : Interval). i.lo ≤ last.hi) is touch in
    rw (is, rest)
    (record {
      before = j.before;
      some = omega (arith, j.some);
      in_range = omega (arith, j.in_range, j.lawful.0.2);
      lawful = j.lawful.1;
      rise = j.rise.1;
      follow = j.follow.1;
      fewer = omega (arith, j.fewer);
      same = λ q.
          j.same q
          ∙ ap (λ t. (bytes_eq q.0 first.source && (has joined q.1 || is_within q.1 last)) || ((bytes_eq q.0 t && is_within q.1 (interval_of s)) || list_any (is_in q) spans)) same
          ∙ one_more (bytes_eq q.0 first.source) (has joined q.1) (is_within q.1 last) (is_within q.1 (interval_of s)) (list_any (is_in q) spans)
          ∙ ap (λ b. (bytes_eq q.0 first.source && (has joined q.1 || b)) || list_any (is_in q) spans)
          (sym (within_wider q.1 last.lo last.hi s.lo s.hi (later first.source last.lo s same j.follow.0) on));
    })

-- the next one does not
pub joined_apart : {first : Span} {after : List Span} {joined joined' : List Interval} {last : Interval} (left : List Span) (next : Interval) (others : List Span) → Joined first after joined last left →
    IsFirst first.source left next others → last.hi < next.lo → joined' ≡ joined ++ last ∷ [] → Joined first after joined' next others
joined_apart [] next others j taken gap push = absurd taken
joined_apart {first} {after} {joined} {joined'} {last} (s ∷ spans) next others j (same, is, rest) gap push =
    let far : last.hi < s.lo = subst (λ (i : Interval). last.hi < i.lo) is gap in
    rw (is, rest)
    (record {
      before = rw push (before_push 0 last.lo last.hi s.lo joined j.before j.some j.in_range far);
      some = j.lawful.0.1;
      in_range = j.lawful.0.2;
      lawful = j.lawful.1;
      rise = j.rise.1;
      follow = subst (λ t. AllByRecursion (ComesAfter t s.lo) spans) same j.rise.0;
      fewer = omega (arith, j.fewer);
      same = λ q.
          j.same q
          ∙ ap (λ t. (bytes_eq q.0 first.source && (has joined q.1 || is_within q.1 last)) || ((bytes_eq q.0 t && is_within q.1 (interval_of s)) || list_any (is_in q) spans)) same
          ∙ one_apart (bytes_eq q.0 first.source) (has joined q.1) (is_within q.1 last) (is_within q.1 (interval_of s)) (list_any (is_in q) spans)
          ∙ ap (λ b. (bytes_eq q.0 first.source && (b || is_within q.1 (interval_of s))) || list_any (is_in q) spans) (sym (ap (λ l. has l q.1) push ∙ has-append joined (last ∷ []) q.1));
    })

above_from : (source : List ℕ) (lo : ℕ) (left : List Span) → AllByRecursion (ComesAfter source lo) left → SpansRise left → IsOtherSource source left → AreAbove source left
above_from source lo [] follow rise other = tt
above_from source lo (s ∷ spans) follow rise other = let less = lower follow.0 in (less, all_above s.source s.lo spans less rise.0)
  where
    lower : ComesAfter source lo s → slice_cmp nat_cmp source s.source ≡ Less
    lower (inl less) = less
    lower (inr of) = absurd (other of.0)

    all_above : (t : List ℕ) (at : ℕ) (us : List Span) → slice_cmp nat_cmp source t ≡ Less → AllByRecursion (ComesAfter t at) us → AreAbove source us
    all_above t at [] less h = tt
    all_above t at (u ∷ us) less (inl more, h) = (nat_list_cmp_total.trans source t u.source less more, all_above t at us less h)
    all_above t at (u ∷ us) less (inr of, h) = (ap (λ v. slice_cmp nat_cmp source v) of.0 ∙ less, all_above t at us less h)

pub record Joins (first : Span) (after : List Span) (joined : List Interval) (left : List Span) : Type 0 where
  pub least : AreLeast 0 joined
  pub some : joined ≡ [] → ⊥
  pub same : (q : Id) → list_any (is_in q) (first ∷ after) ≡ ((bytes_eq q.0 first.source && has joined q.1) || list_any (is_in q) left)
  pub above : AreAbove first.source left

or_nothing : (a b : Bool) → (a || (b || false)) ≡ (a || b)
or_nothing true b = refl
or_nothing false true = refl
or_nothing false false = refl

not_nil : (xs : List Interval) (x : Interval) → xs ++ x ∷ [] ≡ [] → ⊥
not_nil [] x e = Prim.cc
not_nil (y ∷ xs) x e = Prim.cc

pub joined_all : {first : Span} {after : List Span} {joined joined' : List Interval} {last : Interval} {left : List Span} → Joined first after joined last left → IsOtherSource first.source left → joined' ≡ joined ++ last ∷ [] →
    Joins first after joined' left
joined_all {first} {after} {joined} {joined'} {last} {left} j other push = record {
  least = rw push (least_from_before 0 (last.hi + 1) (joined ++ last ∷ []) (before_push 0 last.lo last.hi (last.hi + 1) joined j.before j.some j.in_range (omega arith)));
  some = λ none. not_nil joined last (sym push ∙ none);
  same = λ q. j.same q ∙ ap (λ b. (bytes_eq q.0 first.source && b) || list_any (is_in q) left) (sym (ap (λ l. has l q.1) push ∙ has-append joined (last ∷ []) q.1 ∙ or_nothing (has joined q.1) (is_within q.1 last)));
  above = above_from first.source last.lo left j.follow j.rise other;
}

-- ---- The groups.

-- The spans as groups, source by source, and what is left of them.
pub record Gathered (all : List Span) (groups : List Group) (left : List Span) : Type 0 where
  pub ascend : Ascend (sources groups)
  pub below : AreBelow (sources groups) (span_sources left)
  pub lawful : AllByRecursion IsLawfulSpan left
  pub rise : SpansRise left
  pub same : (q : Id) → list_any (is_in q) all ≡ (is_listed q groups || list_any (is_in q) left)

-- the first of the spans that are left, in the words of the code
pub gathered_next : {all : List Span} {groups : List Group} (left : List Span) (d : Span) → Gathered all groups left → 1 ≤ length left → Gathered all groups (get_or left 0 d ∷ take (length left - 1) (drop 1 left))
gathered_next [] d m some = absurd (omega (arith, some))
gathered_next {all} {groups} (s ∷ spans) d m some = subst (λ l. Gathered all groups (s ∷ l)) (sym (take_all (length (s ∷ spans) - 1) spans (omega arith))) m

pub gathered_none : {groups : List Group} (spans : List Span) → AllByRecursion IsLawfulSpan spans → SpansRise spans → groups ≡ [] → Gathered spans groups spans
gathered_none spans lawful rise none = rw none
    (record {
      ascend = ascend_nil;
      below = tt;
      lawful = lawful;
      rise = rise;
      same = λ q. refl;
    })

below_through : (ss : List (List ℕ)) (t : List ℕ) (us ts : List (List ℕ)) → AreBelow ss (t ∷ us) → IsBelow t ts → AreBelow ss ts
below_through [] t us ts h above = tt
below_through (s ∷ ss) t us ts h above = (below_all s t ts h.0.0 above, below_through ss t us ts h.1 above)

-- one source more
pub gathered_push : {all : List Span} {groups : List Group} (first : Span) (after : List Span) (g : Group) (groups' : List Group) (left : List Span) → Gathered all groups (first ∷ after) →
    g.source ≡ first.source → ((q : Id) → list_any (is_in q) (first ∷ after) ≡ (is_of q g || list_any (is_in q) left)) → AreAbove first.source left → AllByRecursion IsLawfulSpan left → SpansRise left →
    groups' ≡ groups ++ g ∷ [] → Gathered all groups' left
gathered_push {all} {groups} first after g groups' left m source same above lawful rise push =
    let ends : sources groups' ≡ sources groups ++ first.source ∷ [] = ap sources push ∙ sources_push groups g ∙ ap (λ t. sources groups ++ t ∷ []) source in
    record {
      ascend = subst Ascend (sym ends) (ascend_push (sources groups) first.source m.ascend (below_head (sources groups) first.source (span_sources after) m.below));
      below = subst (λ ss. AreBelow ss (span_sources left)) (sym ends)
          (below_push (sources groups) first.source (span_sources left) (below_through (sources groups) first.source (span_sources after) (span_sources left) m.below above) above);
      lawful = lawful;
      rise = rise;
      same = λ q.
          m.same q
          ∙ ap (λ b. is_listed q groups || b) (same q)
          ∙ sym (or_assoc (is_listed q groups) (is_of q g) (list_any (is_in q) left))
          ∙ ap (λ b. b || list_any (is_in q) left) (sym (listed_push q groups g) ∙ ap (is_listed q) (sym push));
    }

-- with no span left
pub gathered_all : {all : List Span} {groups : List Group} (left : List Span) → Gathered all groups left → length left < 1 → (q : Id) → is_listed q groups ≡ list_any (is_in q) all
gathered_all {all} {groups} [] m none q = sym (m.same q ∙ or-false (is_listed q groups))
gathered_all (s ∷ spans) m none q = absurd (omega arith)

pub lawful_sorted : (spans sorted : List Span) → IsPermutation spans sorted → AllByRecursion IsLawfulSpan spans → AllByRecursion IsLawfulSpan sorted
lawful_sorted spans sorted moved lawful = recursion_from_All IsLawfulSpan sorted (All-permutation IsLawfulSpan spans sorted moved (All-from_recursion IsLawfulSpan spans lawful))

pub listed_sorted : (spans sorted : List Span) (r : Result (Vec Group) GtidFault) → IsPermutation spans sorted → IfOk r (λ groups. (q : Id) → is_listed q groups.items ≡ list_any (is_in q) sorted) →
    IfOk r (λ groups. (q : Id) → is_listed q groups.items ≡ list_any (is_in q) spans)
listed_sorted spans sorted (Ok groups) moved same = λ q. same q ∙ sym (list_any-IsPermutation (is_in q) spans sorted moved)
listed_sorted spans sorted (Err fault) moved same = tt
