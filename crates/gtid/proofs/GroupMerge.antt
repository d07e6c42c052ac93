-- Two ascending lists of groups, taken source by source.
use Rattle.gtid.proofs.Names.{◌≡◌, ℕ, ◌⊎◌, inl, inr, Bool, true, false, ◌&&◌, ◌||◌, List, [], ◌∷◌, ◌++◌, refl, ap, sym, subst, ◌∙◌, Less, nat_cmp, slice_cmp, nat_list_cmp_total, bytes_eq, or-false, and_right, list_any-append, bytes_eq-Decides, Id, has, Ascend, IsBelow, AreBelow, is_of, is_listed, IsNext, IsNoHigher, Group, Interval}
use Rattle.std.specs.List.Sorted.{IsStrictlySortedBy}
use Rattle.std.proofs.Math.Bool.{or_assoc}
use Rattle.std.proofs.lemmas.Bool.{or_from}
use Rattle.gtid.specs.Combination.{keeps}
use Rattle.gtid.specs.declared.combination.Combination.{Combination}
use Rattle.gtid.specs.declared.combination.Combination.TheVariants.{Union, Difference}
use Rattle.gtid.specs.Group.{sources, Splits}
use Rattle.gtid.proofs.NotBelow.{not_below_itself}

pub ascend_first : (s : List ℕ) (ss : List (List ℕ)) → Ascend (s ∷ ss) → IsBelow s ss × Ascend ss
unfolding IsStrictlySortedBy
ascend_first s ss h = h

pub ascend_cons : (s : List ℕ) (ss : List (List ℕ)) → IsBelow s ss → Ascend ss → Ascend (s ∷ ss)
unfolding IsStrictlySortedBy
ascend_cons s ss below h = (below, h)

pub ascend_nil : Ascend []
unfolding IsStrictlySortedBy
ascend_nil = tt

pub below_all : (s t : List ℕ) (ts : List (List ℕ)) → slice_cmp nat_cmp s t ≡ Less → IsBelow t ts → IsBelow s ts
below_all s t [] first h = tt
below_all s t (u ∷ ts) first h = (nat_list_cmp_total.trans s t u first h.0, below_all s t ts first h.1)

-- One more source at the end.
pub ascend_push : (ss : List (List ℕ)) (s : List ℕ) → Ascend ss → AreBelow ss (s ∷ []) → Ascend (ss ++ s ∷ [])
ascend_push [] s h below = ascend_cons s [] tt ascend_nil
ascend_push (t ∷ ss) s h below =
    let f = ascend_first t ss h in
    ascend_cons t (ss ++ s ∷ []) (push ss f.0 below.0.0) (ascend_push ss s f.1 below.1)
  where
    push : (us : List (List ℕ)) → IsBelow t us → slice_cmp nat_cmp t s ≡ Less → IsBelow t (us ++ s ∷ [])
    push [] h last = (last, tt)
    push (u ∷ us) h last = (h.0, push us h.1 last)

pub below_push : (ss : List (List ℕ)) (s : List ℕ) (ts : List (List ℕ)) → AreBelow ss ts → IsBelow s ts → AreBelow (ss ++ s ∷ []) ts
below_push [] s ts h last = (last, tt)
below_push (t ∷ ss) s ts h last = (h.0, below_push ss s ts h.1 last)

pub below_head : (ss : List (List ℕ)) (t : List ℕ) (ts : List (List ℕ)) → AreBelow ss (t ∷ ts) → AreBelow ss (t ∷ [])
below_head [] t ts h = tt
below_head (s ∷ ss) t ts h = ((h.0.0, tt), below_head ss t ts h.1)

below_tail : (ss : List (List ℕ)) (t : List ℕ) (ts : List (List ℕ)) → AreBelow ss (t ∷ ts) → AreBelow ss ts
below_tail [] t ts h = tt
below_tail (s ∷ ss) t ts h = (h.0.1, below_tail ss t ts h.1)

pub sources_push : (groups : List Group) (g : Group) → sources (groups ++ g ∷ []) ≡ sources groups ++ g.source ∷ []
sources_push [] g = refl
sources_push (f ∷ groups) g = ap (λ ss. f.source ∷ ss) (sources_push groups g)

-- No group after the source is the source's.
pub none_above : (s : List ℕ) (groups : List Group) (q : Id) → IsBelow s (sources groups) → bytes_eq q.0 s ≡ true → is_listed q groups ≡ false
none_above s [] q below same = refl
none_above s (g ∷ groups) q below same = or_from (is_of q g) (is_listed q groups) (other (bytes_eq q.0 g.source) refl) (none_above s groups q below.1 same)
  where
    other : (b : Bool) → bytes_eq q.0 g.source ≡ b → is_of q g ≡ false
    other false e = ap (λ b. b && has g.intervals.items q.1) e
    other true e =
        let one : s ≡ g.source = sym ((bytes_eq-Decides q.0 s).0 same) ∙ (bytes_eq-Decides q.0 g.source).0 e in
        let less : slice_cmp nat_cmp s s ≡ Less = ap (λ t. slice_cmp nat_cmp s t) one ∙ below.0 in
        absurd (not_below_itself s less)

-- what a list has of a source that none of its groups is below, and what follows it
pub record Taken (out : List Group) (s : List ℕ) (groups : List Group) (intervals : List Interval) (rest : List Group) : Type 0 where
  pub listed : (q : Id) → is_listed q groups ≡ ((bytes_eq q.0 s && has intervals q.1) || is_listed q rest)
  pub above : IsBelow s (sources rest)
  pub ascend : Ascend (sources rest)
  pub below : AreBelow (sources out) (sources rest)

-- none of the source's is in the list
untaken : (out : List Group) (s : List ℕ) (groups : List Group) (intervals : List Interval) (rest : List Group) →
    IsBelow s (sources groups) → Ascend (sources groups) → AreBelow (sources out) (sources groups) → intervals ≡ [] → rest ≡ groups → Taken out s groups intervals rest
untaken out s groups intervals rest above ascend below none all = rw (none, all)
    (record {
      listed = λ q. ap (λ b. b || is_listed q groups) (sym (and_right (bytes_eq q.0 s) false refl));
      above = above;
      ascend = ascend;
      below = below;
    })

pub taken : (out : List Group) (s : List ℕ) (groups : List Group) (intervals : List Interval) (rest : List Group) →
    IsNoHigher s groups → Ascend (sources groups) → AreBelow (sources out) (sources groups) → Splits groups s intervals rest → Taken out s groups intervals rest
taken out s [] intervals rest low ascend below split = untaken out s [] intervals rest tt ascend below split.0 split.1
taken out s (g ∷ groups) intervals rest low ascend below (inl (same, of, after)) = rw (of, after)
    (record {
      listed = λ q. ap (λ t. (bytes_eq q.0 t && has g.intervals.items q.1) || is_listed q groups) same;
      above = subst (λ t. IsBelow t (sources groups)) same (ascend_first g.source (sources groups) ascend).0;
      ascend = (ascend_first g.source (sources groups) ascend).1;
      below = below_tail (sources out) g.source (sources groups) below;
    })
taken out s (g ∷ groups) intervals rest (inl less) ascend below (inr (other, none, all)) =
    let f = ascend_first g.source (sources groups) ascend in
    untaken out s (g ∷ groups) intervals rest (less, below_all s g.source (sources groups) less f.0) ascend below none all
taken out s (g ∷ groups) intervals rest (inr same) ascend below (inr (other, none, all)) = absurd (other same)

-- The source is above all that is done, where it is the next one.
pub next_below : (out : List Group) (s : List ℕ) (groups : List Group) → IsNext s groups → AreBelow (sources out) (sources groups) → AreBelow (sources out) (s ∷ [])
next_below out s [] next below = absurd next
next_below out s (g ∷ groups) next below = subst (λ t. AreBelow (sources out) (t ∷ [])) next (below_head (sources out) g.source (sources groups) below)

pub next_no_higher : (s : List ℕ) (groups : List Group) → IsNext s groups → IsNoHigher s groups
next_no_higher s [] next = absurd next
next_no_higher s (g ∷ groups) next = inr next

-- What is done of two lists, and what is left of them.
pub record Merged (c : Combination) (all_left all_right left right done : List Group) : Type 0 where
  pub done_ascend : Ascend (sources done)
  pub left_ascend : Ascend (sources left)
  pub right_ascend : Ascend (sources right)
  pub left_below : AreBelow (sources done) (sources left)
  pub right_below : AreBelow (sources done) (sources right)
  pub same : (q : Id) → keeps c (is_listed q all_left) (is_listed q all_right) ≡ (is_listed q done || keeps c (is_listed q left) (is_listed q right))

pub merged_none : (c : Combination) (left right done : List Group) → Ascend (sources left) → Ascend (sources right) → done ≡ [] → Merged c left right left right done
merged_none c left right done l r none = rw none
    (record {
      done_ascend = ascend_nil;
      left_ascend = l;
      right_ascend = r;
      left_below = tt;
      right_below = tt;
      same = λ q. refl;
    })

kept_alone : (c : Combination) (a b : Bool) → keeps c (a || false) (b || false) ≡ (keeps c a b || keeps c false false)
kept_alone Union true b = refl
kept_alone Union false true = refl
kept_alone Union false false = refl
kept_alone Difference true true = refl
kept_alone Difference true false = refl
kept_alone Difference false b = refl

-- the source's numbers, and those after it
kept : (c : Combination) (e a b l r : Bool) → (e ≡ true → l ≡ false) → (e ≡ true → r ≡ false) → keeps c ((e && a) || l) ((e && b) || r) ≡ ((e && keeps c a b) || keeps c l r)
kept c true a b l r no_l no_r =
    let p = no_l refl in
    let q = no_r refl in
    (λ i. keeps c (a || p i) (b || q i)) ∙ kept_alone c a b ∙ (λ i. keeps c a b || keeps c (sym p i) (sym q i))
kept c false a b l r no_l no_r = refl

or_nothing : (a b : Bool) → (a || (b || false)) ≡ (a || b)
or_nothing a true = refl
or_nothing a false = refl

pub listed_push : (q : Id) (done : List Group) (g : Group) → is_listed q (done ++ g ∷ []) ≡ (is_listed q done || is_of q g)
listed_push q done g = list_any-append (is_of q) done (g ∷ []) ∙ or_nothing (is_listed q done) (is_of q g)

-- as above, for what both lists have of a source
same_next : (c : Combination) (left right done : List Group) (s : List ℕ) (a b kept_of : List Interval) (l r : List Group) → Taken done s left a l → Taken done s right b r →
    ((n : ℕ) → has kept_of n ≡ keeps c (has a n) (has b n)) → (q : Id) →
    (is_listed q done || keeps c (is_listed q left) (is_listed q right)) ≡ ((is_listed q done || (bytes_eq q.0 s && has kept_of q.1)) || keeps c (is_listed q l) (is_listed q r))
same_next c left right done s a b kept_of l r from_left from_right numbers q =
    let e = bytes_eq q.0 s in
    (λ i. is_listed q done || keeps c (from_left.listed q i) (from_right.listed q i))
    ∙ ap (λ k. is_listed q done || k) (kept c e (has a q.1) (has b q.1) (is_listed q l) (is_listed q r) (none_above s l q from_left.above) (none_above s r q from_right.above))
    ∙ ap (λ k. is_listed q done || ((e && k) || keeps c (is_listed q l) (is_listed q r))) (sym (numbers q.1))
    ∙ sym (or_assoc (is_listed q done) (e && has kept_of q.1) (keeps c (is_listed q l) (is_listed q r)))

-- a source of which something is kept
pub merged_push : {c : Combination} {all_left all_right left right done : List Group} (s : List ℕ) (a b : List Interval) (l r : List Group) (g : Group) (now : List Group) →
    Merged c all_left all_right left right done → Taken done s left a l → Taken done s right b r → AreBelow (sources done) (s ∷ []) → g.source ≡ s →
    ((n : ℕ) → has g.intervals.items n ≡ keeps c (has a n) (has b n)) → now ≡ done ++ g ∷ [] → Merged c all_left all_right l r now
merged_push {c} {all_left} {all_right} {left} {right} {done} s a b l r g now m from_left from_right below same numbers now_is =
    let ends : sources now ≡ sources done ++ s ∷ [] = ap sources now_is ∙ sources_push done g ∙ ap (λ t. sources done ++ t ∷ []) same in
    record {
      done_ascend = subst Ascend (sym ends) (ascend_push (sources done) s m.done_ascend below);
      left_ascend = from_left.ascend;
      right_ascend = from_right.ascend;
      left_below = subst (λ ss. AreBelow ss (sources l)) (sym ends) (below_push (sources done) s (sources l) from_left.below from_left.above);
      right_below = subst (λ ss. AreBelow ss (sources r)) (sym ends) (below_push (sources done) s (sources r) from_right.below from_right.above);
      same = λ q.
          m.same q ∙ same_next c left right done s a b g.intervals.items l r from_left from_right numbers q
          ∙ ap (λ o. o || keeps c (is_listed q l) (is_listed q r))
          (ap (λ t. is_listed q done || (bytes_eq q.0 t && has g.intervals.items q.1)) (sym same) ∙ sym (listed_push q done g) ∙ ap (is_listed q) (sym now_is));
    }

-- a source of which nothing is kept
pub merged_nothing : {c : Combination} {all_left all_right left right done : List Group} (s : List ℕ) (a b kept_of : List Interval) (l r : List Group) →
    Merged c all_left all_right left right done → Taken done s left a l → Taken done s right b r →
    ((n : ℕ) → has kept_of n ≡ keeps c (has a n) (has b n)) → kept_of ≡ [] → Merged c all_left all_right l r done
merged_nothing {c} {all_left} {all_right} {left} {right} {done} s a b kept_of l r m from_left from_right numbers none = record {
  done_ascend = m.done_ascend;
  left_ascend = from_left.ascend;
  right_ascend = from_right.ascend;
  left_below = from_left.below;
  right_below = from_right.below;
  same = λ q.
      m.same q ∙ same_next c left right done s a b kept_of l r from_left from_right numbers q
      ∙ ap (λ o. o || keeps c (is_listed q l) (is_listed q r))
      (ap (λ is. is_listed q done || (bytes_eq q.0 s && has is q.1)) none ∙ ap (λ b. is_listed q done || b) (and_right (bytes_eq q.0 s) false refl) ∙ or-false (is_listed q done));
}

-- what the next source says of both lists
pub turn : {c : Combination} {all_left all_right left right done : List Group} (s : List ℕ) → Merged c all_left all_right left right done →
    (IsNext s left × IsNoHigher s right) ⊎ (IsNoHigher s left × IsNext s right) → IsNoHigher s left × IsNoHigher s right × AreBelow (sources done) (s ∷ [])
turn {left = left} {done = done} s m (inl (next, low)) = (next_no_higher s left next, low, next_below done s left next m.left_below)
turn {right = right} {done = done} s m (inr (low, next)) = (low, next_no_higher s right next, next_below done s right next m.right_below)

-- No group before the source is the source's.
pub none_below : (s : List ℕ) (groups : List Group) (q : Id) → AreBelow (sources groups) (s ∷ []) → bytes_eq q.0 s ≡ true → is_listed q groups ≡ false
none_below s [] q below same = refl
none_below s (g ∷ groups) q below same = or_from (is_of q g) (is_listed q groups) (other (bytes_eq q.0 g.source) refl) (none_below s groups q below.1 same)
  where
    other : (b : Bool) → bytes_eq q.0 g.source ≡ b → is_of q g ≡ false
    other false e = ap (λ b. b && has g.intervals.items q.1) e
    other true e =
        let one : g.source ≡ s = sym ((bytes_eq-Decides q.0 g.source).0 e) ∙ (bytes_eq-Decides q.0 s).0 same in
        let less : slice_cmp nat_cmp s s ≡ Less = ap (λ t. slice_cmp nat_cmp t s) (sym one) ∙ below.0.0 in
        absurd (not_below_itself s less)
