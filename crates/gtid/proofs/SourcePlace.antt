-- The place of a source among ascending groups.
use Rattle.gtid.proofs.Names.{◌≡◌, ℕ, zero, suc, ◌<◌, ◌≤◌, ◌+◌, inl, inr, true, ◌||◌, List, [], ◌∷◌, length, take, slice_index_or, refl, ap, sym, subst, ◌∙◌, Result, Ok, Err, IfOk, arith, Ordering, Less, Equal, Greater, nat_cmp, ordering_reverse, slice_cmp, nat_list_cmp_total, AllWithin, bytes_eq, or_cases, and_parts, bytes_eq-Decides, Id, has, Ascend, IsBelow, AreBelow, is_of, is_listed, IsGap, Group}
use Rattle.std.proofs.Common.{drop, IfErr}
use Rattle.std.specs.Ordering.{ordering_index}
use Rattle.std.specs.Cmp.{IsTotalOrder}
use Rattle.std.specs.FinSet as set
use Rattle.std.specs.List.Sorted.{IsNonDecreasingBy, IsBinarySearchResult, IsSearchInRange}
use Rattle.std.proofs.lemmas.Bool.{and_from}
use Rattle.std.proofs.lemmas.List.Folds.{list_any_more, list_any_at}
use Rattle.gtid.specs.Group.{sources, IsGroupAt}
use Rattle.gtid.proofs.GroupMerge.{ascend_first}

-- how a group's source compares
abbrev pub compares : List ℕ → Group → Ordering
compares s g = slice_cmp nat_cmp g.source s

pub below_at : (t : List ℕ) (groups : List Group) (j : ℕ) (d : Group) → IsBelow t (sources groups) → j < length groups → slice_cmp nat_cmp t (slice_index_or groups j d).source ≡ Less
below_at t [] j d below short = absurd (omega (arith, short))
below_at t (g ∷ groups) zero d below short = below.0
below_at t (g ∷ groups) (suc j) d below short = below_at t groups j d below.1 (omega (arith, short))

most : (o : Ordering) → ordering_index o ≤ 2
most Less = omega arith
most Equal = omega arith
most Greater = omega arith

-- what is less than another stands before it, or as it, in a search
pub rank : {X : Type 0} {cmp : X → X → Ordering} → IsTotalOrder cmp → set.IsAntisymmetric cmp → (a b q : X) (o : Ordering) → o ≡ cmp b q → cmp a b ≡ Less → ordering_index (cmp a q) ≤ ordering_index o
rank total same a b q Less is less = subst (λ o. ordering_index o ≤ 0) (sym (total.trans a b q less (sym is))) (omega arith)
rank {cmp = cmp} total same a b q Equal is less = subst (λ o. ordering_index o ≤ 1) (sym (ap (λ t. cmp a t) (sym (same b q (sym is))) ∙ less)) (omega arith)
rank {cmp = cmp} total same a b q Greater is less = most (cmp a q)

pub rises : (s : List ℕ) (groups : List Group) → Ascend (sources groups) → IsNonDecreasingBy (λ g. ordering_index (compares s g)) groups
rises s [] ascend i j d le short = absurd (omega (arith, short))
rises s (g ∷ groups) ascend zero zero d le short = omega arith
rises s (g ∷ groups) ascend zero (suc j) d le short =
    rank nat_list_cmp_total (set.slice_cmp-IsAntisymmetric set.nat_cmp-IsAntisymmetric) g.source (slice_index_or groups j d).source s (compares s (slice_index_or groups j d)) refl
    (below_at g.source groups j d (ascend_first g.source (sources groups) ascend).0 (omega (arith, short)))
rises s (g ∷ groups) ascend (suc i) zero d le short = absurd (omega (arith, le))
rises s (g ∷ groups) ascend (suc i) (suc j) d le short = rises s groups (ascend_first g.source (sources groups) ascend).1 i j d (omega (arith, le)) (omega (arith, short))

taken_below : (s : List ℕ) (groups : List Group) (k : ℕ) → k ≤ length groups → AllWithin (λ g. compares s g ≡ Less) groups 0 k → AreBelow (sources (take k groups)) (s ∷ [])
taken_below s [] zero fits before = tt
taken_below s [] (suc k) fits before = tt
taken_below s (g ∷ groups) zero fits before = tt
taken_below s (g ∷ groups) (suc k) fits before =
    ((before 0 g (omega arith) (omega arith), tt), taken_below s groups k (omega (arith, fits)) (λ i d le lt. before (suc i) d (omega arith) (omega (arith, lt))))

dropped_above : (s : List ℕ) (groups : List Group) (k : ℕ) → AllWithin (λ g. compares s g ≡ Greater) groups k (length groups) → IsBelow s (sources (drop k groups))
dropped_above s [] zero after = tt
dropped_above s [] (suc k) after = tt
dropped_above s (g ∷ groups) zero after =
    (nat_list_cmp_total.antisymm s g.source ∙ ap ordering_reverse (after 0 g (omega arith) (omega arith)), dropped_above s groups 0 (λ i d le lt. after (suc i) d (omega arith) (omega (arith, lt))))
dropped_above s (g ∷ groups) (suc k) after = dropped_above s groups k (λ i d le lt. after (suc i) d (omega (arith, le)) (omega (arith, lt)))

-- what a binary search answers
pub found : (s : List ℕ) (groups : List Group) (r : Result ℕ ℕ) → IsSearchInRange r (length groups) → IsBinarySearchResult (compares s) groups r → IfOk r (IsGroupAt s groups)
found s groups (Ok at) bound position = (bound, λ d. set.slice_cmp-IsAntisymmetric set.nat_cmp-IsAntisymmetric (slice_index_or groups at d).source s (position d))
found s groups (Err at) bound position = tt

pub missed : (s : List ℕ) (groups : List Group) (r : Result ℕ ℕ) → Ascend (sources groups) → IsSearchInRange r (length groups) → IsBinarySearchResult (compares s) groups r → IfErr r (IsGap s groups)
missed s groups (Ok at) ascend bound position = tt
missed s groups (Err at) ascend bound position = let p = position (rises s groups ascend) in (bound, taken_below s groups at bound p.0, dropped_above s groups at p.1)

-- one group more, whose numbers the others have
pub subset_more : (groups of : List Group) (k : ℕ) (g : Group) → k < length groups → g ≡ slice_index_or groups k g → ((n : ℕ) → has g.intervals.items n ≡ true → is_listed (g.source, n) of ≡ true) →
    ((q : Id) → is_listed q (take k groups) ≡ true → is_listed q of ≡ true) → (q : Id) → is_listed q (take (k + 1) groups) ≡ true → is_listed q of ≡ true
subset_more groups of k g short at numbers before q listed =
    elim (or_cases (is_listed q (take k groups)) (is_of q g) (sym (list_any_more (is_of q) groups k g short ∙ ap (λ x. is_listed q (take k groups) || is_of q x) (sym at)) ∙ listed)) [
      | inl early ↦ before q early
      | inr one ↦ (let both = and_parts (bytes_eq q.0 g.source) (has g.intervals.items q.1) one in
          subst (λ s. is_listed (s, q.1) of ≡ true) (sym ((bytes_eq-Decides q.0 g.source).0 both.0)) (numbers q.1 both.1))
    ]

-- the numbers of one group
pub subset_one : (groups of : List Group) (k : ℕ) (g : Group) → k < length groups → g ≡ slice_index_or groups k g → ((q : Id) → is_listed q groups ≡ true → is_listed q of ≡ true) →
    (n : ℕ) → has g.intervals.items n ≡ true → is_listed (g.source, n) of ≡ true
subset_one groups of k g short at all n one =
    all (g.source, n) (list_any_at (is_of (g.source, n)) groups k g short
    (ap (is_of (g.source, n)) (sym at) ∙ and_from (bytes_eq g.source g.source) (has g.intervals.items n) ((bytes_eq-Decides g.source g.source).1 refl) one))
