-- A name among names that ascend.
use Rattle.binlog.proofs.Names.{◌≡◌, ℕ, zero, suc, ◌<◌, inl, inr, true, List, [], ◌∷◌, length, refl, ap, sym, subst, ◌∙◌, Result, Ok, Err, arith, AllByRecursion, cases_lt, and_from, and_parts, bytes_eq-Decides, Name, name_cmp, is_named_in, name_list}
use Rattle.std.proofs.Common.{slice_index_or, is_ok}
use Rattle.std.specs.declared.cmp.Ordering.{Ordering}
use Rattle.std.specs.declared.cmp.Ordering.TheVariants.{Less, Equal, Greater}
use Rattle.std.specs.Ordering.{ordering_index, ordering_reverse}
use Rattle.std.specs.List.Sorted.{IsNonDecreasingBy, IsStrictlySortedBy, IsBinarySearchResult, IsSearchInRange}
use Rattle.std.proofs.lemmas.Bool.{false_from_ne_true}
use Rattle.std.proofs.lemmas.List.Folds.{list_any_at, Any-from_list_any}
use Rattle.gtid.proofs.SourcePlace.{rank}
use Rattle.binlog.proofs.TableSets.{name_cmp_total, name_cmp-same, itself}
use Rattle.binlog.proofs.NamesOnce.{Kept, name_of, is_named, named}

-- how a name compares
abbrev pub compares : {A : Type 0} → Name → Kept A → Ordering
compares q a = name_cmp (name_of a) q

first_below : (n : Name) (names : List Name) → IsStrictlySortedBy name_cmp (n ∷ names) → AllByRecursion (λ y. name_cmp n y ≡ Less) names × IsStrictlySortedBy name_cmp names
unfolding IsStrictlySortedBy
first_below n names up = up

below_at : {A : Type 0} (n : Name) (names : List (Kept A)) (j : ℕ) (d : Kept A) → AllByRecursion (λ y. name_cmp n y ≡ Less) (name_list names) → j < length names → name_cmp n (name_of (slice_index_or names j d)) ≡ Less
below_at n [] j d below short = absurd (omega (arith, short))
below_at n (a ∷ names) zero d below short = below.0
below_at n (a ∷ names) (suc j) d below short = below_at n names j d below.1 (omega (arith, short))

rises : {A : Type 0} (q : Name) (names : List (Kept A)) → IsStrictlySortedBy name_cmp (name_list names) → IsNonDecreasingBy (λ a. ordering_index (compares q a)) names
rises q [] up i j d le short = absurd (omega (arith, short))
rises q (a ∷ names) up zero zero d le short = omega arith
rises q (a ∷ names) up zero (suc j) d le short =
    let b = slice_index_or names j d in
    rank name_cmp_total name_cmp-same (name_of a) (name_of b) q (compares q b) refl (below_at (name_of a) names j d (first_below (name_of a) (name_list names) up).0 (omega (arith, short)))
rises q (a ∷ names) up (suc i) zero d le short = absurd (omega (arith, le))
rises q (a ∷ names) up (suc i) (suc j) d le short = rises q names (first_below (name_of a) (name_list names) up).1 i j d (omega (arith, le)) (omega (arith, short))

-- a name that compares equal is the name, and the other way round
equal_named : {A : Type 0} (q : Name) (a : Kept A) → compares q a ≡ Equal → is_named q a ≡ true
equal_named q a is = let same = name_cmp-same (name_of a) q is in subst (λ n. is_named n a ≡ true) same (and_from _ _ (itself a.0.items) (itself a.1.items))

named_same : {A : Type 0} (q : Name) (a : Kept A) → is_named q a ≡ true → name_of a ≡ q
named_same q a is =
    let parts = and_parts _ _ is in
    λ i. ((bytes_eq-Decides a.0.items q.0).0 parts.0 i, (bytes_eq-Decides a.1.items q.1).0 parts.1 i)

own_reverse : (o : Ordering) → o ≡ ordering_reverse o → o ≡ Equal
own_reverse Less is = absurd (Prim.cc)
own_reverse Equal is = refl
own_reverse Greater is = absurd (Prim.cc)

cmp_itself : (q : Name) → name_cmp q q ≡ Equal
cmp_itself q = own_reverse (name_cmp q q) (name_cmp_total.antisymm q q)

differ : {o : Ordering} → o ≡ Equal → o ≡ Less → ⊥
differ a b = Prim.cc

differ_above : {o : Ordering} → o ≡ Equal → o ≡ Greater → ⊥
differ_above a b = Prim.cc

-- what a binary search answers
pub searched : {A : Type 0} (q : Name) (names : List (Kept A)) (r : Result ℕ ℕ) → IsStrictlySortedBy name_cmp (name_list names) → IsSearchInRange r (length names) → IsBinarySearchResult (compares q) names r → is_ok r ≡ is_named_in q (name_list names)
searched q [] (Ok at) up bound position = absurd (omega (arith, bound))
searched q (a ∷ names) (Ok at) up bound position = sym (named q (a ∷ names) ∙ list_any_at (is_named q) (a ∷ names) at a bound (equal_named q (slice_index_or (a ∷ names) at a) (position a)))
searched q names (Err at) up bound position = sym (named q names ∙ false_from_ne_true _ (λ yes.
    let there = Any-from_list_any (is_named q) names yes in
    let p = position (rises q names up) in
    let k = there.0 in
    let x = there.1 in
    let equal : compares q (slice_index_or names k x) ≡ Equal = ap (compares q) there.3 ∙ ap (λ n. name_cmp n q) (named_same q x there.4) ∙ cmp_itself q in
    elim (cases_lt k at) [
      | inl before ↦ differ equal (p.0 k x (omega arith) before)
      | inr after ↦ differ_above equal (p.1 k x after there.2)
    ]))
