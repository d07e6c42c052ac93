-- Groups, and the set that they stand for.
use Rattle.gtid.proofs.Names.{◌≡◌, ◌≢◌, ◌<◌, ◌⊎◌, inl, inr, ℕ, zero, suc, Bool, true, false, not, nat_eq, nat_le, nat_lt, ◌&&◌, ◌||◌, ◌+◌, ◌-◌, List, [], ◌∷◌, length, map, flat_map, refl, ap, sym, ◌∙◌, arith, Ordering, Less, Equal, Greater, nat_cmp, ordering_then, eq_by_cmp, slice_cmp, nat_list_cmp_total, list_any, bytes_eq, list_any-append, bytes_eq-Decides, IsTrue, or-false, and_right, false≢true, nat_tests, common_steps, Id, id_cmp, Ids, is_within, has, AreLeast, Ascend, is_listed, Interval, Group}
use Rattle.std.proofs.Common.{◌↔◌}
use Rattle.std.specs.Cmp.{IsTotalOrder, then_total, on_total, nat_cmp_total, tied_then, unsigned_tied}
use Rattle.std.specs.FinSet as set
use Rattle.std.specs.List.{range_with_len}
use Rattle.std.specs.List.Sorted.{IsStrictlySortedBy}
use Rattle.std.proofs.lemmas.Map.Text.{is_eq-slice_cmp}
use Rattle.std.proofs.Math.Bool.{and-true}
use Rattle.std.proofs.lemmas.Bool.{false_from_ne_true}
use Rattle.gtid.specs.Identifier.{is_one}
use Rattle.gtid.specs.Combination.{keeps}
use Rattle.gtid.specs.declared.combination.Combination.TheVariants.{Union, Difference}
use Rattle.gtid.specs.Group.{sources, ids_of_interval, ids_of_group, ids_of}

pub id_cmp_total : IsTotalOrder id_cmp
id_cmp_total = then_total (on_total (λ (a : Id). a.0) nat_list_cmp_total) (on_total (λ (a : Id). a.1) nat_cmp_total)

pub then_equal : (a b : Ordering) → ordering_then a b ≡ Equal → (a ≡ Equal) × (b ≡ Equal)
then_equal Less b e = absurd (Prim.cc)
then_equal Equal b e = (refl, e)
then_equal Greater b e = absurd (Prim.cc)

pub id_cmp-same : set.IsAntisymmetric id_cmp
id_cmp-same a b e =
    let both = then_equal (slice_cmp nat_cmp a.0 b.0) (nat_cmp a.1 b.1) e in
    λ i. (set.slice_cmp-IsAntisymmetric set.nat_cmp-IsAntisymmetric a.0 b.0 both.0 i, set.nat_cmp-IsAntisymmetric a.1 b.1 both.1 i)

-- whether two GTIDs are the same, by source and number
pub tied : (a b : Id) → eq_by_cmp id_cmp a b ≡ (bytes_eq a.0 b.0 && nat_eq a.1 b.1)
tied a b =
    sym (tied_then (slice_cmp nat_cmp a.0 b.0) (nat_cmp a.1 b.1))
    ∙ (λ i. is_eq-slice_cmp a.0 b.0 i && unsigned_tied a.1 b.1 i)

-- one number more at the front of a range
range_more : (n lo count : ℕ) → (nat_eq n lo || (nat_le (lo + 1) n && nat_lt n (lo + 1 + count))) ≡ (nat_le lo n && nat_lt n (lo + suc count))
range_more n lo count = grind (arith, common_steps, nat_tests)

pub factored : (a x y z : Bool) → (x || y) ≡ z → ((a && x) || (a && y)) ≡ (a && z)
factored true x y z e = e
factored false x y z e = refl

empty_range : (n lo : ℕ) → (nat_le lo n && nat_lt n (lo + 0)) ≡ false
empty_range n lo = grind (arith, common_steps, nat_tests)

listed_in_range : (q : Id) (source : List ℕ) (lo count : ℕ) →
    list_any (eq_by_cmp id_cmp q) (map (λ n. (source, n)) (range_with_len lo count)) ≡ (bytes_eq q.0 source && (nat_le lo q.1 && nat_lt q.1 (lo + count)))
listed_in_range q source lo zero = sym (and_right (bytes_eq q.0 source) (nat_le lo q.1 && nat_lt q.1 (lo + 0)) (empty_range q.1 lo))
listed_in_range q source lo (suc count) =
    (λ i. tied q (source, lo) i || listed_in_range q source (lo + 1) count i)
    ∙ factored (bytes_eq q.0 source) (nat_eq q.1 lo) (nat_le (lo + 1) q.1 && nat_lt q.1 (lo + 1 + count)) (nat_le lo q.1 && nat_lt q.1 (lo + suc count)) (range_more q.1 lo count)

-- up to an end that may be below the beginning
same_end : (lo hi n : ℕ) → (nat_le lo n && nat_lt n (lo + (hi - lo))) ≡ (nat_le lo n && nat_lt n hi)
same_end lo hi n = grind (arith, common_steps, nat_tests)

pub listed_in_interval : (q : Id) (source : List ℕ) (i : Interval) → list_any (eq_by_cmp id_cmp q) (ids_of_interval source i) ≡ (bytes_eq q.0 source && is_within q.1 i)
listed_in_interval q source i = listed_in_range q source i.lo (i.hi - i.lo) ∙ ap (λ b. bytes_eq q.0 source && b) (same_end i.lo i.hi q.1)

listed_in_intervals : (q : Id) (source : List ℕ) (intervals : List Interval) →
    list_any (eq_by_cmp id_cmp q) (flat_map (ids_of_interval source) intervals) ≡ (bytes_eq q.0 source && has intervals q.1)
listed_in_intervals q source [] = sym (and_right (bytes_eq q.0 source) false refl)
listed_in_intervals q source (i ∷ intervals) =
    list_any-append (eq_by_cmp id_cmp q) (ids_of_interval source i) (flat_map (ids_of_interval source) intervals)
    ∙ (λ k. listed_in_interval q source i k || listed_in_intervals q source intervals k)
    ∙ factored (bytes_eq q.0 source) (is_within q.1 i) (has intervals q.1) (has (i ∷ intervals) q.1) refl

listed_in_groups : (q : Id) (groups : List Group) → list_any (eq_by_cmp id_cmp q) (flat_map ids_of_group groups) ≡ is_listed q groups
listed_in_groups q [] = refl
listed_in_groups q (g ∷ groups) =
    list_any-append (eq_by_cmp id_cmp q) (ids_of_group g) (flat_map ids_of_group groups)
    ∙ (λ k. listed_in_intervals q g.source g.intervals.items k || listed_in_groups q groups k)

-- The set has a GTID exactly if the groups list it.
pub contains_listed : (groups : List Group) (q : Id) → set.contains (ids_of groups) q ≡ is_listed q groups
unfolding ids_of
contains_listed groups q = set.contains-from_list id_cmp_total (flat_map ids_of_group groups) q ∙ listed_in_groups q groups

-- Two sets of groups with the same members are equal.
pub same_ids : (ids : Ids) (groups : List Group) → ((q : Id) → is_listed q groups ≡ set.contains ids q) → ids_of groups ≡ ids
same_ids ids groups same = set.same_set id_cmp_total id_cmp-same (ids_of groups) ids (λ q. contains_listed groups q ∙ same q)

pub no_groups : (groups : List Group) → groups ≡ [] → ids_of groups ≡ set.empty
no_groups groups none = same_ids set.empty groups (λ q. ap (is_listed q) none ∙ sym (set.contains-empty id_cmp q))

pub ascend_none : (groups : List Group) → groups ≡ [] → Ascend (sources groups)
unfolding IsStrictlySortedBy
ascend_none groups none = rw none tt

-- what is kept of two sets
pub is_union : (x y z : List Group) (left right : Ids) → ids_of x ≡ left → ids_of y ≡ right → ((q : Id) → is_listed q z ≡ keeps Union (is_listed q x) (is_listed q y)) → ids_of z ≡ set.union left right
is_union x y z left right is_left is_right kept = same_ids (set.union left right) z (λ q.
    kept q
    ∙ (λ i. sym (contains_listed x q) i || sym (contains_listed y q) i)
    ∙ (λ i. set.contains (is_left i) q || set.contains (is_right i) q)
    ∙ sym (set.contains-union id_cmp_total left right q))

pub is_difference : (x y z : List Group) (left right : Ids) → ids_of x ≡ left → ids_of y ≡ right → ((q : Id) → is_listed q z ≡ keeps Difference (is_listed q x) (is_listed q y)) →
    ids_of z ≡ set.difference left right
is_difference x y z left right is_left is_right kept = same_ids (set.difference left right) z (λ q.
    kept q
    ∙ (λ i. sym (contains_listed x q) i && not (sym (contains_listed y q) i))
    ∙ (λ i. set.contains (is_left i) q && not (set.contains (is_right i) q))
    ∙ sym (set.contains-difference id_cmp_total left right q))

-- A set without members has no groups.
pub no_members : (groups : List Group) (ids : Ids) → ids_of groups ≡ ids → ids ≡ set.empty → groups ≡ []
no_members [] ids is empty = refl
no_members (g ∷ groups) ids is empty =
    let n = first_number g.intervals.items g.some g.least in
    let q : Id = (g.source, n.0) in
    let listed : is_listed q (g ∷ groups) ≡ true = (λ i. ((bytes_eq-Decides g.source g.source).1 refl i && n.1 i) || is_listed q groups) in
    absurd (false≢true (sym (sym (contains_listed (g ∷ groups) q) ∙ (λ i. set.contains ((is ∙ empty) i) q) ∙ set.contains-empty id_cmp q) ∙ listed))
  where
    first_number : (intervals : List Interval) → intervals ≢ [] → AreLeast 0 intervals → (n : ℕ) × (has intervals n ≡ true)
    first_number [] some least = absurd (some refl)
    first_number (i ∷ intervals) some least = (i.lo, (λ k. within i.lo i.hi least.1 k || has intervals i.lo))
      where
        within : (lo hi : ℕ) → lo < hi → (nat_le lo lo && nat_lt lo hi) ≡ true
        within lo hi less = grind (arith, nat_tests)

pub is_empty : (groups : List Group) (ids : Ids) → ids_of groups ≡ ids → length groups ≡ 0 → ids ≡ set.empty
is_empty [] ids is none = sym is ∙ no_groups [] refl
is_empty (g ∷ groups) ids is none = absurd (omega (arith, none))

-- of a set without members the list of groups is not long
pub not_long : (groups : List Group) (ids : Ids) → ids_of groups ≡ ids → ids ≡ set.empty → length groups ≡ 0
not_long groups ids is empty = ap length (no_members groups ids is empty)

-- nothing added, and nothing removed
pub union_none : (left right : Ids) → right ≡ set.empty → left ≡ set.union left right
union_none left right none = set.same_set id_cmp_total id_cmp-same left (set.union left right) (λ q.
    sym (set.contains-union id_cmp_total left right q
    ∙ ap (λ b. set.contains left q || b) (ap (λ s. set.contains s q) none ∙ set.contains-empty id_cmp q)
    ∙ or-false (set.contains left q)))

-- what is there already
pub union_subset : (left right : Ids) → set.is_subset right left ≡ true → left ≡ set.union left right
union_subset left right subset = set.same_set id_cmp_total id_cmp-same left (set.union left right) (λ q.
    there (set.contains left q) (set.contains right q) (set.is_subset-contains id_cmp_total right left subset q) ∙ sym (set.contains-union id_cmp_total left right q))
  where
    there : (a b : Bool) → (b ≡ true → a ≡ true) → a ≡ (a || b)
    there true b on = refl
    there false true on = on refl
    there false false on = refl

pub difference_none : (left right : Ids) → (left ≡ set.empty) ⊎ (right ≡ set.empty) → left ≡ set.difference left right
difference_none left right none = set.same_set id_cmp_total id_cmp-same left (set.difference left right) (λ q.
    sym (set.contains-difference id_cmp_total left right q ∙ same q none))
  where
    empty : {ids : Ids} (q : Id) → ids ≡ set.empty → set.contains ids q ≡ false
    empty q e = ap (λ s. set.contains s q) e ∙ set.contains-empty id_cmp q

    same : (q : Id) → (left ≡ set.empty) ⊎ (right ≡ set.empty) → (set.contains left q && not (set.contains right q)) ≡ set.contains left q
    same q (inl e) = ap (λ b. b && not (set.contains right q)) (empty q e) ∙ sym (empty q e)
    same q (inr e) = ap (λ b. set.contains left q && not b) (empty q e) ∙ and-true (set.contains left q)

-- all is removed
pub difference_subset : (left right : Ids) → set.is_subset left right ≡ true → set.empty ≡ set.difference left right
difference_subset left right subset = set.same_set id_cmp_total id_cmp-same set.empty (set.difference left right) (λ q.
    set.contains-empty id_cmp q
    ∙ gone (set.contains left q) (set.contains right q) (set.is_subset-contains id_cmp_total left right subset q)
    ∙ sym (set.contains-difference id_cmp_total left right q))
  where
    gone : (a b : Bool) → (a ≡ true → b ≡ true) → false ≡ (a && not b)
    gone true b on = ap not (sym (on refl))
    gone false b on = refl

-- a set with nothing is the set
pub is_copy : (x z : List Group) (ids : Ids) → ids_of x ≡ ids → ((q : Id) → is_listed q z ≡ keeps Union (is_listed q x) (is_listed q [])) → ids_of z ≡ ids
is_copy x z ids is kept = same_ids ids z (λ q. kept q ∙ or-false (is_listed q x) ∙ sym (contains_listed x q) ∙ ap (λ s. set.contains s q) is)

-- what the groups list is what the set has
pub contained : (groups : List Group) (ids : Ids) → ids_of groups ≡ ids → (q : Id) → is_listed q groups ≡ set.contains ids q
contained groups ids is q = sym (contains_listed groups q) ∙ ap (λ s. set.contains s q) is

pub inserted : (old now : List Group) (ids : Ids) (x : Id) → ids_of old ≡ ids → ((q : Id) → is_listed q now ≡ (is_one q x || is_listed q old)) → ids_of now ≡ set.insert ids x
inserted old now ids x is adds = same_ids (set.insert ids x) now (λ q.
    adds q ∙ (λ i. sym (tied q x) i || contained old ids is q i) ∙ sym (set.contains-insert id_cmp_total ids x q))

pub is_subset_is : (r : Bool) (x y : List Group) (left right : Ids) → ids_of x ≡ left → ids_of y ≡ right → (IsTrue r ↔ ((q : Id) → is_listed q x ≡ true → is_listed q y ≡ true)) → r ≡ set.is_subset left right
is_subset_is true x y left right is_left is_right tells =
    sym (set.contains-is_subset id_cmp_total left right (λ q one. sym (contained y right is_right q) ∙ tells.0 refl q (contained x left is_left q ∙ one)))
is_subset_is false x y left right is_left is_right tells =
    sym (false_from_ne_true (set.is_subset left right) (λ all. false≢true (tells.1 (λ q one.
    contained y right is_right q ∙ set.is_subset-contains id_cmp_total left right all q (sym (contained x left is_left q) ∙ one)))))

-- of two sets that have nothing in common the second lists nothing of the first
pub apart_listed : (x y : List Group) (left right : Ids) → ids_of x ≡ left → ids_of y ≡ right → set.intersection left right ≡ set.empty → (q : Id) → is_listed q x ≡ true → is_listed q y ≡ false
apart_listed x y left right is_left is_right none q is =
    contained y right is_right q
    ∙ other (set.contains left q) (set.contains right q) (sym (contained x left is_left q) ∙ is)
    (sym (set.contains-intersection id_cmp_total left right q) ∙ ap (λ s. set.contains s q) none ∙ set.contains-empty id_cmp q)
  where
    other : (a b : Bool) → a ≡ true → (a && b) ≡ false → b ≡ false
    other true b one none = none
    other false b one none = absurd (false≢true one)

-- nothing of it is removed
pub difference_apart : (x y : List Group) (left right : Ids) → ids_of x ≡ left → ids_of y ≡ right → ((q : Id) → is_listed q x ≡ true → is_listed q y ≡ false) → left ≡ set.difference left right
difference_apart x y left right is_left is_right apart = set.same_set id_cmp_total id_cmp-same left (set.difference left right) (λ q.
    stays (set.contains left q) (set.contains right q) (λ one. sym (contained y right is_right q) ∙ apart q (contained x left is_left q ∙ one)) ∙ sym (set.contains-difference id_cmp_total left right q))
  where
    stays : (a b : Bool) → (a ≡ true → b ≡ false) → a ≡ (a && not b)
    stays true b out = ap not (sym (out refl))
    stays false b out = refl
