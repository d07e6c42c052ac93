-- The names of a list, each once and in order.
use Rattle.binlog.proofs.Names.{◌≡◌, ℕ, Bool, true, false, ◌&&◌, ◌||◌, List, [], ◌∷◌, refl, ap, sym, ◌∙◌, and_parts, AllByRecursion, bytes_eq, bytes_eq-Decides, Name, name_cmp, is_named_in, name_list}
use Rattle.std.proofs.Common.{cond, Vec}
use Rattle.std.specs.declared.cmp.Ordering.{Ordering}
use Rattle.std.specs.declared.cmp.Ordering.TheVariants.{Less}
use Rattle.std.specs.Ordering.{nat_cmp, eq_by_cmp}
use Rattle.std.specs.Cmp.{on_total, both_tied}
use Rattle.std.specs.Cmp.Lexicographic.{slice_cmp, texts_ties}
use Rattle.std.specs.FinSet as set
use Rattle.std.specs.List.{list_any, dedup, dedup_from}
use Rattle.std.specs.List.Retain.{IsFiltered, DiffersFromLast}
use Rattle.std.specs.List.Sorted.{IsPermutation, IsSorted, IsStrictlySortedBy}
use Rattle.std.proofs.lemmas.List.Filters.{dedup_is}
use Rattle.std.proofs.lemmas.List.Kept.{IsStrictlySortedBy-dedup}
use Rattle.std.proofs.lemmas.List.Sorted.{list_any-IsPermutation}
use Rattle.binlog.proofs.TableSets.{name_cmp_total, name_cmp-same, listed}

-- a schema and a table as they are kept
abbrev pub Kept : Type 0 → Type 0
Kept A = Vec ℕ A × Vec ℕ A

abbrev pub name_of : {A : Type 0} → Kept A → Name
name_of p = (p.0.items, p.1.items)

abbrev pub kept_cmp : {A : Type 0} → Kept A → Kept A → Ordering
kept_cmp a b = name_cmp (name_of a) (name_of b)

abbrev pub kept_eq : {A : Type 0} → Kept A → Kept A → Bool
kept_eq a b = bytes_eq a.0.items b.0.items && bytes_eq a.1.items b.1.items

kept_ties : {A : Type 0} (a b : Kept A) → kept_eq a b ≡ eq_by_cmp kept_cmp a b
kept_ties a b =
    both_tied _ _ (slice_cmp nat_cmp a.0.items b.0.items) (slice_cmp nat_cmp a.1.items b.1.items) (texts_ties a.0.items b.0.items) (texts_ties a.1.items b.1.items)

-- Removing a duplicate leaves a name that passes the same tests.
any_dedup : {A : Type 0} (p : Kept A → Bool) → ((a b : Kept A) → kept_eq a b ≡ true → p a ≡ p b) → (a : Kept A) (names : List (Kept A)) → list_any p (dedup_from kept_eq a names) ≡ (p a || list_any p names)
any_dedup p same a [] = refl
any_dedup p same a (b ∷ names) = by (kept_eq b a) refl (any_dedup p same a names) (any_dedup p same b names)
  where
    twice : (x y : Bool) → (x || y) ≡ (x || (x || y))
    twice true y = refl
    twice false y = refl

    by : (e : Bool) → kept_eq b a ≡ e → list_any p (dedup_from kept_eq a names) ≡ (p a || list_any p names) → list_any p (dedup_from kept_eq b names) ≡ (p b || list_any p names) →
        list_any p (cond e (dedup_from kept_eq a names) (a ∷ dedup_from kept_eq b names)) ≡ (p a || (p b || list_any p names))
    by true is gone kept = gone ∙ twice (p a) (list_any p names) ∙ ap (λ c. p a || (c || list_any p names)) (sym (same b a is))
    by false is gone kept = ap (λ c. p a || c) kept

abbrev pub is_named : {A : Type 0} → Name → Kept A → Bool
is_named q a = bytes_eq a.0.items q.0 && bytes_eq a.1.items q.1

same_named : {A : Type 0} (q : Name) (a b : Kept A) → kept_eq a b ≡ true → is_named q a ≡ is_named q b
same_named q a b is =
    let parts = and_parts _ _ is in
    λ i. bytes_eq ((bytes_eq-Decides a.0.items b.0.items).0 parts.0 i) q.0 && bytes_eq ((bytes_eq-Decides a.1.items b.1.items).0 parts.1 i) q.1

pub named : {A : Type 0} (q : Name) (names : List (Kept A)) → is_named_in q (name_list names) ≡ list_any (is_named q) names
named q [] = refl
named q (a ∷ names) = ap (λ c. is_named q a || c) (named q names)

named_once : {A : Type 0} (q : Name) (names : List (Kept A)) → list_any (is_named q) (dedup kept_eq names) ≡ list_any (is_named q) names
named_once q [] = refl
named_once q (a ∷ names) = any_dedup (is_named q) (same_named q) a names

rise : {A : Type 0} (names : List (Kept A)) → IsStrictlySortedBy kept_cmp names → IsStrictlySortedBy name_cmp (name_list names)
unfolding IsStrictlySortedBy
rise [] up = tt
rise {A = A} (a ∷ names) up = (above names up.0, rise names up.1)
  where
    above : (names : List (Kept A)) → AllByRecursion (λ b. kept_cmp a b ≡ Less) names → AllByRecursion (λ n. name_cmp (name_of a) n ≡ Less) (name_list names)
    above [] less = tt
    above (b ∷ names) less = (less.0, above names less.1)

-- Sorted and without duplicates the names ascend, and they are the same set.
pub once_rise : {A : Type 0} (sorted kept : List (Kept A)) → IsSorted kept_cmp sorted → IsFiltered (DiffersFromLast kept_eq) [] sorted kept → IsStrictlySortedBy name_cmp (name_list kept)
once_rise sorted kept up some = rw (dedup_is kept_eq sorted kept some) (rise (dedup kept_eq sorted) (IsStrictlySortedBy-dedup (on_total name_of name_cmp_total) kept_ties sorted up))

pub once_same : {A : Type 0} (copied sorted kept : List (Kept A)) (given : List Name) → name_list copied ≡ given → IsPermutation copied sorted → IsFiltered (DiffersFromLast kept_eq) [] sorted kept → set.from_list {R = name_cmp} (name_list kept) ≡ set.from_list given
once_same copied sorted kept given of moved some = set.same_set name_cmp_total name_cmp-same (set.from_list (name_list kept)) (set.from_list given) (λ q.
    listed (name_list kept) q
    ∙ named q kept
    ∙ ap (list_any (is_named q)) (dedup_is kept_eq sorted kept some)
    ∙ named_once q sorted
    ∙ sym (list_any-IsPermutation (is_named q) copied sorted moved)
    ∙ sym (named q copied)
    ∙ ap (is_named_in q) of
    ∙ sym (listed given q))

-- the empty list of names ascends
pub none_rise : {A : Type 0} (names : List (Kept A)) → names ≡ [] → IsStrictlySortedBy name_cmp (name_list names)
unfolding IsStrictlySortedBy
none_rise names none = rw none tt
