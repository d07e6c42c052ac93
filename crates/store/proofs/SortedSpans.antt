-- Spans of which no two touch, in order: the least intervals of a set.
use Rattle.store.proofs.Names.{◌≡◌, ◌⊎◌, inl, inr, ℕ, ◌<◌, nat_le, ◌&&◌, bytes_eq, List, [], ◌∷◌, ◌++◌, false, refl, sym, ap, subst, ◌∙◌, arith, AllByRecursion, ordering_reverse, Ordering, Less, Equal, Greater, cases_Bool, and_parts, false_from_ne_true, leb-true, IsPermutation, IsPermutation-refl, IsPermutation-trans, IsPermutation-cons, all-permutation, tied_itself, bytes_eq-Decides, IsLeast, Span, touches}
use Rattle.std.specs.List.{IsDistinct}
use Rattle.std.specs.FinSet as set
use Rattle.std.specs.Ordering.{nat_cmp}
use Rattle.std.specs.Cmp.Lexicographic.{slice_cmp, nat_list_cmp_total}
use Rattle.std.proofs.lemmas.Bool.{leb-false}
use Rattle.std.proofs.lemmas.List.Sorted.{IsPermutation-insert}
use Rattle.gtid.specs.Span.{IsBefore}
use Rattle.gtid.proofs.OneLeastList.{some_first, tail_least}

abbrev pub IsSome : Span → Type 0
IsSome s = s.lo < s.hi

-- the span of this source lies below or above, with a gap
abbrev pub IsClear : List ℕ → ℕ → ℕ → Span → Type 0
IsClear source lo hi t = source ≡ t.source → (t.hi < lo) ⊎ (hi < t.lo)

clear_of : (b t : Span) → touches b t ≡ false → IsClear b.source b.lo b.hi t
clear_of b t apart same =
    let inner : (nat_le b.lo t.hi && nat_le t.lo b.hi) ≡ false = rw ((bytes_eq-Decides b.source t.source).1 same) at apart in
    elim (cases_Bool (nat_le b.lo t.hi)) [
      | inl low ↦ inr (leb-false t.lo b.hi (rw low at inner))
      | inr high ↦ inl (leb-false b.lo t.hi high)
    ]

pub all_clear : (b : Span) (rest : List Span) → AllByRecursion (λ t. touches b t ≡ false) rest → AllByRecursion (IsClear b.source b.lo b.hi) rest
all_clear b [] all = tt
all_clear b (t ∷ rest) all = (clear_of b t all.0, all_clear b rest all.1)

before_next : (a b c : Span) → b.lo < b.hi → IsBefore a b → IsBefore b c → IsBefore a c
before_next a b c some (inl less) (inl next) = inl (nat_list_cmp_total.trans a.source b.source c.source less next)
before_next a b c some (inl less) (inr next) = inl (subst (λ s. slice_cmp nat_cmp a.source s ≡ Less) next.0 less)
before_next a b c some (inr less) (inl next) = inl (subst (λ s. slice_cmp nat_cmp s c.source ≡ Less) (sym less.0) next)
before_next a b c some (inr less) (inr next) = inr (less.0 ∙ next.0, omega (arith, less.1, next.1, some))

all_next : (a b : Span) → b.lo < b.hi → IsBefore a b → (spans : List Span) → AllByRecursion (IsBefore b) spans → AllByRecursion (IsBefore a) spans
all_next a b some before [] all = tt
all_next a b some before (c ∷ spans) all = (before_next a b c some before all.0, all_next a b some before spans all.1)

pub all_before : (a : Span) (spans : List Span) → IsLeast (a ∷ spans) → AllByRecursion (IsBefore a) spans
all_before a [] h = tt
all_before a (b ∷ spans) h = (h.1, all_next a b (some_first b spans h.2) h.1 spans (all_before b spans h.2))

pub apart_before : (a c : Span) → IsBefore a c → touches a c ≡ false
apart_before a c before = false_from_ne_true _ (λ touch.
    let p = and_parts (bytes_eq a.source c.source) (nat_le a.lo c.hi && nat_le c.lo a.hi) touch in
    let q = and_parts (nat_le a.lo c.hi) (nat_le c.lo a.hi) p.1 in
    let same : a.source ≡ c.source = (bytes_eq-Decides a.source c.source).0 p.0 in
    elim before [
      | inl less ↦ absurd (let own : slice_cmp nat_cmp a.source a.source ≡ Less = subst (λ s. slice_cmp nat_cmp a.source s ≡ Less) (sym same) less in let tied = tied_itself nat_list_cmp_total a.source in cc)
      | inr next ↦ absurd (let l = leb-true c.lo a.hi q.1 in omega (arith, l, next.1))
    ])

all_apart : (a : Span) (spans : List Span) → AllByRecursion (IsBefore a) spans → AllByRecursion (λ c. touches a c ≡ false) spans
all_apart a [] all = tt
all_apart a (c ∷ spans) all = (apart_before a c all.0, all_apart a spans all.1)

pub all_some : (spans : List Span) → IsLeast spans → AllByRecursion IsSome spans
all_some [] h = tt
all_some (a ∷ spans) h = (some_first a spans h, all_some spans (tail_least a spans h))

pub all_distinct : (spans : List Span) → IsLeast spans → IsDistinct touches spans
unfolding IsDistinct
all_distinct [] h = tt
all_distinct (a ∷ spans) h = (all_apart a spans (all_before a spans h), all_distinct spans (tail_least a spans h))

-- ---- one span more or less

-- least intervals without one of them
before_least : (a b : Span) (spans : List Span) → a.lo < a.hi → IsBefore a b → IsLeast (b ∷ spans) → IsLeast (a ∷ spans)
before_least a b [] some before h = some
before_least a b (c ∷ spans) some before h = (some, before_next a b c h.0 before h.1, h.2)

pub without : (front : List Span) (x : Span) (rest : List Span) → IsLeast (front ++ x ∷ rest) → IsLeast (front ++ rest)
without [] x rest h = tail_least x rest h
without (a ∷ []) x rest h = before_least a x rest h.0 h.1 h.2
without (a ∷ b ∷ front) x rest h = (h.0, h.1, without (b ∷ front) x rest h.2)

-- with one before all of them
least_cons : (a : Span) (spans : List Span) → a.lo < a.hi → AllByRecursion (IsBefore a) spans → IsLeast spans → IsLeast (a ∷ spans)
least_cons a [] some before h = some
least_cons a (b ∷ spans) some before h = (some, before.0, h)

either_way : (a b : Span) → touches a b ≡ false → IsBefore a b ⊎ IsBefore b a
either_way a b off = go (slice_cmp nat_cmp a.source b.source) refl
  where
    go : (o : Ordering) → slice_cmp nat_cmp a.source b.source ≡ o → IsBefore a b ⊎ IsBefore b a
    go Less is = inl (inl is)
    go Equal is =
        let source = set.slice_cmp-IsAntisymmetric set.nat_cmp-IsAntisymmetric a.source b.source is in
        elim (clear_of a b off source) [ inl below ↦ inr (inr (sym source, below)) | inr above ↦ inl (inr (source, above)) ]
    go Greater is = inr (inl (nat_list_cmp_total.antisymm b.source a.source ∙ ap ordering_reverse is))

-- ---- spans in order

pub record Sorted (spans : List Span) : Type 0 where
  pub sorted : List Span
  pub same : IsPermutation spans sorted
  pub least : IsLeast sorted

put_in : (x : Span) (spans : List Span) → x.lo < x.hi → AllByRecursion (λ t. touches x t ≡ false) spans → IsLeast spans → Sorted (x ∷ spans)
put_in x [] some off h = record { sorted = x ∷ []; same = IsPermutation-refl (x ∷ []); least = some }
put_in x (b ∷ spans) some off h = elim (either_way x b off.0) [
  | inl before ↦ record { sorted = x ∷ b ∷ spans; same = IsPermutation-refl (x ∷ b ∷ spans); least = (some, before, h) }
  | inr after ↦ (
      let s = put_in x spans some off.1 (tail_least b spans h) in
      record {
        sorted = b ∷ s.sorted;
        same = IsPermutation-trans (x ∷ b ∷ spans) (b ∷ x ∷ spans) (b ∷ s.sorted) (IsPermutation-insert (b ∷ spans) 1 x) (IsPermutation-cons b (x ∷ spans) s.sorted s.same);
        least = least_cons b s.sorted (some_first b spans h) (all-permutation (IsBefore b) (x ∷ spans) s.sorted s.same (after, all_before b spans h)) s.least;
      })
]

-- spans of which no two touch, in order
pub sorted_of : (spans : List Span) → AllByRecursion IsSome spans → IsDistinct touches spans → Sorted spans
unfolding IsDistinct
sorted_of [] some apart = record { sorted = []; same = IsPermutation-refl []; least = tt }
sorted_of (x ∷ spans) some apart =
    let s = sorted_of spans some.1 apart.1 in
    let p = put_in x s.sorted some.0 (all-permutation (λ t. touches x t ≡ false) spans s.sorted s.same apart.0) s.least in
    record { sorted = p.sorted; same = IsPermutation-trans (x ∷ spans) (x ∷ s.sorted) p.sorted (IsPermutation-cons x spans s.sorted s.same) p.same; least = p.least }
