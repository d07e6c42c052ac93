-- A set has one list of least intervals.
use Rattle.gtid.proofs.Names.{◌≡◌, ◌<◌, ◌≤◌, ◌⊎◌, inl, inr, Bool, true, false, ◌&&◌, ◌||◌, nat_le, nat_lt, ℕ, List, [], ◌∷◌, refl, ap, sym, subst, ◌∙◌, arith, Ordering, Less, Equal, Greater, nat_cmp, ordering_reverse, slice_cmp, nat_list_cmp_total, list_any, bytes_eq, cases_order, nat_tests, bytes_eq-Decides, Id, Ids, IsBefore, IsLeast, IsLeastList, Span}
use Rattle.std.specs.FinSet as set
use Rattle.std.proofs.lemmas.Bool.{or_from}
use Rattle.gtid.specs.Span.{is_in}
use Rattle.gtid.proofs.NotBelow.{not_below_itself}

-- the GTID is below the span
abbrev pub Below : Id → Span → Type 0
Below q b = (slice_cmp nat_cmp q.0 b.source ≡ Less) ⊎ ((q.0 ≡ b.source) × (q.1 < b.lo))

-- the GTID is below the first span
abbrev pub IsEarly : Id → List Span → Type 0
IsEarly q [] = Unit {0}
IsEarly q (b ∷ spans) = Below q b

pub some_first : (a : Span) (spans : List Span) → IsLeast (a ∷ spans) → a.lo < a.hi
some_first a [] least = least
some_first a (b ∷ spans) least = least.0

pub tail_least : (a : Span) (spans : List Span) → IsLeast (a ∷ spans) → IsLeast spans
tail_least a [] least = tt
tail_least a (b ∷ spans) least = least.2

not_same : (s t : List ℕ) → slice_cmp nat_cmp s t ≡ Less → s ≡ t → ⊥
not_same s t less same = not_below_itself s (ap (λ u. slice_cmp nat_cmp s u) same ∙ less)

-- whether the numbers of a source are in a span of it
in_same : (q : Id) (b : Span) (e : Bool) → bytes_eq q.0 b.source ≡ e → (q.0 ≡ b.source → (nat_le b.lo q.1 && nat_lt q.1 b.hi) ≡ false) → is_in q b ≡ false
in_same q b false is out = ap (λ e. e && (nat_le b.lo q.1 && nat_lt q.1 b.hi)) is
in_same q b true is out = let o = out ((bytes_eq-Decides q.0 b.source).0 is) in ap (λ e. e && (nat_le b.lo q.1 && nat_lt q.1 b.hi)) is ∙ o

below_out : (n lo hi : ℕ) → n < lo → (nat_le lo n && nat_lt n hi) ≡ false
below_out n lo hi h = grind (arith, nat_tests)

above_out : (n lo hi : ℕ) → hi ≤ n → (nat_le lo n && nat_lt n hi) ≡ false
above_out n lo hi h = grind (arith, nat_tests)

between_in : (n lo hi : ℕ) → lo ≤ n → n < hi → (nat_le lo n && nat_lt n hi) ≡ true
between_in n lo hi h k = grind (arith, nat_tests)

out_below : (q : Id) (b : Span) → Below q b → is_in q b ≡ false
out_below q b (inl less) = in_same q b (bytes_eq q.0 b.source) refl (λ same. absurd (not_same q.0 b.source less same))
out_below q b (inr (same, less)) = in_same q b (bytes_eq q.0 b.source) refl (λ _. below_out q.1 b.lo b.hi less)

out_above : (q : Id) (b : Span) → b.hi ≤ q.1 → is_in q b ≡ false
out_above q b h = in_same q b (bytes_eq q.0 b.source) refl (λ _. above_out q.1 b.lo b.hi h)

pub inside : (q : Id) (b : Span) → q.0 ≡ b.source → b.lo ≤ q.1 → q.1 < b.hi → is_in q b ≡ true
inside q b same low high =
    (λ i. (bytes_eq-Decides q.0 b.source).1 same i && between_in q.1 b.lo b.hi low high i)

-- a GTID below a span is below the next one too
below_next : (q : Id) (b c : Span) → b.lo < b.hi → IsBefore b c → Below q b → Below q c
below_next q b c some (inl next) (inl less) = inl (nat_list_cmp_total.trans q.0 b.source c.source less next)
below_next q b c some (inr (same, gap)) (inl less) = inl (ap (λ t. slice_cmp nat_cmp q.0 t) (sym same) ∙ less)
below_next q b c some (inl next) (inr (of, less)) = inl (ap (λ t. slice_cmp nat_cmp t c.source) of ∙ next)
below_next q b c some (inr (same, gap)) (inr (of, less)) = inr (of ∙ same, omega arith)

early_next : (q : Id) (b : Span) (spans : List Span) → IsLeast (b ∷ spans) → Below q b → IsEarly q spans
early_next q b [] least below = tt
early_next q b (c ∷ spans) least below = below_next q b c least.0 least.1 below

none_early : (q : Id) (spans : List Span) → IsLeast spans → IsEarly q spans → list_any (is_in q) spans ≡ false
none_early q [] least early = refl
none_early q (b ∷ spans) least early =
    or_from (is_in q b) (list_any (is_in q) spans) (out_below q b early) (none_early q spans (tail_least b spans least) (early_next q b spans least early))

-- up to the end of a span, the source's GTIDs are below what follows the span
early_after : (q : Id) (a : Span) (spans : List Span) → IsLeast (a ∷ spans) → q.0 ≡ a.source → q.1 ≤ a.hi → IsEarly q spans
early_after q a [] least of high = tt
early_after q a (b ∷ spans) (some, inl less, least) of high = inl (ap (λ s. slice_cmp nat_cmp s b.source) of ∙ less)
early_after q a (b ∷ spans) (some, inr (same, gap), least) of high = inr (of ∙ same, omega arith)

none_after : (q : Id) (a : Span) (spans : List Span) → IsLeast (a ∷ spans) → q.0 ≡ a.source → q.1 ≤ a.hi → list_any (is_in q) spans ≡ false
none_after q a spans least of high = none_early q spans (tail_least a spans least) (early_after q a spans least of high)

first_in : (a : Span) (spans : List Span) → a.lo < a.hi → list_any (is_in (a.source, a.lo)) (a ∷ spans) ≡ true
first_in a spans some = ap (λ b. b || list_any (is_in (a.source, a.lo)) spans) (inside (a.source, a.lo) a refl (omega arith) some)

abbrev Same : List Span → List Span → Type 0
Same a b = (q : Id) → list_any (is_in q) a ≡ list_any (is_in q) b

differ : {b c : Bool} → b ≡ c → b ≡ true → c ≡ false → ⊥
differ same holds fails = Prim.cc

-- Of two least lists of a set, neither begins first.
not_first : (x : Span) (a b : List Span) → IsLeast (x ∷ a) → IsLeast b → Same (x ∷ a) b → IsEarly (x.source, x.lo) b → ⊥
not_first x a b left right same early =
    differ (same (x.source, x.lo)) (first_in x a (some_first x a left)) (none_early (x.source, x.lo) b right early)

-- Nor does the first span of either end first.
not_shorter : (x y : Span) (a b : List Span) → IsLeast (x ∷ a) → Same (x ∷ a) (y ∷ b) → x.source ≡ y.source → x.lo ≡ y.lo → x.lo < x.hi → x.hi < y.hi → ⊥
not_shorter x y a b left same source lo some less =
    let q : Id = (x.source, x.hi) in
    differ (sym (same q)) (ap (λ c. c || list_any (is_in q) b) (inside q y source (omega arith) less))
    (or_from (is_in q x) (list_any (is_in q) a) (out_above q x (omega arith)) (none_after q x a left refl (omega arith)))

-- What follows the same first span is the same.
same_tails : (x : Span) (a b : List Span) → IsLeast (x ∷ a) → IsLeast (x ∷ b) → Same (x ∷ a) (x ∷ b) → Same a b
same_tails x a b left right same q = by_first (is_in q x) refl
  where
    in_first : (s t u v : Bool) → (s && (u && v)) ≡ true → (s ≡ true) × (u ≡ true) × (v ≡ true)
    in_first true t true true e = (refl, refl, refl)
    in_first true t true false e = absurd (Prim.cc)
    in_first true t false v e = absurd (Prim.cc)
    in_first false t u v e = absurd (Prim.cc)

    by_first : (e : Bool) → is_in q x ≡ e → list_any (is_in q) a ≡ list_any (is_in q) b
    by_first false is = ap (λ c. c || list_any (is_in q) a) (sym is) ∙ same q ∙ ap (λ c. c || list_any (is_in q) b) is
    by_first true is =
        let parts = in_first (bytes_eq q.0 x.source) true (nat_le x.lo q.1) (nat_lt q.1 x.hi) is in
        let of : q.0 ≡ x.source = (bytes_eq-Decides q.0 x.source).0 parts.0 in
        let high : q.1 ≤ x.hi = grind (arith, nat_tests, parts.2) in
        none_after q x a left of high ∙ sym (none_after q x b right of high)

same_source : (x y : Span) (a b : List Span) (o : Ordering) → slice_cmp nat_cmp x.source y.source ≡ o → IsLeast (x ∷ a) → IsLeast (y ∷ b) → Same (x ∷ a) (y ∷ b) → x.source ≡ y.source
same_source x y a b Less is left right same = absurd (not_first x a (y ∷ b) left right same (inl is))
same_source x y a b Equal is left right same = set.slice_cmp-IsAntisymmetric set.nat_cmp-IsAntisymmetric x.source y.source is
same_source x y a b Greater is left right same =
    absurd (not_first y b (x ∷ a) right left (λ q. sym (same q)) (inl (nat_list_cmp_total.antisymm y.source x.source ∙ ap ordering_reverse is)))

same_lo : (x y : Span) (a b : List Span) → x.source ≡ y.source → IsLeast (x ∷ a) → IsLeast (y ∷ b) → Same (x ∷ a) (y ∷ b) → x.lo ≡ y.lo
same_lo x y a b of left right same = elim (cases_order x.lo y.lo) [
  | inl e ↦ e
  | inr (inl less) ↦ absurd (not_first x a (y ∷ b) left right same (inr (of, less)))
  | inr (inr less) ↦ absurd (not_first y b (x ∷ a) right left (λ q. sym (same q)) (inr (sym of, less)))
]

same_hi : (x y : Span) (a b : List Span) → x.source ≡ y.source → x.lo ≡ y.lo → IsLeast (x ∷ a) → IsLeast (y ∷ b) → Same (x ∷ a) (y ∷ b) → x.hi ≡ y.hi
same_hi x y a b of lo left right same = elim (cases_order x.hi y.hi) [
  | inl e ↦ e
  | inr (inl less) ↦ absurd (not_shorter x y a b left same of lo (some_first x a left) less)
  | inr (inr less) ↦ absurd (not_shorter y x b a right (λ q. sym (same q)) (sym of) (sym lo) (some_first y b right) less)
]

same_first : (x y : Span) (a b : List Span) → IsLeast (x ∷ a) → IsLeast (y ∷ b) → Same (x ∷ a) (y ∷ b) → x ≡ y
same_first x y a b left right same =
    let of = same_source x y a b (slice_cmp nat_cmp x.source y.source) refl left right same in
    let lo = same_lo x y a b of left right same in
    let hi = same_hi x y a b of lo left right same in
    λ i. record { source = of i; lo = lo i; hi = hi i }

one_least : (a b : List Span) → IsLeast a → IsLeast b → Same a b → a ≡ b
one_least [] [] left right same = refl
one_least [] (y ∷ b) left right same = absurd (not_first y b [] right left (λ q. sym (same q)) tt)
one_least (x ∷ a) [] left right same = absurd (not_first x a [] left right same tt)
one_least (x ∷ a) (y ∷ b) left right same =
    let first : x ≡ y = same_first x y a b left right same in
    let right_x = subst (λ z. IsLeast (z ∷ b)) (sym first) right in
    let same_x = subst (λ z. Same (x ∷ a) (z ∷ b)) (sym first) same in
    (λ i. first i ∷ one_least a b (tail_least x a left) (tail_least x b right_x) (same_tails x a b left right_x same_x) i)

pub one_least_list : (ids : Ids) (a b : List Span) → IsLeastList a ids → IsLeastList b ids → a ≡ b
one_least_list ids a b left right = one_least a b left.least right.least (λ q. sym (left.covers q) ∙ right.covers q)
