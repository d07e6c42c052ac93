-- Each set has a list of least intervals.
use Rattle.gtid.proofs.Names.{◌≡◌, ◌+◌, ◌<◌, ◌⊎◌, inl, inr, Bool, true, false, ◌&&◌, ◌||◌, nat_le, nat_lt, nat_eq, if◌then◌else◌, ℕ, List, [], ◌∷◌, map, refl, ap, sym, ◌∙◌, arith, Option, Some, Ordering, Less, Equal, Greater, nat_cmp, is_lt, ordering_then, eq_by_cmp, slice_cmp, list_any, bytes_eq, and_parts, nat_tests, bytes_eq-Decides, Id, id_cmp, Ids, IsBefore, IsLeast, Span}
use Rattle.std.proofs.Common.{T}
use Rattle.std.specs.Cmp.{ranked}
use Rattle.std.specs.FinSet as set
use Rattle.std.specs.FinMap.Entries.{put, find, is_sorted, is_sorted-put, find-put, is_some-find}
use Rattle.std.specs.Option.{is_some}
use Rattle.gtid.specs.Identifier.{is_one}
use Rattle.gtid.specs.Span.{is_in, HasLeastList}
use Rattle.gtid.proofs.Disjunctions.{distribute}
use Rattle.gtid.proofs.LeastList.{Leads, least_cons}
use Rattle.gtid.proofs.OneLeastList.{Below, IsEarly, some_first, tail_least}
use Rattle.gtid.proofs.Sets.{id_cmp_total, tied}

-- a GTID as a span
abbrev alone : Id → Span
alone q = record { source = q.0; lo = q.1; hi = q.1 + 1 }

-- a span that begins at a GTID
abbrev extended : Id → Span → Span
extended q s = record { source = s.source; lo = q.1; hi = s.hi }

-- whether the GTID is just before the span
abbrev touches : Id → Span → Bool
touches q s = bytes_eq q.0 s.source && nat_eq (q.1 + 1) s.lo

-- spans with one more GTID in front
abbrev join_span : Id → List Span → List Span
join_span q [] = alone q ∷ []
join_span q (s ∷ spans) = if touches q s then extended q s ∷ spans else alone q ∷ s ∷ spans

-- the GTIDs of a set, in order
abbrev Listing : Type 0
Listing = List (Id × Unit {0})

abbrev cover : Listing → List Span
cover [] = []
cover (e ∷ es) = join_span e.0 (cover es)

-- ---- One more GTID.

extended_leads : (q : Id) (s : Span) (spans : List Span) → IsLeast (s ∷ spans) → Leads (extended q s) spans
extended_leads q s [] least = tt
extended_leads q s (t ∷ spans) least = least.1

gap : (q : Id) (s : Span) → touches q s ≡ false → q.0 ≡ s.source → q.1 < s.lo → q.1 + 1 < s.lo
gap q s apart same less =
    let number : nat_eq (q.1 + 1) s.lo ≡ false = ap (λ b. b && nat_eq (q.1 + 1) s.lo) (sym ((bytes_eq-Decides q.0 s.source).1 same)) ∙ apart in
    grind (arith, nat_tests, number)

alone_leads : (q : Id) (s : Span) → touches q s ≡ false → Below q s → IsBefore (alone q) s
alone_leads q s apart (inl less) = inl less
alone_leads q s apart (inr (same, less)) = inr (same, gap q s apart same less)

touching : (q : Id) (s : Span) → touches q s ≡ true → (q.0 ≡ s.source) × (q.1 + 1 ≡ s.lo)
touching q s e =
    let both = and_parts (bytes_eq q.0 s.source) (nat_eq (q.1 + 1) s.lo) e in
    ((bytes_eq-Decides q.0 s.source).0 both.0, grind (arith, nat_tests, both.1))

joined_least : (q : Id) (spans : List Span) → IsLeast spans → IsEarly q spans → IsLeast (join_span q spans)
joined_least q [] least early = omega arith
joined_least q (s ∷ spans) least early = by (touches q s) refl
  where
    by : (b : Bool) → touches q s ≡ b → IsLeast (if b then extended q s ∷ spans else alone q ∷ s ∷ spans)
    by true e =
        let t = touching q s e in
        least_cons (extended q s) spans (omega (arith, t.1, some_first s spans least)) (extended_leads q s spans least) (tail_least s spans least)
    by false e = (omega arith, alone_leads q s e early, least)

-- what is in it

pub one_number : (n m : ℕ) → (nat_le m n && nat_lt n (m + 1)) ≡ nat_eq n m
one_number n m = grind (arith, nat_tests)

in_alone : (x q : Id) → is_in x (alone q) ≡ is_one x q
in_alone x q = ap (λ b. bytes_eq x.0 q.0 && b) (one_number x.1 q.1)

one_number_more : (n m lo hi : ℕ) → m + 1 ≡ lo → lo < hi → (nat_le m n && nat_lt n hi) ≡ (nat_eq n m || (nat_le lo n && nat_lt n hi))
one_number_more n m lo hi next some = grind (arith, nat_tests)

joined_has : (x q : Id) (spans : List Span) → IsLeast spans → list_any (is_in x) (join_span q spans) ≡ (is_one x q || list_any (is_in x) spans)
joined_has x q [] least = ap (λ b. b || false) (in_alone x q)
joined_has x q (s ∷ spans) least = by (touches q s) refl
  where
    rest : Bool
    rest = list_any (is_in x) spans

    by : (b : Bool) → touches q s ≡ b → list_any (is_in x) (if b then extended q s ∷ spans else alone q ∷ s ∷ spans) ≡ (is_one x q || list_any (is_in x) (s ∷ spans))
    by true e =
        let t = touching q s e in
        ap (λ b. (bytes_eq x.0 s.source && b) || rest) (one_number_more x.1 q.1 s.lo s.hi t.1 (some_first s spans least))
        ∙ distribute (bytes_eq x.0 s.source) (nat_eq x.1 q.1) (nat_le s.lo x.1 && nat_lt x.1 s.hi) rest
        ∙ ap (λ source. (bytes_eq x.0 source && nat_eq x.1 q.1) || list_any (is_in x) (s ∷ spans)) (sym t.0)
    by false e = ap (λ b. b || list_any (is_in x) (s ∷ spans)) (in_alone x q)

-- ---- All of them.

less_cases : (a b : Ordering) → is_lt (ordering_then a b) ≡ true → (a ≡ Less) ⊎ ((a ≡ Equal) × (b ≡ Less))
less_cases Less b e = inl refl
less_cases Greater b e = absurd (Prim.cc)
less_cases Equal Less e = inr (refl, refl)
less_cases Equal Equal e = absurd (Prim.cc)
less_cases Equal Greater e = absurd (Prim.cc)

-- the GTID, and what is below it
joined_early : (p q : Id) (spans : List Span) → (slice_cmp nat_cmp p.0 q.0 ≡ Less) ⊎ ((p.0 ≡ q.0) × (p.1 < q.1)) → IsEarly p (join_span q spans)
joined_early p q [] less = less
joined_early p q (s ∷ spans) less = by (touches q s) refl less
  where
    by : (b : Bool) → touches q s ≡ b → (slice_cmp nat_cmp p.0 q.0 ≡ Less) ⊎ ((p.0 ≡ q.0) × (p.1 < q.1)) → IsEarly p (if b then extended q s ∷ spans else alone q ∷ s ∷ spans)
    by true e (inl less) = inl (ap (λ t. slice_cmp nat_cmp p.0 t) (sym (touching q s e).0) ∙ less)
    by true e (inr (same, less)) = inr (same ∙ (touching q s e).0, less)
    by false e less = less

below_id : (p q : Id) → is_lt (id_cmp p q) ≡ true → (slice_cmp nat_cmp p.0 q.0 ≡ Less) ⊎ ((p.0 ≡ q.0) × (p.1 < q.1))
below_id p q e = elim (less_cases (slice_cmp nat_cmp p.0 q.0) (nat_cmp p.1 q.1) e) [
  | inl less ↦ inl less
  | inr (same, less) ↦ inr (set.slice_cmp-IsAntisymmetric set.nat_cmp-IsAntisymmetric p.0 q.0 same, ranked p.1 q.1 Less (sym less))
]

second_holds : (a b : Bool) → T (a && b) → T b
second_holds true b h = h
second_holds false b h = absurd h

first_holds : (a b c : Bool) → T ((a && b) && c) → a ≡ true
first_holds true b c h = refl
first_holds false b c h = absurd h

-- in an ordered listing, the GTIDs after the first are in order too, and the first is below them
tail_sorted : (e : Id × Unit {0}) (es : Listing) → T (is_sorted id_cmp (e ∷ es)) → T (is_sorted id_cmp es)
tail_sorted e es h = second_holds _ _ h

first_early : (e : Id × Unit {0}) (es : Listing) → T (is_sorted id_cmp (e ∷ es)) → IsEarly e.0 (cover es)
first_early e [] h = tt
first_early e (f ∷ es) h = joined_early e.0 f.0 (cover es) (below_id e.0 f.0 (first_holds _ _ _ h))

cover_least : (es : Listing) → T (is_sorted id_cmp es) → IsLeast (cover es)
cover_least [] h = tt
cover_least (e ∷ es) h = joined_least e.0 (cover es) (cover_least es (tail_sorted e es h)) (first_early e es h)

cover_has : (x : Id) (es : Listing) → T (is_sorted id_cmp es) → list_any (eq_by_cmp id_cmp x) (map (λ e. e.0) es) ≡ list_any (is_in x) (cover es)
cover_has x [] h = refl
cover_has x (e ∷ es) h =
    let t = tail_sorted e es h in
    (λ i. tied x e.0 i || cover_has x es t i) ∙ sym (joined_has x e.0 (cover es) (cover_least es t))

-- ---- The GTIDs of a set.

abbrev in_order : List Id → Listing
in_order [] = []
in_order (q ∷ qs) = put id_cmp q tt (in_order qs)

in_order_sorted : (qs : List Id) → T (is_sorted id_cmp (in_order qs))
in_order_sorted [] = tt
in_order_sorted (q ∷ qs) = is_sorted-put id_cmp id_cmp_total q tt (in_order qs) (in_order_sorted qs)

some_or : (b : Bool) (o : Option (Unit {0})) → is_some (if b then Some tt else o) ≡ (b || is_some o)
some_or true o = refl
some_or false o = refl

in_order_has : (x : Id) (qs : List Id) → list_any (eq_by_cmp id_cmp x) qs ≡ is_some (find id_cmp x (in_order qs))
in_order_has x [] = refl
in_order_has x (q ∷ qs) =
    ap (λ b. eq_by_cmp id_cmp x q || b) (in_order_has x qs)
    ∙ sym (some_or (eq_by_cmp id_cmp x q) (find id_cmp x (in_order qs)))
    ∙ sym (ap is_some (find-put id_cmp id_cmp_total x q tt (in_order qs)))

pub some_least_list : (ids : Ids) → HasLeastList ids
some_least_list ids =
    let es = in_order (set.items ids) in
    let h = in_order_sorted (set.items ids) in
    record {
      spans = cover es;
      is_least = record {
        least = cover_least es h;
        covers = λ x. set.contains-items ids x ∙ in_order_has x (set.items ids) ∙ is_some-find id_cmp x es ∙ cover_has x es h;
      };
    }
