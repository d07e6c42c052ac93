-- Numbers among intervals that ascend.
use Rattle.gtid.proofs.Names.{◌≡◌, ℕ, Bool, true, false, ◌+◌, ◌≤◌, ◌<◌, ◌^◌, ◌||◌, List, [], ◌∷◌, ◌++◌, length, get_or, take, set, refl, ap, sym, subst, ◌∙◌, arith, add-one, Option, Some, None, nat_eq, ◌-◌, ltb, zero, suc, inl, inr, or-false, nat_tests, leb-false, drop-cons, take-append-drop, take_all, get_or_default, AllWithin, is_within, has, AreLeast, Interval}
use Rattle.std.proofs.Common.{drop, min, MatchOption, Bor, leb}
use Rattle.std.proofs.Math.ListN.{drop_of_length-le}
use Rattle.std.proofs.lemmas.Bool.Decides.{leb_tells}
use Rattle.std.proofs.lemmas.Bool.{ltb-true, ltb-false}
use Rattle.std.proofs.lemmas.List.Folds.{list_any_at}
use Rattle.std.proofs.Math.Nat.{eq-or-lt_of_le}
use Rattle.std.proofs.lemmas.List.{set_split}
use Rattle.std.specs.List.Sorted.{IsNonDecreasingBy, IsPartitionPoint}
use Rattle.std.specs.Option.{option_copied}
use Rattle.std.specs.List.{HoldsAt, insert, remove}
use Rattle.gtid.specs.Interval.{GoesAt, IsNear, HasNear}
use Rattle.gtid.proofs.Disjunctions.{or_swap}
use Rattle.gtid.proofs.IntervalUnion.{has-append, last_end}

least-after : (end : ℕ) (xs ys : List Interval) → AreLeast end (xs ++ ys) → AreLeast (last_end end xs) ys
least-after end [] ys least = least
least-after end (x ∷ xs) ys (gap, some, small, least) = least-after x.hi xs ys least

least-with : (end : ℕ) (xs ys zs : List Interval) → AreLeast end (xs ++ ys) → AreLeast (last_end end xs) zs → AreLeast end (xs ++ zs)
least-with end [] ys zs least new = new
least-with end (x ∷ xs) ys zs (gap, some, small, least) new = (gap, some, small, least-with x.hi xs ys zs least new)

pub is_below : (n : ℕ) (i : Interval) → n < i.lo → is_within n i ≡ false
is_below n i h = grind (arith, nat_tests)

pub is_above : (n : ℕ) (i : Interval) → i.hi ≤ n → is_within n i ≡ false
is_above n i h = grind (arith, nat_tests)

pub is_in : (n : ℕ) (i : Interval) → i.lo ≤ n → n < i.hi → is_within n i ≡ true
is_in n i h k = grind (arith, nat_tests)

pub none : {a b : Bool} → a ≡ false → b ≡ false → (a || b) ≡ false
none p q = cc (p, q)

-- no number up to the end of what comes before
pub below_least : (end : ℕ) (intervals : List Interval) (n : ℕ) → AreLeast end intervals → n ≤ end → has intervals n ≡ false
below_least end [] n least le = refl
below_least end (i ∷ intervals) n (gap, some, small, least) le = rw (is_below n i (omega arith)) (below_least i.hi intervals n least (omega arith))

-- nor one where the intervals in front end
above_front : (intervals : List Interval) (at n : ℕ) → at ≤ length intervals → AllWithin (λ i. i.hi ≤ n) intervals 0 at → has (take at intervals) n ≡ false
above_front [] zero n le front = refl
above_front [] (suc at) n le front = refl
above_front (i ∷ intervals) zero n le front = refl
above_front (i ∷ intervals) (suc at) n le front =
    rw (is_above n i (front 0 i (omega arith) (omega arith))) (above_front intervals at n (omega arith) (λ k d low high. front (suc k) d (omega arith) (omega arith)))

end_front : (end : ℕ) (intervals : List Interval) (at n : ℕ) → at ≤ length intervals → end < n → AllWithin (λ i. i.hi < n) intervals 0 at → last_end end (take at intervals) < n
end_front end [] zero n le below front = below
end_front end [] (suc at) n le below front = below
end_front end (i ∷ intervals) zero n le below front = below
end_front end (i ∷ intervals) (suc at) n le below front =
    end_front i.hi intervals at n (omega arith) (front 0 i (omega arith) (omega arith)) (λ k d low high. front (suc k) d (omega arith) (omega arith))

pub each : (end : ℕ) (intervals : List Interval) (k : ℕ) (d : Interval) → AreLeast end intervals → k < length intervals →
    (end < (get_or intervals k d).lo) × ((get_or intervals k d).lo < (get_or intervals k d).hi) × ((get_or intervals k d).hi < 2 ^ 63)
each end [] k d least h = absurd (omega arith)
each end (i ∷ intervals) zero d (gap, some, small, least) h = (gap, some, small)
each end (i ∷ intervals) (suc k) d (gap, some, small, least) h = let e = each i.hi intervals k d least (omega arith) in (omega arith, e.1, e.2)

pub apart : (end : ℕ) (intervals : List Interval) (j k : ℕ) (d : Interval) → AreLeast end intervals → j < k → k < length intervals →
    (get_or intervals j d).hi < (get_or intervals k d).lo
apart end [] j k d least less h = absurd (omega arith)
apart end (i ∷ intervals) j zero d least less h = absurd (omega arith)
apart end (i ∷ intervals) zero (suc k) d (gap, some, small, least) less h = (each i.hi intervals k d least (omega arith)).0
apart end (i ∷ intervals) (suc j) (suc k) d (gap, some, small, least) less h = apart i.hi intervals j k d least (omega arith) (omega arith)

pub ends_ascend : (intervals : List Interval) → AreLeast 0 intervals → IsNonDecreasingBy (λ i. i.hi) intervals
ends_ascend intervals least j k d le h = elim (eq-or-lt_of_le le) [
  | inl same ↦ omega (arith, ap (λ m. (get_or intervals m d).hi) same)
  | inr less ↦ let a = apart 0 intervals j k d least less h in let e = each 0 intervals k d least h in omega arith
]

-- the intervals, split at one of them
pub split_at : (intervals : List Interval) (at : ℕ) (x : Interval) → at < length intervals → x ≡ get_or intervals at x → intervals ≡ take at intervals ++ x ∷ drop (suc at) intervals
split_at intervals at x within is = sym (take-append-drop at intervals) ∙ ap (λ rest. take at intervals ++ rest) (drop-cons intervals at x within ∙ ap (λ y. y ∷ drop (suc at) intervals) (sym is))

within_until : (n : ℕ) (i : Interval) → n < i.hi → is_within n i ≡ leb i.lo n
within_until n i h = grind (arith, nat_tests)

pub has_at : (intervals : List Interval) (at n : ℕ) (x : Interval) → AreLeast 0 intervals → AllWithin (λ i. i.hi ≤ n) intervals 0 at → at < length intervals →
    x ≡ get_or intervals at x → n < x.hi → leb x.lo n ≡ has intervals n
has_at intervals at n x least front within is before =
    let rest = drop (suc at) intervals in
    let split = split_at intervals at x within is in
    let after : AreLeast x.hi rest = (least-after 0 (take at intervals) (x ∷ rest) (subst (AreLeast 0) split least)).3 in
    sym (ap (λ l. has l n) split ∙ has-append (take at intervals) (x ∷ rest) n ∙ rw (above_front intervals at n (omega arith) front, below_least x.hi rest n after (omega arith), or-false, within_until n x before))

-- a number at which an interval's hi is
pub ends_at : (intervals : List Interval) (at n : ℕ) (x : Interval) → AreLeast 0 intervals → AllWithin (λ i. i.hi ≤ n) intervals 0 at → at < length intervals →
    x ≡ get_or intervals at x → x.hi ≡ n → has intervals n ≡ false
ends_at intervals at n x least front within is ends =
    let rest = drop (suc at) intervals in
    let split = split_at intervals at x within is in
    let after : AreLeast x.hi rest = (least-after 0 (take at intervals) (x ∷ rest) (subst (AreLeast 0) split least)).3 in
    ap (λ l. has l n) split ∙ has-append (take at intervals) (x ∷ rest) n ∙ none (above_front intervals at n (omega arith) front) (none (is_above n x (omega arith)) (below_least x.hi rest n after (omega arith)))

pub is_after : (n m : ℕ) → m < n → leb n m ≡ false
is_after n m h = grind (arith, nat_tests)

pub has_nowhere : (intervals : List Interval) (n : ℕ) → AllWithin (λ i. i.hi ≤ n) intervals 0 (length intervals) → false ≡ has intervals n
has_nowhere intervals n front = sym (above_front intervals (length intervals) n (omega arith) front) ∙ ap (λ l. has l n) (take_all (length intervals) intervals (omega arith))

pub point_at : (intervals : List Interval) (at n : ℕ) → IsPartitionPoint (λ i. ltb i.hi n ≡ true) (λ i. ltb i.hi n ≡ false) intervals at →
    AllWithin (λ i. i.hi < n) intervals 0 at × AllWithin (λ i. n ≤ i.hi) intervals at (length intervals)
point_at intervals at n point = (λ k d low high. ltb-true _ _ (point.0 k d low high), λ k d low high. ltb-false _ _ (point.1 k d low high))

-- the intervals, with a number that is new
pub record Added (number : ℕ) (old new : List Interval) : Type 0 where
  pub least : AreLeast 0 new
  pub fresh : has old number ≡ false
  pub adds : (n : ℕ) → has new n ≡ (nat_eq n number || has old n)

or-assoc : (a b c : Bool) → ((a || b) || c) ≡ (a || (b || c))
or-assoc true b c = refl
or-assoc false b c = refl

added-by : (number : ℕ) (old new xs ys zs : List Interval) → old ≡ xs ++ ys → new ≡ xs ++ zs → AreLeast 0 old → has xs number ≡ false → AreLeast (last_end 0 xs) zs → has ys number ≡ false →
    ((n : ℕ) → has zs n ≡ (nat_eq n number || has ys n)) → Added number old new
added-by number old new xs ys zs old_is new_is least front now fresh adds = record {
  least = subst (AreLeast 0) (sym new_is) (least-with 0 xs ys zs (subst (AreLeast 0) old_is least) now);
  fresh = ap (λ l. has l number) old_is ∙ has-append xs ys number ∙ none front fresh;
  adds = λ n.
      ap (λ l. has l n) new_is
      ∙ has-append xs zs n
      ∙ ap (λ b. has xs n || b) (adds n)
      ∙ or_swap (has xs n) (nat_eq n number) (has ys n)
      ∙ ap (λ b. nat_eq n number || b) (sym (has-append xs ys n) ∙ ap (λ l. has l n) (sym old_is));
}

-- an interval of one number
only_one : (n number : ℕ) → is_within n (record { lo = number; hi = number + 1 }) ≡ nat_eq n number
only_one n number = grind (arith, nat_tests)

-- one number more in front, and one more at the end
one_before : (n number : ℕ) (x : Interval) → x.lo ≡ number + 1 → number < x.hi → is_within n (record { lo = number; hi = x.hi }) ≡ (nat_eq n number || is_within n x)
one_before n number x touch some = grind (arith, nat_tests)

one_after : (n number : ℕ) (x : Interval) → x.hi ≡ number → x.lo ≤ number → is_within n (record { lo = x.lo; hi = number + 1 }) ≡ (nat_eq n number || is_within n x)
one_after n number x touch some = grind (arith, nat_tests)

one_between : (n number : ℕ) (x y : Interval) → x.hi ≡ number → x.lo ≤ number → y.lo ≡ number + 1 → number < y.hi →
    is_within n (record { lo = x.lo; hi = y.hi }) ≡ (nat_eq n number || (is_within n x || is_within n y))
one_between n number x y touch some next more = grind (arith, nat_tests)

-- what begins after a gap
after_gap : (end gap : ℕ) (intervals : List Interval) (at : ℕ) → at ≤ length intervals → AreLeast end intervals → ((d : Interval) → at < length intervals → gap < (get_or intervals at d).lo) → AreLeast gap (drop at intervals)
after_gap end gap [] zero le least later = least
after_gap end gap [] (suc at) le least later = absurd (omega arith)
after_gap end gap (i ∷ intervals) zero le (a, some, small, least) later = (later i (omega arith), some, small, least)
after_gap end gap (i ∷ intervals) (suc at) le (a, some, small, least) later = after_gap i.hi gap intervals at (omega arith) least (λ d h. later d (omega arith))

pub weaker : (intervals : List Interval) (at n : ℕ) → AllWithin (λ i. i.hi < n) intervals 0 at → AllWithin (λ i. i.hi ≤ n) intervals 0 at
weaker intervals at n front k d low high = let f = front k d low high in omega arith

pub added_alone : (intervals new : List Interval) (at number : ℕ) → AreLeast 0 intervals → at ≤ length intervals → 1 ≤ number → number ≤ 2 ^ 63 - 2 → AllWithin (λ i. i.hi < number) intervals 0 at →
    ((d : Interval) → at < length intervals → number + 1 < (get_or intervals at d).lo) → new ≡ insert intervals at (record { lo = number; hi = number + 1 }) → Added number intervals new
added_alone intervals new at number least within low high front gap is =
    let rest : AreLeast (number + 1) (drop at intervals) = after_gap 0 (number + 1) intervals at within least gap in
    let alone : Interval = record { lo = number; hi = number + 1 } in
    added-by number intervals new (take at intervals) (drop at intervals) (alone ∷ drop at intervals) (sym (take-append-drop at intervals)) is least
    (above_front intervals at number within (weaker intervals at number front))
    (end_front 0 intervals at number within (omega arith) front, omega arith, omega arith, rest)
    (below_least (number + 1) (drop at intervals) number rest (omega arith))
    (λ n. ap (λ b. b || has (drop at intervals) n) (only_one n number))

-- the neighbours of a number that is apart from the intervals
pub near_alone : (intervals : List Interval) (at near number : ℕ) → AreLeast 0 intervals → at ≤ length intervals → AllWithin (λ i. i.hi < number) intervals 0 at →
    ((d : Interval) → at < length intervals → number + 1 < (get_or intervals at d).lo) → IsNear near number → has intervals near ≡ false
near_alone intervals at near number least within front gap beside =
    let rest : AreLeast (number + 1) (drop at intervals) = after_gap 0 (number + 1) intervals at within least gap in
    ap (λ l. has l near) (sym (take-append-drop at intervals))
    ∙ has-append (take at intervals) (drop at intervals) near
    ∙ none (above_front intervals at near within (λ k d low high. above near number _ (front k d low high) beside)) (below_least (number + 1) (drop at intervals) near rest (below near number beside))
  where
    above : (near number hi : ℕ) → hi < number → IsNear near number → hi ≤ near
    above near number hi less (inl e) = omega (arith, less, e)
    above near number hi less (inr e) = omega (arith, less, e)

    below : (near number : ℕ) → IsNear near number → near ≤ number + 1
    below near number (inl e) = omega (arith, e)
    below near number (inr e) = omega (arith, e)

pub near_last : (intervals : List Interval) (near number : ℕ) → AreLeast 0 intervals → AllWithin (λ i. i.hi < number) intervals 0 (length intervals) → IsNear near number → has intervals near ≡ false
near_last intervals near number least before beside = near_alone intervals (length intervals) near number least (omega arith) before (λ d h. absurd (omega (arith, h))) beside

pub added_before : (intervals : List Interval) (at number : ℕ) (x : Interval) → AreLeast 0 intervals → at < length intervals → 1 ≤ number → AllWithin (λ i. i.hi < number) intervals 0 at →
    x ≡ get_or intervals at x → x.lo ≡ number + 1 → Added number intervals (set intervals at (record { lo = number; hi = x.hi }))
added_before intervals at number x least within low front is touch =
    let rest = drop (suc at) intervals in
    let split = split_at intervals at x within is in
    let now = least-after 0 (take at intervals) (x ∷ rest) (subst (AreLeast 0) split least) in
    added-by number intervals _ (take at intervals) (x ∷ rest) (record { lo = number; hi = x.hi } ∷ rest) split (set_split intervals at _ within) least
    (above_front intervals at number (omega arith) (weaker intervals at number front))
    (end_front 0 intervals at number (omega arith) (omega arith) front, omega (arith, now), now.2, now.3)
    (none (is_below number x (omega arith)) (below_least x.hi rest number now.3 (omega (arith, now))))
    (λ n. ap (λ b. b || has rest n) (one_before n number x touch (omega (arith, now))) ∙ or-assoc (nat_eq n number) (is_within n x) (has rest n))

-- what `get` gives of a place, copied
pub got : {list intervals : List Interval} {at : ℕ} {next : Interval} (o : Option (Bor Interval)) → list ≡ intervals → MatchOption o (length list ≤ at) (λ x. (at < length list) × HoldsAt (λ y. x.now ≡ y) list at) →
    Some next ≡ option_copied o → (at < length intervals) × ((d : Interval) → next ≡ get_or intervals at d)
got None same look is = absurd (cc is)
got {list} {intervals} {at} {next} (Some x) same look is = (subst (λ l. at < length l) same look.0, λ d. let here = look.1 d in cc (here, is, ap (λ l. get_or l at d) same))

pub got_none : {list intervals : List Interval} {at : ℕ} (o : Option (Bor Interval)) → list ≡ intervals → MatchOption o (length list ≤ at) (λ x. (at < length list) × HoldsAt (λ y. x.now ≡ y) list at) →
    None ≡ option_copied o → length intervals ≤ at
got_none {at = at} None same look is = subst (λ l. length l ≤ at) same look
got_none (Some x) same look is = absurd (cc is)

ends_before : (intervals : List Interval) (at number : ℕ) (x : Interval) → AreLeast 0 intervals → at < length intervals → x ≡ get_or intervals at x → x.hi ≡ number → AllWithin (λ i. i.hi ≤ number) intervals 0 at
ends_before intervals at number x least within is touch k d low high =
    let e = ends_ascend intervals least k at x (omega arith) within in
    omega (arith, e, ap (λ i. i.hi) is, ap (λ i. i.hi) (get_or_default intervals k d x (omega arith)))

pub added_after : (intervals : List Interval) (at number : ℕ) (x : Interval) → AreLeast 0 intervals → at < length intervals → number ≤ 2 ^ 63 - 2 → x ≡ get_or intervals at x → x.hi ≡ number →
    ((d : Interval) → at + 1 < length intervals → number + 1 < (get_or intervals (at + 1) d).lo) → Added number intervals (set intervals at (record { lo = x.lo; hi = number + 1 }))
added_after intervals at number x least within high is touch gap =
    let rest = drop (suc at) intervals in
    let split = split_at intervals at x within is in
    let now = least-after 0 (take at intervals) (x ∷ rest) (subst (AreLeast 0) split least) in
    let far : AreLeast (number + 1) rest = after_gap 0 (number + 1) intervals (suc at) (omega arith) least (λ d h. rw (add-one at) at (gap d (omega arith))) in
    added-by number intervals _ (take at intervals) (x ∷ rest) (record { lo = x.lo; hi = number + 1 } ∷ rest) split (set_split intervals at _ within) least
    (above_front intervals at number (omega arith) (ends_before intervals at number x least within is touch))
    (now.0, omega (arith, now), omega arith, far)
    (none (is_above number x (omega arith)) (below_least x.hi rest number now.3 (omega (arith, now))))
    (λ n. ap (λ b. b || has rest n) (one_after n number x touch (omega (arith, now))) ∙ or-assoc (nat_eq n number) (is_within n x) (has rest n))

pub set_remove : (intervals : List Interval) (at : ℕ) (v : Interval) → suc at < length intervals → set (remove intervals (suc at)) at v ≡ take at intervals ++ v ∷ drop (suc (suc at)) intervals
set_remove [] at v h = absurd (omega arith)
set_remove (i ∷ intervals) zero v h = refl
set_remove (i ∷ intervals) (suc at) v h = ap (λ l. i ∷ l) (set_remove intervals at v (omega arith))

pub between-by : (intervals : List Interval) (at number : ℕ) (x y : Interval) → AreLeast 0 intervals → suc at < length intervals → x ≡ get_or intervals at x → y ≡ get_or intervals (suc at) y →
    x.hi ≡ number → y.lo ≡ number + 1 → Added number intervals (set (remove intervals (suc at)) at (record { lo = x.lo; hi = y.hi }))
between-by intervals at number x y least within is next touch touch_next =
    let rest = drop (suc (suc at)) intervals in
    let here : at < length intervals = omega arith in
    let split : intervals ≡ take at intervals ++ x ∷ y ∷ rest = split_at intervals at x here is ∙ ap (λ l. take at intervals ++ x ∷ l) (drop-cons intervals (suc at) y within ∙ ap (λ z. z ∷ rest) (sym next)) in
    let now = least-after 0 (take at intervals) (x ∷ y ∷ rest) (subst (AreLeast 0) split least) in
    added-by number intervals _ (take at intervals) (x ∷ y ∷ rest) (record { lo = x.lo; hi = y.hi } ∷ rest) split (set_remove intervals at _ within) least
    (above_front intervals at number (omega arith) (ends_before intervals at number x least here is touch))
    (now.0, omega (arith, now), now.3.2, now.3.3)
    (none (is_above number x (omega arith)) (none (is_below number y (omega arith)) (below_least y.hi rest number now.3.3 (omega (arith, now)))))
    (λ n.
    ap (λ b. b || has rest n) (one_between n number x y touch (omega (arith, now)) touch_next (omega (arith, now)))
    ∙ or-assoc (nat_eq n number) (is_within n x || is_within n y) (has rest n)
    ∙ ap (λ b. nat_eq n number || b) (or-assoc (is_within n x) (is_within n y) (has rest n)))

pub added_between : (intervals : List Interval) (at number : ℕ) (x y : Interval) → AreLeast 0 intervals → at + 1 < length intervals → x ≡ get_or intervals at x → y ≡ get_or intervals (at + 1) y →
    x.hi ≡ number → y.lo ≡ number + 1 → Added number intervals (set (remove intervals (at + 1)) at (record { lo = x.lo; hi = y.hi }))
added_between intervals at number x y least within is next touch touch_next =
    subst (λ m. Added number intervals (set (remove intervals m) at (record { lo = x.lo; hi = y.hi }))) (sym (add-one at)) (between-by intervals at number x y least (omega arith) is (rw (add-one at) at next) touch touch_next)

-- no number between the intervals in front and those after them
nowhere : (intervals : List Interval) (at n : ℕ) → AreLeast 0 intervals → at ≤ length intervals → AllWithin (λ i. i.hi ≤ n) intervals 0 at → ((d : Interval) → at < length intervals → n < (get_or intervals at d).lo) → has intervals n ≡ false
nowhere intervals at n least within front gap =
    ap (λ l. has l n) (sym (take-append-drop at intervals))
    ∙ has-append (take at intervals) (drop at intervals) n
    ∙ none (above_front intervals at n within front) (below_least n (drop at intervals) n (after_gap 0 n intervals at within least gap) (omega arith))

-- an interval against the first of the others that ends no earlier
pub holds_all : (of : List Interval) (at : ℕ) (x other : Interval) → at < length of → other ≡ get_or of at other → x.hi ≤ other.hi → leb other.lo x.lo ≡ true →
    (n : ℕ) → is_within n x ≡ true → has of n ≡ true
holds_all of at x other within is ends begins n inside =
    let there : is_within n other ≡ true = grind (arith, nat_tests) in
    list_any_at (is_within n) of at other within (subst (λ i. is_within n i ≡ true) is there)

pub begins_first : (of : List Interval) (at : ℕ) (x other : Interval) → AreLeast 0 of → AllWithin (λ i. i.hi < x.hi) of 0 at → at < length of → other ≡ get_or of at other → x.lo < x.hi →
    ((n : ℕ) → is_within n x ≡ true → has of n ≡ true) → leb other.lo x.lo ≡ true
begins_first of at x other least front within is some all = elim (leb_tells other.lo x.lo) [
  | inl first ↦ first.0
  | inr later ↦ (
      let n = min other.lo x.hi - 1 in
      let no = nowhere of at n least (omega arith)
      (λ k d low high. let f = front k d low high in let gap = apart 0 of k at d least high within in omega (arith, ap (λ i. i.lo) (is ∙ get_or_default of at other d within)))
      (λ d h. omega (arith, ap (λ i. i.lo) (is ∙ get_or_default of at other d within))) in
      let yes = all n (is_in n x (omega arith) (omega arith)) in
      cc (no, yes))
]

pub ends_later : (of : List Interval) (at : ℕ) (x : Interval) → AreLeast 0 of → AllWithin (λ i. i.hi < x.hi) of 0 at → length of ≤ at → x.lo < x.hi →
    ((n : ℕ) → is_within n x ≡ true → has of n ≡ true) → ⊥
ends_later of at x least front past some all =
    let no = has_nowhere of (x.hi - 1) (λ k d low high. let f = front k d low (omega arith) in omega arith) in
    let yes = all (x.hi - 1) (is_in (x.hi - 1) x (omega arith) (omega arith)) in
    cc (no, yes)

-- an insert at the end
insert_end : (intervals : List Interval) (at : ℕ) (i : Interval) → length intervals ≤ at → intervals ++ i ∷ [] ≡ insert intervals at i
insert_end intervals at i end = λ k. sym (take_all at intervals end) k ++ i ∷ sym (drop_of_length-le intervals end) k

-- after all the others
pub added_last : (intervals new : List Interval) (number : ℕ) → AreLeast 0 intervals → 1 ≤ number → number ≤ 2 ^ 63 - 2 → AllWithin (λ i. i.hi < number) intervals 0 (length intervals) →
    new ≡ intervals ++ record { lo = number; hi = number + 1 } ∷ [] → Added number intervals new
added_last intervals new number least low high before is =
    added_alone intervals new (length intervals) number least (omega arith) low high before (λ d h. absurd (omega (arith, h)))
    (is ∙ insert_end intervals (length intervals) (record { lo = number; hi = number + 1 }) (omega arith))

-- where a number goes that touches no interval, what comes after it begins later
pub goes_before : (intervals : List Interval) (at n : ℕ) (x : Interval) → AreLeast 0 intervals → GoesAt intervals n at → at < length intervals → x ≡ get_or intervals at x → (x.hi ≡ n → ⊥) → (x.lo ≡ n + 1 → ⊥) →
    (d : Interval) → at < length intervals → n + 1 < (get_or intervals at d).lo
goes_before intervals at n x least goes within is not_below not_above d _ =
    let before : n < x.hi = omega (arith, goes.after x within, ap (λ i. i.hi) is, not_below) in
    let later = leb-false x.lo n (has_at intervals at n x least (weaker intervals at n goes.before) within is before ∙ goes.new) in
    omega (arith, later, not_above, ap (λ i. i.lo) (is ∙ get_or_default intervals at x d within))

-- the numbers beside one at which an interval ends, or before which it begins
pub near_below : (intervals : List Interval) (at number : ℕ) (x : Interval) → AreLeast 0 intervals → at < length intervals → x ≡ get_or intervals at x → x.hi ≡ number → HasNear number intervals
near_below intervals at number x least within is touch =
    let e = each 0 intervals at x least within in
    let some : x.lo < x.hi = omega (arith, e, ap (λ i. i.lo) is, ap (λ i. i.hi) is) in
    let inside : is_within (number - 1) x ≡ true = is_in (number - 1) x (omega arith) (omega arith) in
    record { near = number - 1; beside = inl (omega arith); there = list_any_at (is_within (number - 1)) intervals at x within (subst (λ i. is_within (number - 1) i ≡ true) is inside) }

pub near_above : (intervals : List Interval) (at number : ℕ) (x : Interval) → AreLeast 0 intervals → at < length intervals → x ≡ get_or intervals at x → x.lo ≡ number + 1 → HasNear number intervals
near_above intervals at number x least within is touch =
    let e = each 0 intervals at x least within in
    let some : x.lo < x.hi = omega (arith, e, ap (λ i. i.lo) is, ap (λ i. i.hi) is) in
    let inside : is_within (number + 1) x ≡ true = is_in (number + 1) x (omega arith) (omega arith) in
    record { near = number + 1; beside = inr refl; there = list_any_at (is_within (number + 1)) intervals at x within (subst (λ i. is_within (number + 1) i ≡ true) is inside) }
