-- The intervals that a number touches.
use Rattle.gtid.proofs.Names.{◌≡◌, ◌≢◌, ℕ, suc, false, ◌+◌, ◌-◌, ◌≤◌, ◌<◌, ◌^◌, List, ◌∷◌, ◌++◌, length, get_or, take, sym, ap, subst, refl, ◌∙◌, arith, add-one, Option, Some, None, IfSome, drop-cons, leb-false, take-append-drop, get_or_default, AllWithin, has, AreLeast, Interval}
use Rattle.std.proofs.Common.{drop, IfNone}
use Rattle.std.proofs.lemmas.List.{set_split}
use Rattle.gtid.specs.Beside.{one_or_none, joined_interval, Touches}
use Rattle.gtid.proofs.Within.{Added, split_at, set_remove, between-by, added_alone, added_before, added_after, apart, weaker, has_at}

-- what it touches, and that it is new
abbrev pub Touched : ℕ → Option Interval → Option Interval → List Interval → Type 0
Touched number below above intervals = Touches number below above intervals × (has intervals number ≡ false)

by_added : (number : ℕ) (below above : Option Interval) (intervals new front rest : List Interval) → intervals ≡ front ++ (one_or_none below ++ (one_or_none above ++ rest)) →
    new ≡ front ++ joined_interval number below above ∷ rest → Added number intervals new → Touched number below above intervals
by_added number below above intervals new front rest are is added = (
  record { front = front; rest = rest; intervals_are = are; least = subst (AreLeast 0) is added.least; adds = λ n. ap (λ l. has l n) (sym is) ∙ added.adds n },
  added.fresh,
)

pub touches_none : (intervals : List Interval) (at number : ℕ) → AreLeast 0 intervals → at ≤ length intervals → 1 ≤ number → number ≤ 2 ^ 63 - 2 → AllWithin (λ i. i.hi < number) intervals 0 at →
    ((d : Interval) → at < length intervals → number + 1 < (get_or intervals at d).lo) → Touched number None None intervals
touches_none intervals at number least within low high front gap =
    by_added number None None intervals _ (take at intervals) (drop at intervals) (sym (take-append-drop at intervals)) refl (added_alone intervals _ at number least within low high front gap refl)

pub touches_above : (intervals : List Interval) (at number : ℕ) (x : Interval) → AreLeast 0 intervals → at < length intervals → 1 ≤ number → AllWithin (λ i. i.hi < number) intervals 0 at →
    x ≡ get_or intervals at x → x.lo ≡ number + 1 → Touched number None (Some x) intervals
touches_above intervals at number x least within low front is touch =
    by_added number None (Some x) intervals _ (take at intervals) (drop (suc at) intervals) (split_at intervals at x within is) (set_split intervals at _ within) (added_before intervals at number x least within low front is touch)

both_by : (intervals : List Interval) (at number : ℕ) (x y : Interval) → AreLeast 0 intervals → suc at < length intervals → x ≡ get_or intervals at x → y ≡ get_or intervals (suc at) y →
    x.hi ≡ number → y.lo ≡ number + 1 → Touched number (Some x) (Some y) intervals
both_by intervals at number x y least within is next touch touch_next =
    let split = split_at intervals at x (omega (arith, within)) is ∙ ap (λ l. take at intervals ++ x ∷ l) (drop-cons intervals (suc at) y within ∙ ap (λ z. z ∷ drop (suc (suc at)) intervals) (sym next)) in
    by_added number (Some x) (Some y) intervals _ (take at intervals) (drop (suc (suc at)) intervals) split (set_remove intervals at _ within) (between-by intervals at number x y least within is next touch touch_next)

pub touches_below : (intervals : List Interval) (at number : ℕ) (x : Interval) (above : Option Interval) → AreLeast 0 intervals → at < length intervals → number ≤ 2 ^ 63 - 2 → x ≡ get_or intervals at x → x.hi ≡ number →
    IfSome above (λ y. (at + 1 < length intervals) × (y.lo ≡ number + 1) × ((d : Interval) → y ≡ get_or intervals (at + 1) d)) →
    IfNone above ((d : Interval) → at + 1 < length intervals → (get_or intervals (at + 1) d).lo ≢ number + 1) → Touched number (Some x) above intervals
touches_below intervals at number x (Some y) least within high is touch some none =
    both_by intervals at number x y least (omega (arith, some.0)) is (some.2 y ∙ ap (λ k. get_or intervals k y) (add-one at)) touch some.1
touches_below intervals at number x None least within high is touch some none =
    let gap : (d : Interval) → at + 1 < length intervals → number + 1 < (get_or intervals (at + 1) d).lo = λ d h.
    let a = apart 0 intervals at (at + 1) d least (omega arith) h in
    let ends = ap (λ i. i.hi) (is ∙ get_or_default intervals at x d within) in
    not_at (get_or intervals (at + 1) d).lo (omega (arith, a, ends, touch)) (none d h) in
    by_added number (Some x) None intervals _ (take at intervals) (drop (suc at) intervals) (split_at intervals at x within is) (set_split intervals at _ within) (added_after intervals at number x least within high is touch gap)
  where
    not_at : (lo : ℕ) → number < lo → lo ≢ number + 1 → number + 1 < lo
    not_at lo above other = omega (arith, above, other)

-- before an interval that begins further on
pub touches_gap : (intervals : List Interval) (at number : ℕ) (x : Interval) → AreLeast 0 intervals → at < length intervals → 1 ≤ number → number ≤ 2 ^ 63 - 2 → AllWithin (λ i. i.hi < number) intervals 0 at →
    ((d : Interval) → x ≡ get_or intervals at d) → number < x.hi → x.lo ≢ number + 1 → has intervals number ≡ false → Touches number None None intervals
touches_gap intervals at number x least within low high front is after other fresh =
    let past : number < x.lo = leb-false x.lo number (has_at intervals at number x least (weaker intervals at number front) within (is x) after ∙ fresh) in
    (touches_none intervals at number least (omega (arith, within)) low high front (λ d h. omega (arith, past, other, ap (λ i. i.lo) (is d)))).0
