-- Whether one list is within another or apart from it, found in one pass over both.
use Rattle.gtid.proofs.Names.{◌≡◌, ℕ, ◌⊎◌, inl, inr, Bool, true, false, ◌&&◌, ◌||◌, ◌<◌, ◌≤◌, List, [], ◌∷◌, length, slice_index_or, refl, ap, sym, ◌∙◌, arith, IsTrue, or-false, false≢true, nat_tests, bytes_eq-Decides, bytes_eq, Id, is_within, has, AreLeast, Ascend, is_listed, IsNext, IsNoHigher, Interval, Group}
use Rattle.std.proofs.Common.{drop}
use Rattle.std.proofs.lemmas.Bool.Decides.{leb_tells}
use Rattle.gtid.specs.Group.{sources}
use Rattle.gtid.proofs.Within.{below_least, is_above, is_below, is_in, none}
use Rattle.gtid.proofs.GroupMerge.{Taken, none_above, next_no_higher}

either : (a b : Bool) → (a || b) ≡ true → (a ≡ true) ⊎ (b ≡ true)
either true b is = inl refl
either false b is = inr is

right_of : (a b : Bool) → b ≡ true → (a || b) ≡ true
right_of true b is = refl
right_of false b is = is

left_of : (a b : Bool) → a ≡ true → (a || b) ≡ true
left_of true b is = refl
left_of false b is = absurd (false≢true is)

-- ---- Intervals.

-- no number is in both
abbrev pub AreApart : List Interval → List Interval → Type 0
AreApart intervals of = (n : ℕ) → has intervals n ≡ true → has of n ≡ false

-- each number of the first is in the second
abbrev pub AreIn : List Interval → List Interval → Type 0
AreIn intervals of = (n : ℕ) → has intervals n ≡ true → has of n ≡ true

-- what is left of both says the same as all of both
pub record Onward (intervals of parts left : List Interval) : Type 0 where
  pub parts_least : AreLeast 0 parts
  pub left_least : AreLeast 0 left
  pub on : AreIn parts left → AreIn intervals of
  pub back : AreIn intervals of → AreIn parts left

-- intervals after an end are least intervals
lower_end : (end : ℕ) (intervals : List Interval) → AreLeast end intervals → AreLeast 0 intervals
lower_end end [] least = tt
lower_end end (i ∷ intervals) least = (omega (arith, least.0), least.1, least.2, least.3)

within_lo : (n : ℕ) (i : Interval) → is_within n i ≡ true → i.lo ≤ n
within_lo n i is = grind (arith, nat_tests)

within_hi : (n : ℕ) (i : Interval) → is_within n i ≡ true → n < i.hi
within_hi n i is = grind (arith, nat_tests)

-- a number that is in one of the intervals is not below the first
not_below : (n : ℕ) (i : Interval) (rest : List Interval) → AreLeast 0 (i ∷ rest) → has (i ∷ rest) n ≡ true → i.lo ≤ n
not_below n i rest least is = elim (either (is_within n i) (has rest n) is) [
  | inl here ↦ within_lo n i here
  | inr later ↦ elim (leb_tells i.lo n) [
    | inl le ↦ le.1
    | inr less ↦ absurd (false≢true (sym (below_least i.hi rest n least.3 (omega (arith, least.1))) ∙ later))
  ]
]

-- an interval that ends before the first part does is left out
left_out : (p x : Interval) (rest others : List Interval) → AreLeast 0 (p ∷ rest) → AreLeast 0 (x ∷ others) → x.hi < p.hi → AreIn (p ∷ rest) (x ∷ others) → AreIn (p ∷ rest) others
left_out p x rest others least least_of ends all n is = elim (either (is_within n x) (has others n) (all n is)) [
  | inr later ↦ later
  | inl here ↦ (
      let low : p.lo ≤ n = not_below n p rest least is in
      let high : n < x.hi = within_hi n x here in
      let inside : has (p ∷ rest) x.hi ≡ true = left_of (is_within x.hi p) (has rest x.hi) (is_in x.hi p (omega arith) (omega arith)) in
      let outside : has (x ∷ others) x.hi ≡ false = none (is_above x.hi x (omega arith)) (below_least x.hi others x.hi least_of.3 (omega arith)) in
      absurd (false≢true (sym outside ∙ all x.hi inside)))
]

-- a part within an interval is done
part_done : (p x : Interval) (rest others : List Interval) → x.lo ≤ p.lo → p.hi ≤ x.hi → AreIn rest (x ∷ others) → AreIn (p ∷ rest) (x ∷ others)
part_done p x rest others begins ends all n is = elim (either (is_within n p) (has rest n) is) [
  | inl here ↦ (
      let low : p.lo ≤ n = within_lo n p here in
      let high : n < p.hi = within_hi n p here in
      left_of (is_within n x) (has others n) (is_in n x (omega arith) (omega arith)))
  | inr later ↦ all n later
]

-- where a part begins
begins_in : (p : Interval) (rest : List Interval) → p.lo < p.hi → has (p ∷ rest) p.lo ≡ true
begins_in p rest some = left_of (is_within p.lo p) (has rest p.lo) (is_in p.lo p (omega arith) some)

pub onward_first : {intervals of : List Interval} → AreLeast 0 intervals → AreLeast 0 of → Onward intervals of intervals of
onward_first least least_of = record { parts_least = least; left_least = least_of; on = λ all. all; back = λ all. all }

pub onward_left : {intervals of : List Interval} (parts left : List Interval) (d : Interval) → Onward intervals of parts left → 1 ≤ length parts → 1 ≤ length left →
    (slice_index_or left 0 d).hi < (slice_index_or parts 0 d).hi → Onward intervals of parts (drop 1 left)
onward_left [] left d o some some_left ends = absurd (omega arith)
onward_left (p ∷ rest) [] d o some some_left ends = absurd (omega arith)
onward_left (p ∷ rest) (x ∷ others) d o some some_left ends = record {
  parts_least = o.parts_least;
  left_least = lower_end x.hi others o.left_least.3;
  on = λ all. o.on (λ n is. right_of (is_within n x) (has others n) (all n is));
  back = λ all. left_out p x rest others o.parts_least o.left_least ends (o.back all);
}

pub onward_part : {intervals of : List Interval} (parts left : List Interval) (d : Interval) → Onward intervals of parts left → 1 ≤ length parts → 1 ≤ length left →
    (slice_index_or parts 0 d).hi ≤ (slice_index_or left 0 d).hi → (slice_index_or left 0 d).lo ≤ (slice_index_or parts 0 d).lo → Onward intervals of (drop 1 parts) left
onward_part [] left d o some some_left ends begins = absurd (omega arith)
onward_part (p ∷ rest) [] d o some some_left ends begins = absurd (omega arith)
onward_part (p ∷ rest) (x ∷ others) d o some some_left ends begins = record {
  parts_least = lower_end p.hi rest o.parts_least.3;
  left_least = o.left_least;
  on = λ all. o.on (part_done p x rest others begins ends all);
  back = λ all n is. o.back all n (right_of (is_within n p) (has rest n) is);
}

-- each part was found
pub onward_all : {intervals of : List Interval} (parts left : List Interval) → Onward intervals of parts left → length parts < 1 → AreIn intervals of
onward_all [] left o none = o.on (λ n is. absurd (false≢true is))
onward_all (p ∷ rest) left o none = absurd (omega arith)

-- a part after the last of the others
pub onward_none : {intervals of : List Interval} (parts left : List Interval) → Onward intervals of parts left → 1 ≤ length parts → length left < 1 → AreIn intervals of → IsTrue false
onward_none [] left o some none all = absurd (omega arith)
onward_none (p ∷ rest) [] o some none all = absurd (false≢true (o.back all p.lo (begins_in p rest o.parts_least.1)))
onward_none (p ∷ rest) (x ∷ others) o some none all = absurd (omega arith)

-- a part that begins before the first of the others
pub onward_gap : {intervals of : List Interval} (parts left : List Interval) (d : Interval) → Onward intervals of parts left → 1 ≤ length parts → 1 ≤ length left →
    (slice_index_or parts 0 d).lo < (slice_index_or left 0 d).lo → AreIn intervals of → IsTrue false
onward_gap [] left d o some some_left begins all = absurd (omega arith)
onward_gap (p ∷ rest) [] d o some some_left begins all = absurd (omega arith)
onward_gap (p ∷ rest) (x ∷ others) d o some some_left begins all =
    let outside : has (x ∷ others) p.lo ≡ false = none (is_below p.lo x begins) (below_least x.hi others p.lo o.left_least.3 (omega (arith, o.left_least.1))) in
    absurd (false≢true (sym outside ∙ o.back all p.lo (begins_in p rest o.parts_least.1)))

-- ---- Intervals that are apart.

-- what is left of both says the same as all of both
pub record ApartOnward (intervals of parts left : List Interval) : Type 0 where
  pub parts_least : AreLeast 0 parts
  pub left_least : AreLeast 0 left
  pub on : AreApart parts left → AreApart intervals of
  pub back : AreApart intervals of → AreApart parts left

right_none : (a b : Bool) → (a || b) ≡ false → b ≡ false
right_none true b none = absurd (false≢true (sym none))
right_none false b none = none

-- an interval that ends before the first part begins is left out
before_parts : (p x : Interval) (rest others : List Interval) → AreLeast 0 (p ∷ rest) → x.hi ≤ p.lo → AreApart (p ∷ rest) others → AreApart (p ∷ rest) (x ∷ others)
before_parts p x rest others least ends all n is =
    let low : p.lo ≤ n = not_below n p rest least is in
    none (is_above n x (omega arith)) (all n is)

-- a part that ends before the first of the others begins is done
part_before : (p x : Interval) (rest others : List Interval) → AreLeast 0 (x ∷ others) → p.hi ≤ x.lo → AreApart rest (x ∷ others) → AreApart (p ∷ rest) (x ∷ others)
part_before p x rest others least ends all n is = elim (either (is_within n p) (has rest n) is) [
  | inl here ↦ (
      let high : n < p.hi = within_hi n p here in
      none (is_below n x (omega arith)) (below_least x.hi others n least.3 (omega (arith, least.1))))
  | inr later ↦ all n later
]

-- a part and an interval that overlap have a number in common
in_both : (p x : Interval) (rest others : List Interval) (n : ℕ) → p.lo ≤ n → n < p.hi → x.lo ≤ n → n < x.hi → AreApart (p ∷ rest) (x ∷ others) → IsTrue false
in_both p x rest others n low high low_of high_of all =
    let here : has (p ∷ rest) n ≡ true = left_of (is_within n p) (has rest n) (is_in n p low high) in
    let there : has (x ∷ others) n ≡ true = left_of (is_within n x) (has others n) (is_in n x low_of high_of) in
    absurd (false≢true (sym (all n here) ∙ there))

pub apart_first : {intervals of : List Interval} → AreLeast 0 intervals → AreLeast 0 of → ApartOnward intervals of intervals of
apart_first least least_of = record { parts_least = least; left_least = least_of; on = λ all. all; back = λ all. all }

pub apart_left : {intervals of : List Interval} (parts left : List Interval) (d : Interval) → ApartOnward intervals of parts left → 1 ≤ length parts → 1 ≤ length left →
    (slice_index_or left 0 d).hi ≤ (slice_index_or parts 0 d).lo → ApartOnward intervals of parts (drop 1 left)
apart_left [] left d o some some_left ends = absurd (omega arith)
apart_left (p ∷ rest) [] d o some some_left ends = absurd (omega arith)
apart_left (p ∷ rest) (x ∷ others) d o some some_left ends = record {
  parts_least = o.parts_least;
  left_least = lower_end x.hi others o.left_least.3;
  on = λ all. o.on (before_parts p x rest others o.parts_least ends all);
  back = λ all n is. right_none (is_within n x) (has others n) (o.back all n is);
}

pub apart_part : {intervals of : List Interval} (parts left : List Interval) (d : Interval) → ApartOnward intervals of parts left → 1 ≤ length parts → 1 ≤ length left →
    (slice_index_or parts 0 d).hi ≤ (slice_index_or left 0 d).lo → ApartOnward intervals of (drop 1 parts) left
apart_part [] left d o some some_left ends = absurd (omega arith)
apart_part (p ∷ rest) [] d o some some_left ends = absurd (omega arith)
apart_part (p ∷ rest) (x ∷ others) d o some some_left ends = record {
  parts_least = lower_end p.hi rest o.parts_least.3;
  left_least = o.left_least;
  on = λ all. o.on (part_before p x rest others o.left_least ends all);
  back = λ all n is. o.back all n (right_of (is_within n p) (has rest n) is);
}

-- no part is left
pub apart_all : {intervals of : List Interval} (parts left : List Interval) → ApartOnward intervals of parts left → length parts < 1 → AreApart intervals of
apart_all [] left o none = o.on (λ n is. absurd (false≢true is))
apart_all (p ∷ rest) left o none = absurd (omega arith)

-- none of the others is left
pub apart_none : {intervals of : List Interval} (parts left : List Interval) → ApartOnward intervals of parts left → length left < 1 → AreApart intervals of
apart_none parts [] o none = o.on (λ n is. refl)
apart_none parts (x ∷ others) o none = absurd (omega arith)

-- a part and one of the others overlap
pub apart_not : {intervals of : List Interval} (parts left : List Interval) (d : Interval) → ApartOnward intervals of parts left → 1 ≤ length parts → 1 ≤ length left →
    (slice_index_or parts 0 d).lo < (slice_index_or left 0 d).hi → (slice_index_or left 0 d).lo < (slice_index_or parts 0 d).hi → AreApart intervals of → IsTrue false
apart_not [] left d o some some_left before after all = absurd (omega arith)
apart_not (p ∷ rest) [] d o some some_left before after all = absurd (omega arith)
apart_not (p ∷ rest) (x ∷ others) d o some some_left before after all = elim (leb_tells p.lo x.lo) [
  | inl le ↦ in_both p x rest others x.lo le.1 after (omega arith) o.left_least.1 (o.back all)
  | inr less ↦ in_both p x rest others p.lo (omega arith) o.parts_least.1 (omega (arith, less.1)) before (o.back all)
]

-- ---- Groups.

-- the second has each number of the first, or none of them
abbrev HasAll : Bool → List Interval → List Interval → Type 0
HasAll there intervals of = (n : ℕ) → has intervals n ≡ true → has of n ≡ there

-- each GTID of the first is in the second, or none is
abbrev pub ListsAll : Bool → List Group → List Group → Type 0
ListsAll there groups of = (q : Id) → is_listed q groups ≡ true → is_listed q of ≡ there

-- what is left of both says the same as all of both
pub record Passed (there : Bool) (groups of left right : List Group) : Type 0 where
  pub left_ascend : Ascend (sources left)
  pub right_ascend : Ascend (sources right)
  pub on : ListsAll there left right → ListsAll there groups of
  pub back : ListsAll there groups of → ListsAll there left right

-- whether a GTID is of the next source, whether the two have its number there, and whether they have it further on
both_parts : (there e a b l r : Bool) → (e ≡ true → l ≡ false) → (e ≡ true → r ≡ false) → (a ≡ true → b ≡ there) → (l ≡ true → r ≡ there) → ((e && a) || l) ≡ true → ((e && b) || r) ≡ there
both_parts there true a b l r no_l no_r here later is = (λ i. b || no_r refl i) ∙ or-false b ∙ here (sym (or-false a) ∙ (λ i. a || sym (no_l refl) i) ∙ is)
both_parts there false a b l r no_l no_r here later is = later is

next_part : (there e b r : Bool) → e ≡ true → r ≡ false → ((e && b) || r) ≡ there → b ≡ there
next_part there true b r same none is = sym (or-false b) ∙ (λ i. b || sym none i) ∙ is
next_part there false b r same none is = absurd (false≢true same)

later_part : (there e b l r : Bool) → (e ≡ true → l ≡ false) → l ≡ true → ((e && b) || r) ≡ there → r ≡ there
later_part there true b l r no_l one is = absurd (false≢true (sym (no_l refl) ∙ one))
later_part there false b l r no_l one is = is

-- the numbers of the next source
source_numbers : {there : Bool} (s : List ℕ) (a b : List Interval) (left right l r : List Group) → Taken [] s left a l → Taken [] s right b r → ListsAll there left right → HasAll there a b
source_numbers {there} s a b left right l r from_left from_right all n is =
    let same = (bytes_eq-Decides s s).1 refl in
    let listed : is_listed (s, n) left ≡ true = from_left.listed (s, n) ∙ left_of (bytes_eq s s && has a n) (is_listed (s, n) l) ((λ i. same i && has a n) ∙ is) in
    next_part there (bytes_eq s s) (has b n) (is_listed (s, n) r) same (none_above s r (s, n) from_right.above same) (sym (from_right.listed (s, n)) ∙ all (s, n) listed)

-- the sources after it
source_rest : {there : Bool} (s : List ℕ) (a b : List Interval) (left right l r : List Group) → Taken [] s left a l → Taken [] s right b r → ListsAll there left right → ListsAll there l r
source_rest {there} s a b left right l r from_left from_right all q is =
    later_part there (bytes_eq q.0 s) (has b q.1) (is_listed q l) (is_listed q r) (none_above s l q from_left.above) is
    (sym (from_right.listed q) ∙ all q (from_left.listed q ∙ right_of (bytes_eq q.0 s && has a q.1) (is_listed q l) is))

pub passed_first : {there : Bool} {groups of : List Group} → Ascend (sources groups) → Ascend (sources of) → Passed there groups of groups of
passed_first ascend ascend_of = record { left_ascend = ascend; right_ascend = ascend_of; on = λ all. all; back = λ all. all }

pub passed_source : {there : Bool} {groups of left right : List Group} (s : List ℕ) (a b : List Interval) (l r : List Group) → Passed there groups of left right →
    Taken [] s left a l → Taken [] s right b r → HasAll there a b → Passed there groups of l r
passed_source {there} {left = left} {right = right} s a b l r p from_left from_right here = record {
  left_ascend = from_left.ascend;
  right_ascend = from_right.ascend;
  on = λ later. p.on (λ q is.
      from_right.listed q
      ∙ both_parts there (bytes_eq q.0 s) (has a q.1) (has b q.1) (is_listed q l) (is_listed q r) (none_above s l q from_left.above) (none_above s r q from_right.above) (here q.1) (later q)
      (sym (from_left.listed q) ∙ is));
  back = λ all. source_rest s a b left right l r from_left from_right (p.back all);
}

-- none of either list is of a source before the next one
pub none_higher : (s : List ℕ) (left right : List Group) → (IsNext s left × IsNoHigher s right) ⊎ (IsNoHigher s left × IsNext s right) → IsNoHigher s left × IsNoHigher s right
none_higher s left right (inl (next, low)) = (next_no_higher s left next, low)
none_higher s left right (inr (low, next)) = (low, next_no_higher s right next)

-- the next source's numbers
pub passed_numbers : {there : Bool} {groups of left right : List Group} (s : List ℕ) (a b : List Interval) (l r : List Group) → Passed there groups of left right →
    Taken [] s left a l → Taken [] s right b r → ListsAll there groups of → HasAll there a b
passed_numbers {left = left} {right = right} s a b l r p from_left from_right all = source_numbers s a b left right l r from_left from_right (p.back all)

-- no source is left
pub passed_all : {there : Bool} {groups of left right : List Group} → Passed there groups of left right → left ≡ [] → ListsAll there groups of
passed_all p none = p.on (λ q is. absurd (false≢true (sym (ap (is_listed q) none) ∙ is)))
