-- Least intervals, and those of two lists as one.
use Rattle.gtid.proofs.Names.{length, slice_index_or, ◌≡◌, ℕ, inl, inr, ◌⊎◌, ◌+◌, ◌<◌, ◌≤◌, ◌^◌, Bool, true, false, List, [], ◌∷◌, ◌++◌, refl, sym, ◌∙◌, arith, cases_lt, nat_tests, list_any-append, Interval, has, is_within, AreLeast}
use Rattle.std.proofs.Common.{drop}
use Rattle.std.specs.Prelude.{◌||◌, ◌&&◌, not, nat_le, nat_lt, max}
use Rattle.gtid.specs.declared.combination.Merged.{Merged}
use Rattle.gtid.specs.Merged.{AreFrom, IsFrom, has_left, AreLeastBefore}

pub has-append : (xs ys : List Interval) (n : ℕ) → has (xs ++ ys) n ≡ (has xs n || has ys n)
has-append xs ys n = list_any-append (is_within n) xs ys

-- where the last interval ends, after one that ended at `after`
abbrev pub last_end : ℕ → List Interval → ℕ
last_end after [] = after
last_end after (i ∷ intervals) = last_end i.hi intervals

pub before_more : (end place later : ℕ) (intervals : List Interval) → AreLeastBefore end place intervals → place ≤ later → AreLeastBefore end later intervals
before_more end place later [] b le = omega arith
before_more end place later (i ∷ intervals) b le = (b.0, b.1, b.2, before_more i.hi place later intervals b.3 le)

-- with one more interval, which begins after them
pub before_push : (end lo hi place : ℕ) (intervals : List Interval) → AreLeastBefore end lo intervals → lo < hi → hi < 2 ^ 63 → hi < place →
    AreLeastBefore end place (intervals ++ record { lo = lo; hi = hi } ∷ [])
before_push end lo hi place [] b some fits ends = (b, some, fits, ends)
before_push end lo hi place (i ∷ intervals) b some fits ends = (b.0, b.1, b.2, before_push i.hi lo hi place intervals b.3 some fits ends)

outside : (i : Interval) (n : ℕ) → i.hi ≤ n → is_within n i ≡ false
outside i n h = grind (arith, nat_tests)

pub least_from_before : (end place : ℕ) (intervals : List Interval) → AreLeastBefore end place intervals → AreLeast end intervals
least_from_before end place [] b = tt
least_from_before end place (i ∷ intervals) b = (b.0, b.1, b.2, least_from_before i.hi place intervals b.3)

none_yet : (i : Interval) (n : ℕ) → n < i.lo → is_within n i ≡ false
none_yet i n h = grind (arith, nat_tests)

-- no number up to where they begin
none_before : (end n : ℕ) (intervals : List Interval) → AreLeast end intervals → n ≤ end → has intervals n ≡ false
none_before end n [] least le = refl
none_before end n (i ∷ intervals) least le = rw (none_yet i n (omega arith)) (none_before i.hi n intervals least.3 (omega arith))

now_within : (i : Interval) (n : ℕ) → i.lo ≤ n → n < i.hi → is_within n i ≡ true
now_within i n lo hi = grind (arith, nat_tests)

from_least : (intervals : List Interval) → AreLeast 0 intervals → AreFrom 1 intervals
from_least [] l = tt
from_least (i ∷ intervals) l = (omega arith, l.1, l.2, l.3)

pub IsFrom-least : (m : Merged) → AreLeast 0 m.left.now → AreLeast 0 m.right.now → IsFrom 1 m
IsFrom-least m left right = (from_least m.left.now left, from_least m.right.now right)

from_more : (place later : ℕ) (intervals : List Interval) → AreFrom later intervals → place ≤ later → AreFrom place intervals
from_more place later [] f le = tt
from_more place later (i ∷ intervals) f le = (omega arith, f.1, f.2, f.3)

-- the numbers of two lists, of which those that begin before what is left make whole intervals and a last one
pub record Joined (left right : List Interval) (m : Merged) (joined : List Interval) (last : Interval) : Type 0 where
  pub before : AreLeastBefore 0 last.lo joined
  pub some : last.lo < last.hi
  pub in_range : last.hi < 2 ^ 63
  pub from : IsFrom last.lo m
  pub same : (n : ℕ) → (has left n || has right n) ≡ (has joined n || (is_within n last || has_left m n))

-- the next of the remaining intervals, which begins at a place or after it
pub record IsNext (m : Merged) (next : Interval) (m' : Merged) (place : ℕ) : Type 0 where
  pub after : place ≤ next.lo
  pub some : next.lo < next.hi
  pub in_range : next.hi < 2 ^ 63
  pub from : IsFrom next.lo m'
  pub same : (n : ℕ) → has_left m n ≡ (is_within n next || has_left m' n)

pub within_wider : (n lo hi lo' hi' : ℕ) → lo ≤ lo' → lo' ≤ hi → (nat_le lo n && nat_lt n (max hi hi')) ≡ ((nat_le lo n && nat_lt n hi) || (nat_le lo' n && nat_lt n hi'))
within_wider n lo hi lo' hi' le touch = grind (arith, nat_tests)

wider : (j w x m : Bool) → (j || (w || (x || m))) ≡ (j || ((w || x) || m))
wider true w x m = refl
wider false true x m = refl
wider false false x m = refl

apart : (j w y : Bool) → (j || (w || y)) ≡ ((j || (w || false)) || y)
apart true w y = refl
apart false true y = refl
apart false false y = refl

pub joined_first : {left right joined : List Interval} {m m' : Merged} {next : Interval} → IsNext m next m' 1 → left ≡ m.left.now → right ≡ m.right.now → joined ≡ [] → Joined left right m' joined next
joined_first {left} {right} {joined} {m} {m'} {next} is left_is right_is none = record {
  before = rw none is.after;
  some = is.some;
  in_range = is.in_range;
  from = is.from;
  same = λ n. rw (left_is, right_is, none) (is.same n);
}

-- the next one touches the last one
pub joined_on : {left right joined : List Interval} {m m' : Merged} {last next : Interval} → Joined left right m joined last → IsNext m next m' last.lo → next.lo ≤ last.hi →
    Joined left right m' joined (record { lo = last.lo; hi = max last.hi next.hi })
joined_on {left} {right} {joined} {m} {m'} {last} {next} j is touch = record {
  before = j.before;
  some = omega (arith, j.some);
  in_range = omega (arith, j.in_range, is.in_range);
  from = (from_more last.lo next.lo m'.left.now is.from.0 is.after, from_more last.lo next.lo m'.right.now is.from.1 is.after);
  same = λ n. j.same n ∙ rw (is.same n, within_wider n last.lo last.hi next.lo next.hi is.after touch) (wider (has joined n) (is_within n last) (is_within n next) (has_left m' n));
}

-- the next one does not
pub joined_apart : {left right joined joined' : List Interval} {m m' : Merged} {last next : Interval} → Joined left right m joined last → IsNext m next m' last.lo → last.hi < next.lo → joined' ≡ joined ++ last ∷ [] →
    Joined left right m' joined' next
joined_apart {left} {right} {joined} {joined'} {m} {m'} {last} {next} j is gap push = record {
  before = rw push (before_push 0 last.lo last.hi next.lo joined j.before j.some j.in_range gap);
  some = is.some;
  in_range = is.in_range;
  from = is.from;
  same = λ n. j.same n ∙ rw (is.same n, push, has-append joined (last ∷ []) n) (apart (has joined n) (is_within n last) (is_within n next || has_left m' n));
}

pub joined_all : {left right joined joined' : List Interval} {m : Merged} {last : Interval} → Joined left right m joined last → (m.left.now ≡ []) × (m.right.now ≡ []) → joined' ≡ joined ++ last ∷ [] →
    AreLeast 0 joined' × ((n : ℕ) → has joined' n ≡ (has left n || has right n))
joined_all {left} {right} {joined} {joined'} {m} {last} j none push = (
  rw push (least_from_before 0 (last.hi + 1) (joined ++ last ∷ []) (before_push 0 last.lo last.hi (last.hi + 1) joined j.before j.some j.in_range (omega arith))),
  λ n. rw (push, has-append joined (last ∷ []) n, j.same n, none.0, none.1) refl,
)

-- the numbers of one list that are not in another: those before a place are settled
pub record Cut (left right pieces cuts kept : List Interval) (done : ℕ) : Type 0 where
  pub end : ℕ
  pub pieces_least : AreLeast end pieces
  pub cuts_least : AreLeast done cuts
  pub before : AreLeastBefore 0 (max done (end + 1)) kept
  pub same : (n : ℕ) → (has left n && not (has right n)) ≡ (has kept n || (nat_le done n && (has pieces n && not (has cuts n))))

-- a cut that begins before the piece ends: what is of the piece before it is kept
cut_here : (n done lo : ℕ) (p x : Interval) (rest others : Bool) → lo ≡ max p.lo done → done < x.lo → x.lo < x.hi → x.lo < p.hi → (n ≤ p.hi → rest ≡ false) → (n ≤ x.hi → others ≡ false) →
    (nat_le done n && ((is_within n p || rest) && not (is_within n x || others))) ≡ ((nat_le lo n && nat_lt n x.lo) || (nat_le x.hi n && ((is_within n p || rest) && not others)))
cut_here n done lo p x rest others is gap some begins no_rest no_others = elim (cases_lt n x.lo) [
  | inl before ↦ let a = no_rest (omega arith) in let b = no_others (omega arith) in rw (a, b) (grind (arith, nat_tests))
  | inr beyond ↦ elim (cases_lt n x.hi) [
    | inl within ↦ let b = no_others (omega arith) in rw (b, now_within x n beyond within) (grind (arith, nat_tests))
    | inr over ↦ rw (outside x n over) (grind (arith, nat_tests))
  ]
]

-- no cut does: the rest of the piece is kept
piece_here : (n done lo : ℕ) (p : Interval) (rest cuts : Bool) → lo ≡ max p.lo done → (n ≤ p.hi → rest ≡ false) → (n < p.hi → cuts ≡ false) →
    (nat_le done n && ((is_within n p || rest) && not cuts)) ≡ ((nat_le lo n && nat_lt n p.hi) || (nat_le done n && (rest && not cuts)))
piece_here n done lo p rest cuts is no_rest no_cuts = elim (cases_lt n p.hi) [
  | inl within ↦ let a = no_rest (omega arith) in let b = no_cuts within in rw (a, b) (grind (arith, nat_tests))
  | inr over ↦ rw (outside p n over) (grind (arith, nat_tests))
]

after_kept : (k a b c : Bool) → a ≡ (b || c) → (k || a) ≡ ((k || b) || c)
after_kept true a b c is = refl
after_kept false a b c is = is

nothing_left : (k d : Bool) → (k || (d && false)) ≡ k
nothing_left true d = refl
nothing_left false true = refl
nothing_left false false = refl

-- no cut is before the first one
no_cut : (done n hi : ℕ) (cuts : List Interval) (d : Interval) → AreLeast done cuts → (length cuts < 1) ⊎ (hi ≤ (slice_index_or cuts 0 d).lo) → n < hi → has cuts n ≡ false
no_cut done n hi [] d least at lt = refl
no_cut done n hi (x ∷ others) d least (inl none) lt = absurd (omega arith)
no_cut done n hi (x ∷ others) d least (inr le) lt = rw (none_yet x n (omega arith)) (none_before x.hi n others least.3 (omega arith))

-- what was appended to what is kept
pub record Adds (kept kept' : List Interval) (lo hi : ℕ) : Type 0 where
  pub least : (before after : ℕ) → before ≤ lo → before ≤ after → (lo < hi → hi < after) → AreLeastBefore 0 before kept → AreLeastBefore 0 after kept'
  pub same : (n : ℕ) → has kept' n ≡ (has kept n || (nat_le lo n && nat_lt n hi))

pub cut_on : {left right kept kept' : List Interval} {done : ℕ} (pieces cuts : List Interval) (lo : ℕ) (d : Interval) → Cut left right pieces cuts kept done → 1 ≤ length pieces → 1 ≤ length cuts →
    (slice_index_or cuts 0 d).lo < (slice_index_or pieces 0 d).hi → lo ≡ max (slice_index_or pieces 0 d).lo done → Adds kept kept' lo (slice_index_or cuts 0 d).lo →
    Cut left right pieces (drop 1 cuts) kept' (slice_index_or cuts 0 d).hi
cut_on [] cuts lo d c some_piece some_cut begins is adds = absurd (omega arith)
cut_on (p ∷ rest) [] lo d c some_piece some_cut begins is adds = absurd (omega arith)
cut_on {left} {right} {kept} {kept'} {done} (p ∷ rest) (x ∷ others) lo d c some_piece some_cut begins is adds =
    let gap : done < x.lo = c.cuts_least.0 in
    let some : x.lo < x.hi = c.cuts_least.1 in
    let first : c.end < p.lo = c.pieces_least.0 in
    record {
      end = c.end;
      pieces_least = c.pieces_least;
      cuts_least = c.cuts_least.3;
      before = adds.least (max done (c.end + 1)) (max x.hi (c.end + 1)) (omega arith) (omega arith) (λ more. omega arith) c.before;
      same = λ n. c.same n ∙ rw (adds.same n) (after_kept (has kept n) _ _ _
          (cut_here n done lo p x (has rest n) (has others n) is gap some begins (none_before p.hi n rest c.pieces_least.3) (none_before x.hi n others c.cuts_least.3)));
    }

pub piece_on : {left right kept kept' : List Interval} {done : ℕ} (pieces cuts : List Interval) (lo : ℕ) (d : Interval) → Cut left right pieces cuts kept done → 1 ≤ length pieces →
    (length cuts < 1) ⊎ ((slice_index_or pieces 0 d).hi ≤ (slice_index_or cuts 0 d).lo) → lo ≡ max (slice_index_or pieces 0 d).lo done → Adds kept kept' lo (slice_index_or pieces 0 d).hi →
    Cut left right (drop 1 pieces) cuts kept' done
piece_on [] cuts lo d c some_piece none is adds = absurd (omega arith)
piece_on {left} {right} {kept} {kept'} {done} (p ∷ rest) cuts lo d c some_piece none is adds =
    let first : c.end < p.lo = c.pieces_least.0 in
    let some : p.lo < p.hi = c.pieces_least.1 in
    record {
      end = p.hi;
      pieces_least = c.pieces_least.3;
      cuts_least = c.cuts_least;
      before = adds.least (max done (c.end + 1)) (max done (p.hi + 1)) (omega arith) (omega arith) (λ more. omega arith) c.before;
      same = λ n. c.same n ∙ rw (adds.same n) (after_kept (has kept n) _ _ _
          (piece_here n done lo p (has rest n) (has cuts n) is (none_before p.hi n rest c.pieces_least.3) (no_cut done n p.hi cuts d c.cuts_least none)));
    }

from_zero : (n : ℕ) → nat_le 0 n ≡ true
from_zero n = grind (arith, nat_tests)

pub cut_from_start : {left right kept : List Interval} → AreLeast 0 left → AreLeast 0 right → kept ≡ [] → Cut left right left right kept 0
cut_from_start least_left least_right none = record {
  end = 0;
  pieces_least = least_left;
  cuts_least = least_right;
  before = rw none (omega arith);
  same = λ n. rw (none, from_zero n) refl;
}

pub cut_all : {left right kept : List Interval} {done : ℕ} (pieces cuts : List Interval) → Cut left right pieces cuts kept done → length pieces < 1 →
    AreLeast 0 kept × ((n : ℕ) → has kept n ≡ (has left n && not (has right n)))
cut_all {kept = kept} {done = done} [] cuts c none = (least_from_before 0 _ kept c.before, λ n. sym (c.same n ∙ nothing_left (has kept n) (nat_le done n)))
cut_all (p ∷ rest) cuts c none = absurd (omega arith)
