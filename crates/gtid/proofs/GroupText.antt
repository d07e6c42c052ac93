-- The text of the set that groups stand for.
use Rattle.gtid.proofs.Names.{◌≡◌, ℕ, List, [], ◌∷◌, ◌++◌, refl, ap, sym, ◌∙◌, ◌<◌, ◌≤◌, ◌+◌, zero, suc, length, get_or, take, add-one, codes, subst, arith, ◌-◌, ◌^◌, true, nat_le, nat_lt, inl, inr, join_by, AllByRecursion, bytes_eq, false≢true, or_cases, and_parts, nat_tests, bytes_eq-Decides, Id, Ids, IsSource, IsGtid, is_within, has, AreLeast, Ascend, is_of, is_listed, spans_of, block_text, Interval, Group}
use Rattle.gtid.specs.Identifier.{AreGtids}
use Rattle.gtid.specs.Group.{sources, ids_of}
use Rattle.gtid.specs.Text.{AppendsText, LacksTextRoom}
use Rattle.gtid.specs.Blocks.{blocks}
use Rattle.gtid.proofs.LeastList.{least_list_of}
use Rattle.gtid.proofs.SpansBySource.{grouped_groups}
use Rattle.gtid.proofs.Sets.{contains_listed}

pub all_bytes : (bs : List ℕ) → ((i : ℕ) → get_or bs i 0 < 256) → AllByRecursion (λ b. b < 256) bs
all_bytes [] fits = tt
all_bytes (b ∷ bs) fits = (fits 0, all_bytes bs (λ i. fits (suc i)))

-- one item more of which it holds
pub all_more : {X : Type 0} (P : X → Type 0) (items : List X) (at : ℕ) (x : X) → AllByRecursion P (take at items) → at < length items → x ≡ get_or items at x → P x → AllByRecursion P (take (at + 1) items)
all_more {X = X} P items at x all short is holds = subst (λ k. AllByRecursion P (take k items)) (sym (add-one at)) (one_more items at all short is)
  where
    one_more : (items : List X) (at : ℕ) → AllByRecursion P (take at items) → at < length items → x ≡ get_or items at x → AllByRecursion P (take (suc at) items)
    one_more [] at all short is = absurd (omega arith)
    one_more (y ∷ items) zero all short is = (subst P is holds, tt)
    one_more (y ∷ items) (suc at) all short is = (all.0, one_more items at all.1 (omega arith) is)

-- ---- The set that groups stand for.

-- The source is of 16 bytes, and the numbers are in range.
least_number : (end : ℕ) (intervals : List Interval) (n : ℕ) → AreLeast end intervals → has intervals n ≡ true → (end < n) × (n < 2 ^ 63 - 1)
least_number end [] n least one = absurd (false≢true one)
least_number end (i ∷ intervals) n least one = elim (or_cases (is_within n i) (has intervals n) one) [
  | inl first ↦ within (and_parts (nat_le i.lo n) (nat_lt n i.hi) first)
  | inr later ↦ let l = least_number i.hi intervals n least.3 later in (omega (arith, least.0, least.1, l.0), l.1)
]
  where
    within : (nat_le i.lo n ≡ true) × (nat_lt n i.hi ≡ true) → (end < n) × (n < 2 ^ 63 - 1)
    within both = (grind (arith, nat_tests, least.0, both.0), grind (arith, nat_tests, least.2, both.1))

listed_gtid : (groups : List Group) (q : Id) → AllByRecursion (λ g. IsSource g.source) groups → is_listed q groups ≡ true → IsGtid q
listed_gtid [] q all one = absurd (false≢true one)
listed_gtid (g ∷ groups) q all one = elim (or_cases (is_of q g) (is_listed q groups) one) [
  | inl first ↦
      let both = and_parts (bytes_eq q.0 g.source) (has g.intervals.items q.1) first in
      let n = least_number 0 g.intervals.items q.1 g.least both.1 in
      (subst IsSource (sym ((bytes_eq-Decides q.0 g.source).0 both.0)) all.0, omega (arith, n.0), omega (arith, n.1))
  | inr later ↦ listed_gtid groups q all.1 later
]

gtids_of : (groups : List Group) → AllByRecursion (λ g. IsSource g.source) groups → AreGtids (ids_of groups)
gtids_of groups all q one = listed_gtid groups q all (sym (contains_listed groups q) ∙ one)

-- the printed form of the set that groups stand for
pub appends_text : (groups all : List Group) (ids : Ids) (old new : List ℕ) → Ascend (sources all) → groups ≡ all → ids_of all ≡ ids → new ≡ old ++ join_by block_text (codes ",") (blocks groups) → AllByRecursion (λ g. IsSource g.source) groups →
    AppendsText ids old new
appends_text groups all ids old new ascend same is printed lawful = record {
  text = join_by block_text (codes ",") (blocks groups);
  is_text = record {
    lawful = subst AreGtids (ap ids_of same ∙ is) (gtids_of groups lawful);
    spans = spans_of groups;
    least = least_list_of (spans_of groups) groups all ids ascend refl same is;
    printed = ap (join_by block_text (codes ",")) (sym (grouped_groups groups (subst (λ gs. Ascend (sources gs)) (sym same) ascend)));
  };
  appended = printed;
}

pub lacks_text : (groups all : List Group) (ids : Ids) (len capacity : ℕ) → Ascend (sources all) → groups ≡ all → ids_of all ≡ ids → capacity < len + length (join_by block_text (codes ",") (blocks groups)) →
    LacksTextRoom ids len capacity
lacks_text groups all ids len capacity ascend same is lacking = record {
  spans = spans_of groups;
  least = least_list_of (spans_of groups) groups all ids ascend refl same is;
  lacks = subst (λ bs. capacity < len + length (join_by block_text (codes ",") bs)) (sym (grouped_groups groups (subst (λ gs. Ascend (sources gs)) (sym same) ascend))) lacking;
}

-- The numbers of the groups are in range.
pub listed_number : (groups : List Group) (q : Id) → is_listed q groups ≡ true → (1 ≤ q.1) × (q.1 ≤ 2 ^ 63 - 2)
listed_number [] q one = absurd (false≢true one)
listed_number (g ∷ groups) q one = elim (or_cases (is_of q g) (is_listed q groups) one) [
  | inl first ↦
      let n = least_number 0 g.intervals.items q.1 g.least (and_parts (bytes_eq q.0 g.source) (has g.intervals.items q.1) first).1 in
      (omega (arith, n.0), omega (arith, n.1))
  | inr later ↦ listed_number groups q later
]
