-- The spans of groups, grouped by source.
use Rattle.gtid.proofs.Names.{◌≡◌, ◌≢◌, ℕ, suc, ◌+◌, ◌<◌, ◌^◌, length, arith, Option, Some, None, Bool, true, false, if◌then◌else◌, List, [], ◌∷◌, ◌++◌, map, refl, ap, sym, subst, ◌∙◌, Less, nat_cmp, is_lt, slice_cmp, bytes_eq, length-map, bytes_eq-Decides, Ids, AreLeast, Ascend, IsBelow, spans_of, SidBlock, AreSidBlocks, is_above, join_block, blocks_bytes, IsEncoding, of_group, Interval, Group, Span}
use Rattle.gtid.specs.Group.{sources, ids_of}
use Rattle.gtid.specs.Spans.{span}
use Rattle.gtid.specs.Encoding.{grouped, AppendsEncoding, LacksRoom}
use Rattle.gtid.specs.Blocks.{pair, block, blocks}
use Rattle.gtid.proofs.GroupMerge.{ascend_first}
use Rattle.gtid.proofs.LeastList.{least_list}
use Rattle.gtid.proofs.NotBelow.{not_below_itself}
use Rattle.gtid.proofs.BytesSoFar.{intervals_of_least}

-- the first block is of another source
abbrev pub IsOther : List ℕ → List SidBlock → Type 0
IsOther s [] = Unit {0}
IsOther s (b ∷ blocks) = bytes_eq s b.source ≡ false

join_other : (s : List ℕ) (i : Interval) (after : List SidBlock) → IsOther s after → join_block (span s i) after ≡ block s (i ∷ []) ∷ after
join_other s i [] other = refl
join_other s i (b ∷ after) other =
    ap (λ c. if c then record { source = b.source; intervals = (i.lo, i.hi) ∷ b.intervals } ∷ after else record { source = s; intervals = (i.lo, i.hi) ∷ [] } ∷ (b ∷ after)) other

join_same : (s : List ℕ) (i : Interval) (intervals : List Interval) (after : List SidBlock) → join_block (span s i) (block s intervals ∷ after) ≡ block s (i ∷ intervals) ∷ after
join_same s i intervals after =
    ap (λ c. if c then record { source = s; intervals = (i.lo, i.hi) ∷ map pair intervals } ∷ after else record { source = s; intervals = (i.lo, i.hi) ∷ [] } ∷ (block s intervals ∷ after))
    ((bytes_eq-Decides s s).1 refl)

grouped_one : (s : List ℕ) (i : Interval) (intervals : List Interval) (rest : List Span) (after : List SidBlock) → grouped rest ≡ after → IsOther s after →
    grouped (map (span s) (i ∷ intervals) ++ rest) ≡ block s (i ∷ intervals) ∷ after
grouped_one s i [] rest after is other = ap (join_block (span s i)) is ∙ join_other s i after other
grouped_one s i (j ∷ intervals) rest after is other =
    ap (join_block (span s i)) (grouped_one s j intervals rest after is other) ∙ join_same s i (j ∷ intervals) after

pub grouped_some : (s : List ℕ) (intervals : List Interval) (rest : List Span) (after : List SidBlock) → intervals ≢ [] → grouped rest ≡ after → IsOther s after →
    grouped (map (span s) intervals ++ rest) ≡ block s intervals ∷ after
grouped_some s [] rest after some is other = absurd (some refl)
grouped_some s (i ∷ intervals) rest after some is other = grouped_one s i intervals rest after is other

pub other_below : (s t : List ℕ) (e : Bool) → bytes_eq s t ≡ e → slice_cmp nat_cmp s t ≡ Less → bytes_eq s t ≡ false
other_below s t false is less = is
other_below s t true is less =
    absurd (not_below_itself s (ap (λ u. slice_cmp nat_cmp s u) ((bytes_eq-Decides s t).0 is) ∙ less))

other_groups : (s : List ℕ) (groups : List Group) → IsBelow s (sources groups) → IsOther s (blocks groups)
other_groups s [] below = tt
other_groups s (g ∷ groups) below = other_below s g.source (bytes_eq s g.source) refl below.0

pub grouped_groups : (groups : List Group) → Ascend (sources groups) → grouped (spans_of groups) ≡ blocks groups
grouped_groups [] ascend = refl
grouped_groups (g ∷ groups) ascend =
    let f = ascend_first g.source (sources groups) ascend in
    grouped_some g.source g.intervals.items (spans_of groups) (blocks groups) g.some (grouped_groups groups f.1) (other_groups g.source groups f.0)

few : (end : ℕ) (intervals : List Interval) → AreLeast end intervals → end < 2 ^ 63 → length intervals + end < 2 ^ 63
few end [] least fits = omega arith
few end (i ∷ intervals) least fits = omega (arith, least.0, least.1, few i.hi intervals least.3 least.2)

pair_length : (intervals : List Interval) → length (map pair intervals) ≡ length intervals
pair_length [] = refl
pair_length (i ∷ intervals) = ap suc (pair_length intervals)

some_length : (intervals : List Interval) → intervals ≢ [] → 0 < length intervals
some_length [] some = absurd (some refl)
some_length (i ∷ intervals) some = omega arith

-- the source before is below the first of these
abbrev IsAfter : Option (List ℕ) → List (List ℕ) → Type 0
IsAfter None ss = Unit {0}
IsAfter (Some s) ss = IsBelow s ss

above_first : (before : Option (List ℕ)) (s : List ℕ) (ss : List (List ℕ)) → IsAfter before (s ∷ ss) → is_above before s ≡ true
above_first None s ss after = refl
above_first (Some t) s ss after = ap is_lt after.0

lawful_blocks : (before : Option (List ℕ)) (groups : List Group) → IsAfter before (sources groups) → Ascend (sources groups) → AreSidBlocks before (blocks groups)
lawful_blocks before [] after ascend = tt
lawful_blocks before (g ∷ groups) after ascend =
    let f = ascend_first g.source (sources groups) ascend in
    let count = pair_length g.intervals.items in (
      g.long,
      above_first before g.source (sources groups) after,
      omega (arith, some_length g.intervals.items g.some, count),
      omega (arith, few 0 g.intervals.items g.least (omega arith), count),
      intervals_of_least 0 g.intervals.items g.least,
      lawful_blocks (Some g.source) groups f.0 f.1,
    )

pub encodes : (groups : List Group) → Ascend (sources groups) → length groups < 2 ^ 64 → IsEncoding (ids_of groups) (blocks_bytes (blocks groups))
encodes groups ascend fits = record {
  spans = spans_of groups;
  least = least_list groups ascend;
  lawful = subst (AreSidBlocks None) (sym (grouped_groups groups ascend)) (lawful_blocks None groups tt ascend);
  counted = omega (arith, fits, ap length (grouped_groups groups ascend), length-map groups of_group);
  spelled = ap blocks_bytes (sym (grouped_groups groups ascend));
}

pub appends : (groups all : List Group) (ids : Ids) (old new : List ℕ) → Ascend (sources all) → length all < 2 ^ 64 → groups ≡ all → ids_of all ≡ ids → new ≡ old ++ blocks_bytes (blocks groups) → AppendsEncoding ids old new
appends groups all ids old new ascend fits same is written = record {
  bytes = blocks_bytes (blocks all);
  encodes = subst (λ x. IsEncoding x (blocks_bytes (blocks all))) is (encodes all ascend fits);
  appended = written ∙ ap (λ g. old ++ blocks_bytes (blocks g)) same;
}

pub lacks : (groups all : List Group) (ids : Ids) (len capacity : ℕ) → Ascend (sources all) → length all < 2 ^ 64 → groups ≡ all → ids_of all ≡ ids → capacity < len + length (blocks_bytes (blocks groups)) → LacksRoom ids len capacity
lacks groups all ids len capacity ascend fits same is lacking = record {
  bytes = blocks_bytes (blocks all);
  encodes = subst (λ x. IsEncoding x (blocks_bytes (blocks all))) is (encodes all ascend fits);
  lacks = subst (λ g. capacity < len + length (blocks_bytes (blocks g))) same lacking;
}
