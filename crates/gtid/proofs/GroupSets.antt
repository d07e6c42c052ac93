-- The set of the groups that were read.
use Rattle.gtid.proofs.Names.{◌≡◌, ℕ, ◌-◌, ◌<◌, ◌≤◌, ◌^◌, ◌⊎◌, inl, inr, Bool, true, false, if◌then◌else◌, List, [], ◌∷◌, ◌++◌, length, map, flat_map, take, Option, Some, None, refl, ap, sym, subst, ◌∙◌, arith, length-append, length-map, take-append-drop, bytes_eq-Decides, list_any, bytes_eq, Ordering, Less, Equal, Greater, is_lt, nat_cmp, slice_cmp, Ids, IsLeastList, spans_of, Span, GtidFault, Memory, Ascend, IsBelow, of_group, SidBlock, join_block, blocks_bytes, AreSidBlocks, IsEncoding, IsDecodeFault, Group}
use Rattle.std.proofs.Common.{drop, length-drop}
use Rattle.std.proofs.Math.Seq.{take-append_seam}
use Rattle.std.specs.FinSet as set
use Rattle.gtid.specs.Span.{is_in}
use Rattle.gtid.specs.Group.{sources, ids_of}
use Rattle.gtid.specs.Blocks.{blocks}
use Rattle.gtid.specs.Encoding.{grouped}
use Rattle.gtid.proofs.GroupMerge.{ascend_nil, ascend_cons, below_all}
use Rattle.gtid.proofs.SpansBySource.{grouped_groups, encodes}
use Rattle.gtid.proofs.LeastList.{least_list}
use Rattle.gtid.proofs.OneEncoding.{one_encoding, no_fault}
use Rattle.gtid.proofs.Sets.{id_cmp_total, id_cmp-same}

pub less_from : (o : Ordering) → is_lt o ≡ true → o ≡ Less
less_from Less e = refl
less_from Equal e = absurd (Prim.cc)
less_from Greater e = absurd (Prim.cc)

below_blocks : (s : List ℕ) (groups : List Group) → AreSidBlocks (Some s) (blocks groups) → IsBelow s (sources groups)
below_blocks s [] lawful = tt
below_blocks s (g ∷ groups) lawful =
    let less = less_from (slice_cmp nat_cmp s g.source) lawful.1 in
    (less, below_all s g.source (sources groups) less (below_blocks g.source groups lawful.5))

-- the sources of lawful blocks ascend
pub ascend_blocks : (before : Option (List ℕ)) (groups : List Group) → AreSidBlocks before (blocks groups) → Ascend (sources groups)
ascend_blocks before [] lawful = ascend_nil
ascend_blocks before (g ∷ groups) lawful = ascend_cons g.source (sources groups) (below_blocks g.source groups lawful.5) (ascend_blocks (Some g.source) groups lawful.5)

front : (a x bytes : List ℕ) (used : ℕ) → bytes ≡ a ++ x → used ≡ length bytes - length x → take used bytes ≡ a
front a x bytes used split is =
    let long : used ≡ length a = omega (arith, ap length split, length-append a x) in
    (λ i. take (long i) (split i)) ∙ take-append_seam a x

pub found_encoding : (groups : List Group) (rest bytes : List ℕ) (used : ℕ) → AreSidBlocks None (blocks groups) → length groups < 2 ^ 64 → bytes ≡ blocks_bytes (blocks groups) ++ rest → used ≡ length bytes - length rest →
    IsEncoding (ids_of groups) (take used bytes)
found_encoding groups rest bytes used lawful fits split is =
    subst (IsEncoding (ids_of groups)) (sym (front (blocks_bytes (blocks groups)) rest bytes used split is)) (encodes groups (ascend_blocks None groups lawful) fits)

-- ---- One set, and one number of bytes.

abbrev pub span_of : List ℕ → ℕ × ℕ → Span
span_of source i = record { source = source; lo = i.0; hi = i.1 }

abbrev pub spans_of_block : SidBlock → List Span
spans_of_block b = map (span_of b.source) b.intervals

joined : (s : Span) (some : List SidBlock) → flat_map spans_of_block (join_block s some) ≡ s ∷ flat_map spans_of_block some
joined s [] = refl
joined s (b ∷ some) = by_source (bytes_eq s.source b.source) refl
  where
    same : List SidBlock
    same = record { source = b.source; intervals = (s.lo, s.hi) ∷ b.intervals } ∷ some

    apart : List SidBlock
    apart = record { source = s.source; intervals = (s.lo, s.hi) ∷ [] } ∷ (b ∷ some)

    by_source : (e : Bool) → bytes_eq s.source b.source ≡ e → flat_map spans_of_block (join_block s (b ∷ some)) ≡ s ∷ flat_map spans_of_block (b ∷ some)
    by_source false is = ap (λ c. flat_map spans_of_block (if c then same else apart)) is
    by_source true is =
        ap (λ c. flat_map spans_of_block (if c then same else apart)) is ∙ ap (λ t. span_of t (s.lo, s.hi) ∷ flat_map spans_of_block (b ∷ some)) (sym ((bytes_eq-Decides s.source b.source).0 is))

pub ungrouped : (spans : List Span) → flat_map spans_of_block (grouped spans) ≡ spans
ungrouped [] = refl
ungrouped (s ∷ spans) = joined s (grouped spans) ∙ ap (λ l. s ∷ l) (ungrouped spans)

pub one_set : (a b : List Span) (x y : Ids) → IsLeastList a x → IsLeastList b y → a ≡ b → x ≡ y
one_set a b x y left right same =
    set.same_set id_cmp_total id_cmp-same x y (λ q. left.covers q ∙ ap (λ l. list_any (is_in q) l) same ∙ sym (right.covers q))

at_front : (ids : Ids) (n : ℕ) (bytes : List ℕ) (e : IsEncoding ids (take n bytes)) → bytes ≡ blocks_bytes (grouped e.spans) ++ drop n bytes
at_front ids n bytes e = sym (take-append-drop n bytes) ∙ ap (λ l. l ++ drop n bytes) e.spelled

pub only_found : (groups : List Group) (rest bytes : List ℕ) (used : ℕ) → AreSidBlocks None (blocks groups) → length groups < 2 ^ 64 → bytes ≡ blocks_bytes (blocks groups) ++ rest → used ≡ length bytes - length rest →
    (ids : Ids) (n : ℕ) → n ≤ length bytes → IsEncoding ids (take n bytes) → ◌≡◌ {A = Ids × ℕ} (ids_of groups, used) (ids, n)
only_found groups rest bytes used lawful fits split is ids n short e =
    let other = at_front ids n bytes e in
    let o = one_encoding (blocks groups) (grouped e.spans) rest (drop n bytes) lawful e.lawful (omega (arith, fits, length-map groups of_group)) e.counted (sym split ∙ other) in
    let ascend = ascend_blocks None groups lawful in
    let spans : spans_of groups ≡ e.spans = sym (ungrouped (spans_of groups)) ∙ ap (flat_map spans_of_block) (grouped_groups groups ascend ∙ o.0) ∙ ungrouped e.spans in
    let ids_are : ids_of groups ≡ ids = one_set (spans_of groups) e.spans (ids_of groups) ids (least_list groups ascend) e.least spans in
    let used_is : used ≡ n = omega (arith, ap length o.1, length-append (blocks_bytes (grouped e.spans)) (drop n bytes), length-drop n bytes, ap length other, is) in
    (λ i. (ids_are i, used_is i))

pub only_fault : (bytes : List ℕ) (fault : GtidFault) → (fault ≡ Memory) ⊎ IsDecodeFault bytes fault → (ids : Ids) (n : ℕ) → IsEncoding ids (take n bytes) → fault ≡ Memory
only_fault bytes fault (inl memory) ids n e = memory
only_fault bytes fault (inr faulty) ids n e =
    absurd (no_fault (grouped e.spans) (drop n bytes) bytes fault e.lawful e.counted (at_front ids n bytes e) faulty)

-- two encodings at the front of the same bytes
pub one_front : (a b : Ids) (bytes others x y : List ℕ) → IsEncoding a bytes → IsEncoding b others → bytes ++ x ≡ others ++ y → (a ≡ b) × (bytes ≡ others)
one_front a b bytes others x y is_a is_b same =
    let first : bytes ++ x ≡ blocks_bytes (grouped is_a.spans) ++ x = ap (λ l. l ++ x) is_a.spelled in
    let second : bytes ++ x ≡ blocks_bytes (grouped is_b.spans) ++ y = same ∙ ap (λ l. l ++ y) is_b.spelled in
    let o = one_encoding (grouped is_a.spans) (grouped is_b.spans) x y is_a.lawful is_b.lawful is_a.counted is_b.counted (sym first ∙ second) in
    let spans : is_a.spans ≡ is_b.spans = sym (ungrouped is_a.spans) ∙ ap (flat_map spans_of_block) o.0 ∙ ungrouped is_b.spans in
    (one_set is_a.spans is_b.spans a b is_a.least is_b.least spans, is_a.spelled ∙ ap blocks_bytes o.0 ∙ sym is_b.spelled)

pub no_fault_at_front : (ids : Ids) (bytes more : List ℕ) (fault : GtidFault) → IsEncoding ids bytes → IsDecodeFault (bytes ++ more) fault → ⊥
no_fault_at_front ids bytes more fault is =
    no_fault (grouped is.spans) more (bytes ++ more) fault is.lawful is.counted (ap (λ l. l ++ more) is.spelled)
