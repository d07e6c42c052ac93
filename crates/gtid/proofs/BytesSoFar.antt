-- What is read of bytes, so far.
use Rattle.gtid.proofs.Names.{◌≡◌, ℕ, suc, ◌+◌, ◌<◌, ◌⊎◌, inl, inr, ◌^◌, List, [], ◌∷◌, ◌++◌, length, map, flat_map, append_assoc, refl, ap, sym, subst, ◌∙◌, arith, Option, Some, None, true, last_or, length-append, AreLeast, little_bytes, SidBlock, interval_bytes, block_bytes, blocks_bytes, interval_fault, is_above, last_hi, last_source, AreIntervals, AreSidBlocks, IsDecodeFault, at_source, at_interval, Truncated, Memory, of_group, Group, Interval, GtidFault}
use Rattle.gtid.specs.Encoding.{HasInterval, HasSource, HasFirstInterval}
use Rattle.gtid.specs.Encoding.IsDecodeFault.{no_count}
use Rattle.gtid.specs.Blocks.{pair, blocks}
use Rattle.gtid.specs.Decoding.{FaultsInIntervals, FaultsInBlock, IsBlockFault}
use Rattle.gtid.proofs.IntervalUnion.{last_end}

-- one item more, and its bytes
pub more_spelled : {X Y : Type 0} (f : Y → List ℕ) (of : X → Y) (items : List X) (x : X) (beyond : List ℕ) →
    flat_map f (map of (items ++ x ∷ [])) ++ beyond ≡ flat_map f (map of items) ++ (f (of x) ++ beyond)
more_spelled f of [] x beyond = append_assoc (f (of x)) [] beyond
more_spelled f of (y ∷ items) x beyond =
    append_assoc (f (of y)) (flat_map f (map of (items ++ x ∷ []))) beyond
    ∙ ap (λ l. f (of y) ++ l) (more_spelled f of items x beyond)
    ∙ sym (append_assoc (f (of y)) (flat_map f (map of items)) (f (of x) ++ beyond))

pub one_more : {X : Type 0} (items : List X) (x : X) (n : ℕ) → length items ≡ n → length (items ++ x ∷ []) ≡ n + 1
one_more items x n is = length-append items (x ∷ []) ∙ ap (λ k. k + 1) is

-- ---- Intervals.

end_is : (i : Interval) (intervals : List Interval) → last_hi (map pair (i ∷ intervals)) ≡ last_end i.hi intervals
end_is i [] = refl
end_is i (j ∷ intervals) = end_is j intervals

pub ends_at : (intervals : List Interval) → last_hi (map pair intervals) ≡ last_end 0 intervals
ends_at [] = refl
ends_at (i ∷ intervals) = end_is i intervals

pub intervals_of_least : (after : ℕ) (intervals : List Interval) → AreLeast after intervals → AreIntervals after (map pair intervals)
intervals_of_least after [] least = tt
intervals_of_least after (i ∷ intervals) least = (least.0, least.1, least.2, intervals_of_least i.hi intervals least.3)

least_push : (after : ℕ) (intervals : List Interval) (i : Interval) → AreLeast after intervals → last_end after intervals < i.lo → i.lo < i.hi → i.hi < 2 ^ 63 → AreLeast after (intervals ++ i ∷ [])
least_push after [] i least above some in_range = (above, some, in_range, tt)
least_push after (j ∷ intervals) i least above some in_range = (least.0, least.1, least.2, least_push j.hi intervals i least.3 above some in_range)

last_push : (after : ℕ) (intervals : List Interval) (i : Interval) → last_end after (intervals ++ i ∷ []) ≡ i.hi
last_push after [] i = refl
last_push after (j ∷ intervals) i = last_push j.hi intervals i

pub length_map : {X Y : Type 0} (f : X → Y) (items : List X) → length (map f items) ≡ length items
length_map f [] = refl
length_map f (x ∷ items) = ap suc (length_map f items)

-- The first intervals of the bytes are read, and this is left of them.
pub record ReadIntervals (intervals : List Interval) (count after : ℕ) (rest bytes : List ℕ) : Type 0 where
  pub least : AreLeast 0 intervals
  pub counted : length intervals ≡ count
  pub ended : last_end 0 intervals ≡ after
  pub split : bytes ≡ flat_map interval_bytes (map pair intervals) ++ rest

pub no_intervals : (intervals : List Interval) (bytes : List ℕ) → intervals ≡ [] → ReadIntervals intervals 0 0 bytes bytes
no_intervals intervals bytes none = rw none (record { least = tt; counted = refl; ended = refl; split = refl })

pub more_intervals : (intervals new : List Interval) (i : Interval) (count after : ℕ) (rest beyond bytes : List ℕ) → ReadIntervals intervals count after rest bytes →
    after < i.lo → i.lo < i.hi → i.hi < 2 ^ 63 → rest ≡ interval_bytes (pair i) ++ beyond → new ≡ intervals ++ i ∷ [] → ReadIntervals new (count + 1) i.hi beyond bytes
more_intervals intervals new i count after rest beyond bytes r above some in_range split is = rw is (record {
  least = least_push 0 intervals i r.least (omega (arith, r.ended)) some in_range;
  counted = one_more intervals i count r.counted;
  ended = last_push 0 intervals i;
  split = r.split ∙ ap (λ l. flat_map interval_bytes (map pair intervals) ++ l) split ∙ sym (more_spelled interval_bytes pair intervals i beyond);
})

pub interval_faults : (intervals : List Interval) (count size after : ℕ) (rest bytes : List ℕ) (fault : GtidFault) → ReadIntervals intervals count after rest bytes → count < size →
    interval_fault after rest ≡ Some fault → FaultsInIntervals size bytes fault
interval_faults intervals count size after rest bytes fault r fewer faulty = record {
  intervals = map pair intervals;
  rest = rest;
  some = omega (arith, length_map pair intervals, r.counted);
  so_far = intervals_of_least 0 intervals r.least;
  bytes_are = r.split;
  faulty = ap (λ e. interval_fault e rest) (ends_at intervals ∙ r.ended) ∙ faulty;
}

-- the first interval, of those that are read or after them
pub interval_first : (intervals : List Interval) (i : Interval) (count after : ℕ) (rest beyond bytes : List ℕ) → ReadIntervals intervals count after rest bytes →
    after < i.lo → i.lo < i.hi → i.hi < 2 ^ 63 → rest ≡ interval_bytes (pair i) ++ beyond → HasInterval bytes
interval_first [] i count after rest beyond bytes r above some in_range split =
    record { lo = i.lo; hi = i.hi; rest = beyond; lawful = (omega (arith, above), some, in_range); bytes_are = r.split ∙ split }
interval_first (j ∷ intervals) i count after rest beyond bytes r above some in_range split = record {
  lo = j.lo;
  hi = j.hi;
  rest = flat_map interval_bytes (map pair intervals) ++ rest;
  lawful = (r.least.0, r.least.1, r.least.2);
  bytes_are = r.split ∙ append_assoc (interval_bytes (pair j)) (flat_map interval_bytes (map pair intervals)) rest;
}

-- ---- Blocks.

block_first : (source : List ℕ) (intervals : List (ℕ × ℕ)) (rest bytes : List ℕ) → length source ≡ 16 → 0 < length intervals → AreIntervals 0 intervals →
    bytes ≡ block_bytes (record { source = source; intervals = intervals }) ++ rest → HasSource bytes
block_first source [] rest bytes long some lawful split = absurd (omega (arith, some))
block_first source (i ∷ intervals) rest bytes long some lawful split = record {
  source = source;
  size = length (i ∷ intervals);
  rest = flat_map interval_bytes (i ∷ intervals) ++ rest;
  long = long;
  some = some;
  bytes_are = split ∙ append_assoc (source ++ little_bytes 8 (length (i ∷ intervals))) (flat_map interval_bytes (i ∷ intervals)) rest;
  first = record {
    lo = i.0;
    hi = i.1;
    rest = flat_map interval_bytes intervals ++ rest;
    lawful = (lawful.0, lawful.1, lawful.2);
    bytes_are = append_assoc (interval_bytes i) (flat_map interval_bytes intervals) rest;
  };
}

-- what `block` says of a block, and of a group
pub lawful_block : (before : Option (List ℕ)) (source : List ℕ) (intervals : List Interval) (size : ℕ) → length source ≡ 16 → is_above before source ≡ true → 0 < size → size < 2 ^ 64 →
    length intervals ≡ size → AreLeast 0 intervals → AreSidBlocks before (record { source = source; intervals = map pair intervals } ∷ [])
lawful_block before source intervals size long above some fits count least =
    (long, above, omega (arith, length_map pair intervals, count), omega (arith, length_map pair intervals, count), intervals_of_least 0 intervals least, tt)

block_faults : (before : Option (List ℕ)) (source : List ℕ) (size : ℕ) (beyond bytes : List ℕ) (fault : GtidFault) → length source ≡ 16 → is_above before source ≡ true → size < 2 ^ 64 →
    bytes ≡ source ++ little_bytes 8 size ++ beyond → FaultsInIntervals size beyond fault → FaultsInBlock before bytes fault
block_faults before source size beyond bytes fault long above fits split faulty =
    record { source = source; size = size; after = beyond; above = (long, above); fits = fits; bytes_are = split; faulty = faulty }

pub faults_within : (before : Option (List ℕ)) (source : List ℕ) (size : ℕ) (beyond bytes : List ℕ) (fault : GtidFault) → length source ≡ 16 → is_above before source ≡ true → size < 2 ^ 64 →
    bytes ≡ source ++ little_bytes 8 size ++ beyond → (fault ≡ Memory) ⊎ FaultsInIntervals size beyond fault → (fault ≡ Memory) ⊎ IsBlockFault before bytes fault
faults_within before source size beyond bytes fault long above fits split (inl memory) = inl memory
faults_within before source size beyond bytes fault long above fits split (inr faulty) = inr (inr (block_faults before source size beyond bytes fault long above fits split faulty))

abbrev source_of : SidBlock → List ℕ
source_of block = block.source

lawful_push : (before : Option (List ℕ)) (some : List SidBlock) (block : SidBlock) → AreSidBlocks before some → AreSidBlocks (last_or before (map source_of some)) (block ∷ []) → AreSidBlocks before (some ++ block ∷ [])
lawful_push before [] block lawful last = last
lawful_push before (b ∷ some) block lawful last =
    (lawful.0, lawful.1, lawful.2, lawful.3, lawful.4, lawful_push (Some b.source) some block lawful.5 last)

last_source_push : (before : Option (List ℕ)) (some : List SidBlock) (block : SidBlock) → last_or before (map source_of (some ++ block ∷ [])) ≡ Some block.source
last_source_push before [] block = refl
last_source_push before (b ∷ some) block = last_source_push (Some b.source) some block

blocks_push : (groups : List Group) (g : Group) → blocks (groups ++ g ∷ []) ≡ blocks groups ++ of_group g ∷ []
blocks_push [] g = refl
blocks_push (h ∷ groups) g = ap (λ bs. of_group h ∷ bs) (blocks_push groups g)

-- The first groups of the bytes are read, and this is left of them.
pub record ReadGroups (groups : List Group) (count : ℕ) (before : Option (List ℕ)) (rest bytes : List ℕ) : Type 0 where
  pub lawful : AreSidBlocks None (blocks groups)
  pub counted : length groups ≡ count
  pub last : last_source (blocks groups) ≡ before
  pub split : bytes ≡ flat_map block_bytes (blocks groups) ++ rest

pub no_groups_read : (groups : List Group) (bytes : List ℕ) → groups ≡ [] → ReadGroups groups 0 None bytes bytes
no_groups_read groups bytes none = rw none (record { lawful = tt; counted = refl; last = refl; split = refl })

pub more_groups : (groups new : List Group) (g : Group) (count : ℕ) (before : Option (List ℕ)) (rest beyond bytes : List ℕ) → ReadGroups groups count before rest bytes →
    AreSidBlocks before (of_group g ∷ []) → rest ≡ block_bytes (of_group g) ++ beyond → new ≡ groups ++ g ∷ [] → ReadGroups new (count + 1) (Some g.source) beyond bytes
more_groups groups new g count before rest beyond bytes r lawful split is = rw is (record {
  lawful = subst (AreSidBlocks None) (sym (blocks_push groups g)) (lawful_push None (blocks groups) (of_group g) r.lawful (subst (λ b. AreSidBlocks b (of_group g ∷ [])) (sym r.last) lawful));
  counted = one_more groups g count r.counted;
  last = ap last_source (blocks_push groups g) ∙ last_source_push None (blocks groups) (of_group g);
  split = r.split ∙ ap (λ l. flat_map block_bytes (blocks groups) ++ l) split ∙ sym (more_spelled block_bytes of_group groups g beyond);
})

-- the first source, of those that are read or after them
pub group_first : (groups : List Group) (count : ℕ) (before : Option (List ℕ)) (rest bytes : List ℕ) → ReadGroups groups count before rest bytes → HasSource rest → HasSource bytes
group_first [] count before rest bytes r next = subst HasSource (sym r.split) next
group_first (g ∷ groups) count before rest bytes r next =
    block_first g.source (map pair g.intervals.items) (flat_map block_bytes (blocks groups) ++ rest) bytes r.lawful.0 r.lawful.2 r.lawful.4
    (r.split ∙ append_assoc (block_bytes (of_group g)) (flat_map block_bytes (blocks groups)) rest)

pub group_read : (groups : List Group) (g : Group) (count : ℕ) (before : Option (List ℕ)) (rest beyond bytes : List ℕ) → ReadGroups groups count before rest bytes →
    AreSidBlocks before (of_group g ∷ []) → rest ≡ block_bytes (of_group g) ++ beyond → HasSource bytes
group_read groups g count before rest beyond bytes r lawful split =
    group_first groups count before rest bytes r (block_first g.source (map pair g.intervals.items) beyond rest lawful.0 lawful.2 lawful.4 split)

pub has_first : (count : ℕ) (rest bytes : List ℕ) → 0 < count → bytes ≡ little_bytes 8 count ++ rest → HasSource rest → HasFirstInterval bytes
has_first count rest bytes some split first = record { count = count; rest = rest; some = some; bytes_are = split; first = first }

pub faults_too_short : (bytes : List ℕ) → length bytes < 8 → IsDecodeFault bytes Truncated
faults_too_short bytes short = no_count short

flatten : (a b c d e f : List ℕ) → a ++ (b ++ ((c ++ d) ++ (e ++ f))) ≡ ((((a ++ b) ++ c) ++ d) ++ e) ++ f
flatten a b c d e f = simp append_assoc

-- After lawful blocks, fewer than are to be, the next is at fault.
pub next_faults : (some : List SidBlock) (count : ℕ) (rest bytes : List ℕ) (fault : GtidFault) → AreSidBlocks None some → length some < count → count < 2 ^ 64 →
    bytes ≡ little_bytes 8 count ++ (flat_map block_bytes some ++ rest) → IsBlockFault (last_source some) rest fault → IsDecodeFault bytes fault
next_faults some count rest bytes fault lawful fewer fits split (inl faulty) = at_source fault (record {
  count = count;
  blocks = some;
  rest = rest;
  lawful = lawful;
  counted = (fewer, fits);
  bytes_are = split ∙ sym (append_assoc (little_bytes 8 count) (flat_map block_bytes some) rest);
  faulty = faulty;
})
next_faults some count rest bytes fault lawful fewer fits split (inr b) =
    let i = b.faulty in
    at_interval fault (record {
      count = count;
      blocks = some;
      source = b.source;
      size = b.size;
      intervals = i.intervals;
      rest = i.rest;
      lawful = lawful;
      counted = (fewer, fits);
      above = b.above;
      some = (i.some, b.fits);
      so_far = i.so_far;
      bytes_are = split
          ∙ ap (λ l. little_bytes 8 count ++ (flat_map block_bytes some ++ l)) (b.bytes_are ∙ ap (λ l. b.source ++ little_bytes 8 b.size ++ l) i.bytes_are)
          ∙ flatten (little_bytes 8 count) (flat_map block_bytes some) b.source (little_bytes 8 b.size) (flat_map interval_bytes i.intervals) i.rest;
      faulty = i.faulty;
    })

group_faults : (groups : List Group) (done count : ℕ) (before : Option (List ℕ)) (rest beyond bytes : List ℕ) (fault : GtidFault) → ReadGroups groups done before rest beyond →
    done < count → count < 2 ^ 64 → bytes ≡ little_bytes 8 count ++ beyond → IsBlockFault before rest fault → IsDecodeFault bytes fault
group_faults groups done count before rest beyond bytes fault r fewer fits split faulty =
    next_faults (blocks groups) count rest bytes fault r.lawful (omega (arith, length_map of_group groups, r.counted)) fits (split ∙ ap (λ l. little_bytes 8 count ++ l) r.split)
    (subst (λ b. IsBlockFault b rest fault) (sym r.last) faulty)

pub groups_fault : (groups : List Group) (done count : ℕ) (before : Option (List ℕ)) (rest beyond bytes : List ℕ) (fault : GtidFault) → ReadGroups groups done before rest beyond →
    done < count → count < 2 ^ 64 → bytes ≡ little_bytes 8 count ++ beyond → (fault ≡ Memory) ⊎ IsBlockFault before rest fault → (fault ≡ Memory) ⊎ IsDecodeFault bytes fault
groups_fault groups done count before rest beyond bytes fault r fewer fits split (inl memory) = inl memory
groups_fault groups done count before rest beyond bytes fault r fewer fits split (inr faulty) = inr (group_faults groups done count before rest beyond bytes fault r fewer fits split faulty)

pub all_groups : (groups : List Group) (done count : ℕ) (before : Option (List ℕ)) (rest beyond bytes : List ℕ) → ReadGroups groups done before rest beyond → done ≡ count → bytes ≡ little_bytes 8 count ++ beyond →
    bytes ≡ blocks_bytes (blocks groups) ++ rest
all_groups groups done count before rest beyond bytes r all split =
    split
    ∙ (λ i. little_bytes 8 (sym (length_map of_group groups ∙ r.counted ∙ all) i) ++ r.split i)
    ∙ sym (append_assoc (little_bytes 8 (length (blocks groups))) (flat_map block_bytes (blocks groups)) rest)
