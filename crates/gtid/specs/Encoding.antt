-- A set of GTIDs as bytes. MySQL Source Documentation, Replication Protocol, COM_BINLOG_DUMP_GTID (the field `data`).
-- Numbers are eight bytes each, the lowest byte first; intervals end one past their last number.
use Rattle.std.specs.Prelude.{◌≡◌, ℕ, ◌+◌, ◌-◌, ◌<◌, ◌^◌, Bool, true, ◌||◌, not, List, [], ◌∷◌, ◌++◌, length, take, drop, map, nat_lt, nat_le, ◌==◌, if◌then◌else◌, Option, Some, None, option_map, find, flat_map}
use Rattle.std.specs.List.{last_or}
use Rattle.std.specs.Str.{bytes_eq}
use Rattle.std.specs.Ordering.{is_lt, nat_cmp}
use Rattle.std.specs.Cmp.Lexicographic.{slice_cmp}
use Rattle.byteorder.specs.Endian.{little_bytes, little_number}
use Rattle.gtid.specs.Identifier.{Ids}
use Rattle.gtid.specs.Span.{IsLeastList}
use Rattle.gtid.specs.declared.span.Span.{Span}
use Rattle.gtid.specs.declared.fault.GtidFault.{GtidFault}
use Rattle.gtid.specs.declared.fault.GtidFault.TheVariants.{Number, Interval, Truncated, Order}

-- a source with its intervals (lo, hi): a block of the list
pub record SidBlock : Type 0 where
  pub source : List ℕ
  pub intervals : List (ℕ × ℕ)

abbrev pub join_block : Span → List SidBlock → List SidBlock
join_block s [] = record { source = s.source; intervals = (s.lo, s.hi) ∷ [] } ∷ []
join_block s (block ∷ blocks) =
    if bytes_eq s.source block.source then record { source = block.source; intervals = (s.lo, s.hi) ∷ block.intervals } ∷ blocks
    else record { source = s.source; intervals = (s.lo, s.hi) ∷ [] } ∷ (block ∷ blocks)

-- the spans, with consecutive ones of one source together
abbrev pub grouped : List Span → List SidBlock
grouped [] = []
grouped (s ∷ spans) = join_block s (grouped spans)

abbrev pub interval_bytes : ℕ × ℕ → List ℕ
interval_bytes i = little_bytes 8 i.0 ++ little_bytes 8 i.1

-- a source's 16 bytes, the number of its intervals, and the intervals
abbrev pub block_bytes : SidBlock → List ℕ
block_bytes block = block.source ++ little_bytes 8 (length block.intervals) ++ flat_map interval_bytes block.intervals

-- the number of sources, and the sources
abbrev pub blocks_bytes : List SidBlock → List ℕ
blocks_bytes blocks = little_bytes 8 (length blocks) ++ flat_map block_bytes blocks

-- ---- The first fault of bytes that do not begin with an encoding, from left to right.

-- the first line of a table of tests that holds
abbrev pub first_fault : List (Bool × GtidFault) → Option GtidFault
first_fault table = option_map (λ line. line.1) (find (λ line. line.0) table)

-- what can be wrong with an interval after one that ended at `after` (0 before the first)
abbrev pub interval_fault : ℕ → List ℕ → Option GtidFault
interval_fault after bytes =
    let lo = little_number 8 bytes in
    let hi = little_number 8 (drop 8 bytes) in
    first_fault (
    (nat_lt (length bytes) 16, Truncated)
    ∷ ((lo == 0) || nat_lt (2 ^ 63 - 1) hi, Number)
    ∷ (nat_le hi lo, Interval)
    ∷ (nat_le lo after, Order)
    ∷ [])

-- the bytes are above those of the source before, if there is one
abbrev pub is_above : Option (List ℕ) → List ℕ → Bool
is_above None source = true
is_above (Some before) source = is_lt (slice_cmp nat_cmp before source)

-- what can be wrong with a source and the number of its intervals
abbrev pub source_fault : Option (List ℕ) → List ℕ → Option GtidFault
source_fault before bytes =
    first_fault (
    (nat_lt (length bytes) 16, Truncated)
    ∷ (not (is_above before (take 16 bytes)), Order)
    ∷ (nat_lt (length bytes) 24, Truncated)
    ∷ (little_number 8 (drop 16 bytes) == 0, Interval)
    ∷ [])

-- where the last interval ends
abbrev pub last_hi : List (ℕ × ℕ) → ℕ
last_hi [] = 0
last_hi (i ∷ []) = i.1
last_hi (i ∷ j ∷ intervals) = last_hi (j ∷ intervals)

abbrev pub last_source : List SidBlock → Option (List ℕ)
last_source blocks = last_or None (map (λ block. block.source) blocks)

-- lawful intervals: in range, not empty, ascending with gaps
abbrev pub AreIntervals : ℕ → List (ℕ × ℕ) → Type 0
AreIntervals after [] = Unit {0}
AreIntervals after (i ∷ intervals) = (after < i.0) × (i.0 < i.1) × (i.1 < 2 ^ 63) × AreIntervals i.1 intervals

-- lawful blocks: ascending sources of 16 bytes, each with at least one interval
abbrev pub AreSidBlocks : Option (List ℕ) → List SidBlock → Type 0
AreSidBlocks before [] = Unit {0}
AreSidBlocks before (block ∷ blocks) =
    (length block.source ≡ 16) × (is_above before block.source ≡ true) × (0 < length block.intervals) × (length block.intervals < 2 ^ 64)
    × AreIntervals 0 block.intervals × AreSidBlocks (Some block.source) blocks

-- The bytes encode the set: they are its least intervals, which are lawful, and the number of sources fits in eight
-- bytes.
pub record IsEncoding (ids : Ids) (bytes : List ℕ) : Type 0 where
  pub spans : List Span
  pub least : IsLeastList spans ids
  pub lawful : AreSidBlocks None (grouped spans)
  pub counted : length (grouped spans) < 2 ^ 64
  pub spelled : bytes ≡ blocks_bytes (grouped spans)

-- The bytes begin with an encoding of some set.
pub record BeginsWithEncoding (bytes : List ℕ) : Type 0 where
  pub ids : Ids
  pub encoding : List ℕ
  pub rest : List ℕ
  pub encodes : IsEncoding ids encoding
  pub bytes_are : bytes ≡ encoding ++ rest

-- The new bytes are the old ones and then an encoding of the set.
pub record AppendsEncoding (ids : Ids) (old new : List ℕ) : Type 0 where
  pub bytes : List ℕ
  pub encodes : IsEncoding ids bytes
  pub appended : new ≡ old ++ bytes

-- A vector of this length and this capacity lacks the room for the encoding of the set.
pub record LacksRoom (ids : Ids) (len capacity : ℕ) : Type 0 where
  pub bytes : List ℕ
  pub encodes : IsEncoding ids bytes
  pub lacks : capacity < len + length bytes

-- After some lawful sources, fewer than the first number says, the next one is at fault.
pub record FaultsAtSource (bytes : List ℕ) (fault : GtidFault) : Type 0 where
  pub count : ℕ
  pub blocks : List SidBlock
  pub rest : List ℕ
  pub lawful : AreSidBlocks None blocks
  pub counted : (length blocks < count) × (count < 2 ^ 64)
  pub bytes_are : bytes ≡ little_bytes 8 count ++ flat_map block_bytes blocks ++ rest
  pub faulty : source_fault (last_source blocks) rest ≡ Some fault

-- After some lawful sources comes one that is not at fault, but after some of its intervals, which are lawful, the next
-- one is.
pub record FaultsAtInterval (bytes : List ℕ) (fault : GtidFault) : Type 0 where
  pub count : ℕ
  pub blocks : List SidBlock
  pub source : List ℕ
  pub size : ℕ
  pub intervals : List (ℕ × ℕ)
  pub rest : List ℕ
  pub lawful : AreSidBlocks None blocks
  pub counted : (length blocks < count) × (count < 2 ^ 64)
  pub above : (length source ≡ 16) × (is_above (last_source blocks) source ≡ true)
  pub some : (length intervals < size) × (size < 2 ^ 64)
  pub so_far : AreIntervals 0 intervals
  pub bytes_are : bytes ≡ little_bytes 8 count ++ flat_map block_bytes blocks ++ source ++ little_bytes 8 size ++ flat_map interval_bytes intervals ++ rest
  pub faulty : interval_fault (last_hi intervals) rest ≡ Some fault

-- the first fault of the bytes
pub data IsDecodeFault (bytes : List ℕ) : GtidFault → Type 0 where
  no_count : length bytes < 8 → IsDecodeFault bytes Truncated
  at_source : (fault : GtidFault) → FaultsAtSource bytes fault → IsDecodeFault bytes fault
  at_interval : (fault : GtidFault) → FaultsAtInterval bytes fault → IsDecodeFault bytes fault

-- The bytes begin with a lawful interval.
pub record HasInterval (bytes : List ℕ) : Type 0 where
  pub lo : ℕ
  pub hi : ℕ
  pub rest : List ℕ
  pub lawful : (0 < lo) × (lo < hi) × (hi < 2 ^ 63)
  pub bytes_are : bytes ≡ interval_bytes (lo, hi) ++ rest

-- The bytes begin with a source, the number of its intervals, which is not 0, and a lawful interval.
pub record HasSource (bytes : List ℕ) : Type 0 where
  pub source : List ℕ
  pub size : ℕ
  pub rest : List ℕ
  pub long : length source ≡ 16
  pub some : 0 < size
  pub bytes_are : bytes ≡ source ++ little_bytes 8 size ++ rest
  pub first : HasInterval rest

-- The bytes begin with the number of sources, which is not 0, and a source whose first interval is lawful.
pub record HasFirstInterval (bytes : List ℕ) : Type 0 where
  pub count : ℕ
  pub rest : List ℕ
  pub some : 0 < count
  pub bytes_are : bytes ≡ little_bytes 8 count ++ rest
  pub first : HasSource rest

-- The bytes have a fault.
pub record HasDecodeFault (bytes : List ℕ) : Type 0 where
  pub fault : GtidFault
  pub is_fault : IsDecodeFault bytes fault
