-- The current payload in a stream of packets, under a limit on its length.
use Rattle.std.specs.Prelude.{◌≡◌, ◌≢◌, ℕ, ◌+◌, ◌*◌, ◌%◌, ◌<◌, ◌≤◌, Bool, List, ◌++◌, length, take}
use Rattle.std.specs.List.{AllByRecursion}
use Rattle.wire.specs.Packet.{full_chunk, packets, IsFullChunk, IsPacking}
use Rattle.wire.specs.Header.{IsHeader}

-- the bytes of a payload
abbrev pub Payload : Type 0
Payload = List ℕ

-- The state of a reader of packets: the longest payload that it takes; the sequence id that the first packet of the
-- current payload must have; the bytes of this payload that have come, headers included; and whether a fault has ended
-- the reader.
pub record ReaderState : Type 0 where
  pub limit : ℕ
  pub due : ℕ
  pub held : List ℕ
  pub ended : Bool

-- The bytes are the packing of a payload within the limit, from the expected id.
pub record IsWholePayload (due limit : ℕ) (bytes payload : List ℕ) (next : ℕ) : Type 0 where
  pub packing : IsPacking due payload bytes next
  pub within : length payload ≤ limit

-- After `before` full packets, right and within the limit, the bytes have a whole header, of this length and id.
pub record HasHeader (due limit : ℕ) (bytes : List ℕ) (before size id : ℕ) : Type 0 where
  pub chunks : List (List ℕ)
  pub header : List ℕ
  pub more : List ℕ
  pub full : AllByRecursion IsFullChunk chunks
  pub count : length chunks ≡ before
  pub within : before * full_chunk ≤ limit
  pub is_header : IsHeader size id header
  pub bytes_are : bytes ≡ packets due chunks ++ header ++ more

-- The first wrong header has another id than the expected one.
pub record IsOutOfSequence (due limit : ℕ) (bytes : List ℕ) (want got : ℕ) : Type 0 where
  pub before : ℕ
  pub size : ℕ
  pub header : HasHeader due limit bytes before size got
  pub wanted : want ≡ (due + before) % 256
  pub differs : got ≢ want

-- The first wrong header has the expected id, and brings the sum of the lengths above the limit.
pub record IsTooLarge (due limit : ℕ) (bytes : List ℕ) : Type 0 where
  pub before : ℕ
  pub size : ℕ
  pub header : HasHeader due limit bytes before size ((due + before) % 256)
  pub above : limit < before * full_chunk + size

-- No header of the current payload is wrong, and no prefix of the bytes is a whole payload.
pub record IsUnfinished (due limit : ℕ) (bytes : List ℕ) : Type 0 where
  pub in_sequence : (want got : ℕ) → IsOutOfSequence due limit bytes want got → ⊥
  pub not_too_large : IsTooLarge due limit bytes → ⊥
  pub not_whole : (count : ℕ) (payload : List ℕ) (next : ℕ) → IsWholePayload due limit (take count bytes) payload next → ⊥

-- After the bytes held, and among these that come now, ends a right header that announces at least one byte, for which
-- room is needed.
pub record NeedsRoom (due limit : ℕ) (held bytes : List ℕ) : Type 0 where
  pub before : ℕ
  pub size : ℕ
  pub header : HasHeader due limit (held ++ bytes) before size ((due + before) % 256)
  pub fits : before * full_chunk + size ≤ limit
  pub some : 0 < size
  pub ends_now : length held < before * (full_chunk + 4) + 4
