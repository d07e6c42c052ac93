-- What the fields of an unpacker stand for: the bytes of the current payload that have come.
use Rattle.std.specs.Prelude.{◌≡◌, ℕ, zero, suc, ◌+◌, ◌*◌, ◌%◌, ◌<◌, ◌≤◌, ◌⊎◌, List, [], ◌∷◌, ◌++◌, length, take, drop, vec_len, vec_capacity}
use Rattle.wire.specs.Packet.{full_chunk, packets}
use Rattle.wire.specs.Header.{IsHeader}
use Rattle.wire.specs.declared.unpacker.Unpacker.{Unpacker}

-- the first n full chunks of the bytes
abbrev pub full_chunks : ℕ → List ℕ → List (List ℕ)
full_chunks zero bytes = []
full_chunks (suc n) bytes = take full_chunk bytes ∷ full_chunks n (drop full_chunk bytes)

-- the bytes of the current packet that have come
abbrev pub at_hand : Unpacker → List ℕ
at_hand u = take u.filled u.header ++ drop (u.full * full_chunk) u.payload.items

-- all bytes of the payload that have come: the full packets, and then the current one
unfoldable pub held_of : Unpacker → List ℕ
held_of u = packets u.due (full_chunks u.full u.payload.items) ++ at_hand u

-- Less than a header has come of the current packet.
pub record IsInHeader (u : Unpacker) : Type 0 where
  pub sized : length u.header ≡ 4
  pub open_header : u.filled < 4
  pub whole_chunks : length u.payload.items ≡ u.full * full_chunk
  pub within : length u.payload.items ≤ u.limit

-- The header of the current packet has come and is right, and `left` bytes of its chunk are still to come. If none are,
-- the chunk is shorter than a full one. There is room for them.
pub record IsInChunk (u : Unpacker) : Type 0 where
  pub size : ℕ
  pub whole_header : u.filled ≡ 4
  pub header : IsHeader size ((u.due + u.full) % 256) u.header
  pub sum : length u.payload.items + u.left ≡ u.full * full_chunk + size
  pub left : u.left ≤ size
  pub short : u.left ≡ 0 → size < full_chunk
  pub within : length u.payload.items + u.left ≤ u.limit
  pub room : vec_len u.payload + u.left ≤ vec_capacity u.payload

abbrev pub IsUnpacking : Unpacker → Type 0
IsUnpacking u = IsInHeader u ⊎ IsInChunk u

-- the last packet of the payload has come
abbrev pub IsComplete : Unpacker → Type 0
IsComplete u = (u.filled ≡ 4) × (u.left ≡ 0)

-- `used` of the bytes were taken, and nothing was wrong with them.
pub record Consumes (old new : Unpacker) (bytes : List ℕ) (used : ℕ) : Type 0 where
  pub in_range : used ≤ length bytes
  pub limit : new.limit ≡ old.limit
  pub due : new.due ≡ old.due
  pub stands : IsUnpacking new
  pub held : held_of new ≡ held_of old ++ take used bytes
