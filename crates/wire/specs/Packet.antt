-- Packets. MySQL Source Documentation, Client/Server Protocol, "MySQL Packets": Protocol::Packet, and
-- "Sending More Than 16Mb".
use Rattle.std.specs.Prelude.{◌≡◌, ℕ, suc, ◌+◌, ◌*◌, ◌/◌, ◌%◌, ◌<◌, List, [], ◌∷◌, ◌++◌, length}
use Rattle.std.specs.List.{concat, AllByRecursion}
use Rattle.byteorder.specs.Endian.{little_bytes}

-- the length of a full chunk of a payload, 2 ^ 24 - 1
unfoldable pub full_chunk : ℕ
full_chunk = 16777215

-- the length in bytes of the longest payload, 1 GiB: the highest `max_allowed_packet` of a server
abbrev pub largest_payload : ℕ
largest_payload = 1073741824

-- One packet: three bytes of length, the lowest first, one byte of sequence id, and the chunk itself, which has at
-- most `full_chunk` bytes.
abbrev pub packet : ℕ → List ℕ → List ℕ
packet id chunk = little_bytes 3 (length chunk) ++ id % 256 ∷ chunk

-- the packets of the chunks one after the other, the first with this id, each later one with the next
abbrev pub packets : ℕ → List (List ℕ) → List ℕ
packets id [] = []
packets id (chunk ∷ chunks) = packet id chunk ++ packets (suc id) chunks

abbrev pub IsFullChunk : List ℕ → Type 0
IsFullChunk chunk = length chunk ≡ full_chunk

-- The bytes are the packing of the payload from the sequence id: the payload is cut into full chunks and one last
-- shorter chunk, which may be empty, and each chunk is in a packet. `next` is the expected id after it.
pub record IsPacking (id : ℕ) (payload bytes : List ℕ) (next : ℕ) : Type 0 where
  pub chunks : List (List ℕ)
  pub last : List ℕ
  pub full : AllByRecursion IsFullChunk chunks
  pub short : length last < full_chunk
  pub cut : payload ≡ concat chunks ++ last
  pub packed : bytes ≡ packets id (chunks ++ last ∷ [])
  pub follows : next ≡ (id + length chunks + 1) % 256

-- the length of the packing of a payload of this length: four bytes more for each packet
abbrev pub packing_length : ℕ → ℕ
packing_length n = n + 4 * (n / full_chunk + 1)

-- new is old with the packing of the payload from the sequence id at its end
pub record AppendsPacking (id : ℕ) (payload old new : List ℕ) (next : ℕ) : Type 0 where
  pub bytes : List ℕ
  pub packing : IsPacking id payload bytes next
  pub appended : new ≡ old ++ bytes
