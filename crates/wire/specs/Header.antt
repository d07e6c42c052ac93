-- The header of a packet: three bytes of length, the lowest first, and one byte of sequence id. MySQL Source
-- Documentation, Client/Server Protocol, "MySQL Packets": Protocol::Packet.
use Rattle.std.specs.Prelude.{◌≡◌, ℕ, ◌<◌, ◌≤◌, List, [], ◌∷◌, ◌++◌}
use Rattle.byteorder.specs.Endian.{little_bytes}
use Rattle.wire.specs.Packet.{full_chunk}

-- The bytes are the header of a chunk of this length, with this sequence id.
pub record IsHeader (size id : ℕ) (bytes : List ℕ) : Type 0 where
  pub bytes_are : bytes ≡ little_bytes 3 size ++ id ∷ []
  pub a_size : size ≤ full_chunk
  pub an_id : id < 256
