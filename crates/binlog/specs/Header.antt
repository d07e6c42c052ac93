-- The header of an event. MySQL Source Documentation, Binlog Event: binary_log::Log_event_header.
use Rattle.std.specs.Prelude.{◌≡◌, ℕ, ◌<◌, ◌^◌, Bool, not, List, [], ◌∷◌, ◌++◌, length, ◌==◌, nat_le, Option}
use Rattle.byteorder.specs.Endian.{little_bytes}
use Rattle.binlog.specs.Fault.{refuse, needs, first_of, number_at}
use Rattle.binlog.specs.declared.fault.EventFault.{EventFault}
use Rattle.binlog.specs.declared.fault.EventFaultKind.TheVariants.{Size}

-- the length in bytes of a header
abbrev pub header_length : ℕ
header_length = 19

-- LOG_EVENT_IGNORABLE_F (0x0080), in the low byte of the flags: of its bits it is the highest
abbrev pub ignorable_flag : ℕ
ignorable_flag = 0x80

-- The bytes are an event of this type with this body: a header of 19 bytes (timestamp, type, server id, size of the
-- whole event, next position, flags) and the body. The fields that are not read are left free.
pub record IsFramed (code : ℕ) (may_ignore : Bool) (body bytes : List ℕ) : Type 0 where
  pub timestamp : List ℕ
  pub server_id : List ℕ
  pub position : List ℕ
  pub low_flags : ℕ
  pub high_flags : ℕ
  pub bytes_are : bytes ≡ timestamp ++ code ∷ server_id ++ little_bytes 4 (length bytes) ++ position ++ low_flags ∷ high_flags ∷ body
  pub sizes : (length timestamp ≡ 4) × (length server_id ≡ 4) × (length position ≡ 4)
  pub a_size : length bytes < 2 ^ 32
  pub unkept : may_ignore ≡ nat_le ignorable_flag low_flags

-- the faults of a header, in order
unfoldable pub header_fault : List ℕ → Option EventFault
header_fault bytes = first_of (
    needs bytes 0 4 ∷ needs bytes 4 1 ∷ needs bytes 5 4 ∷ needs bytes 9 4 ∷ needs bytes 13 4 ∷ needs bytes 17 2
    ∷ refuse (not (number_at 4 bytes 9 == length bytes)) Size 9
    ∷ [])

-- some type, flag and body
pub record HasFrame (bytes : List ℕ) : Type 0 where
  pub code : ℕ
  pub may_ignore : Bool
  pub body : List ℕ
  pub framed : IsFramed code may_ignore body bytes
