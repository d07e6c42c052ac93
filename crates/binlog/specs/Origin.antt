-- Where and when an event was written, as its bytes say it. MySQL Source Documentation, Binlog Event:
-- binary_log::Log_event_header and binary_log::Gtid_event.
use Rattle.std.specs.Prelude.{◌≡◌, ℕ, ◌+◌, ◌<◌, ◌≤◌, ◌^◌, Bool, if◌then◌else◌, List, ◌∷◌, ◌++◌, length, slice_index}
use Rattle.byteorder.specs.Endian.{little_bytes}
use Rattle.binlog.specs.EventType as event_type

-- A header begins with the seconds since 1970-01-01 00:00:00 UTC, the event's type and the id of the server; ten bytes of it
-- follow: the event's size, the next position and the flags.
pub record IsWrittenAt (seconds server_id : ℕ) (bytes : List ℕ) : Type 0 where
  pub code : ℕ
  pub rest : List ℕ
  pub bytes_are : bytes ≡ little_bytes 4 seconds ++ code ∷ little_bytes 4 server_id ++ rest
  pub long : 10 ≤ length rest
  pub fits : (seconds < 2 ^ 32) × (server_id < 2 ^ 32)

-- the code of logical timestamps: the number of the transaction that it comes after, and its own, 8 bytes each
abbrev pub logical_timestamps : ℕ
logical_timestamps = 2

-- The highest bit of 7 bytes says that the time at which the transaction was committed first, on another server, follows.
abbrev pub original_follows : ℕ
original_follows = 2 ^ 55

-- A GTID event has, after its header of 19 bytes, flags, 16 bytes of source and 8 of number, logical timestamps, and then the
-- time of its commit in microseconds since 1970-01-01 00:00:00 UTC.
pub record IsCommittedAt (micros : ℕ) (bytes : List ℕ) : Type 0 where
  pub head : List ℕ
  pub order : List ℕ
  pub has_original : Bool
  pub rest : List ℕ
  pub bytes_are : bytes ≡ head ++ logical_timestamps ∷ order ++ little_bytes 7 (if has_original then micros + original_follows else micros) ++ rest
  pub sizes : (length head ≡ 44) × (length order ≡ 16)
  pub is_gtid : slice_index bytes 4 ≡ event_type.gtid
  pub fits : micros < 2 ^ 55
