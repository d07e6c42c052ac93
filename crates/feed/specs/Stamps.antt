-- What the events of a transaction say of it besides its changes.
use Rattle.std.specs.Prelude.{◌≡◌, ℕ, Bool, true, false, List, Option, Some, IfSome}
use Rattle.binlog.specs.Event.{EventValue, format, begin, commit, neutral, stop, rotate, gtid, table_map, other_map, rows, xid}
use Rattle.binlog.specs.Origin.{IsWrittenAt, IsCommittedAt}

-- The seconds in the header of an event, which are None only where it has no whole header.
pub record AreSecondsOf (bytes : List ℕ) (known : Option ℕ) : Type 0 where
  pub found : IfSome known (λ seconds. (server : ℕ) × IsWrittenAt seconds server bytes)
  pub only : (seconds server : ℕ) → IsWrittenAt seconds server bytes → known ≡ Some seconds

-- The server id in the header of an event, which is None only where it has no whole header.
pub record IsServerOf (bytes : List ℕ) (known : Option ℕ) : Type 0 where
  pub found : IfSome known (λ server. (seconds : ℕ) × IsWrittenAt seconds server bytes)
  pub only : (seconds server : ℕ) → IsWrittenAt seconds server bytes → known ≡ Some server

-- The time of the commit in a GTID event, in microseconds, which is None only where it has none.
pub record IsCommitOf (bytes : List ℕ) (known : Option ℕ) : Type 0 where
  pub found : IfSome known (λ micros. IsCommittedAt micros bytes)
  pub only : (micros : ℕ) → IsCommittedAt micros bytes → known ≡ Some micros

-- whether it is a rows event
abbrev pub is_rows : EventValue → Bool
is_rows format = false
is_rows begin = false
is_rows commit = false
is_rows neutral = false
is_rows stop = false
is_rows (rotate position name) = false
is_rows (gtid source number) = false
is_rows (table_map table) = false
is_rows (other_map id) = false
is_rows (rows value) = true
is_rows (xid number) = false

-- whether memory may be taken for what it says: of a rows event, and of one that is ignored, since it may have the text of a statement
abbrev pub may_take : EventValue → Bool
may_take neutral = true
may_take event = is_rows event

-- whether it says something of its transaction besides the changes: a GTID event, BEGIN, a rows event, an XID event, or one that is
-- ignored, as the text of a statement
abbrev pub is_said : EventValue → Bool
is_said format = false
is_said begin = true
is_said commit = false
is_said neutral = true
is_said stop = false
is_said (rotate position name) = false
is_said (gtid source number) = true
is_said (table_map table) = false
is_said (other_map id) = false
is_said (rows value) = true
is_said (xid number) = true
