-- Who made the changes of a transaction, and by which statements, as the bytes of events say it. MySQL Source Documentation, Binlog Event:
-- binary_log::Query_event and binary_log::Rows_query_event.
use Rattle.std.specs.Prelude.{◌≡◌, ℕ, ◌<◌, ◌^◌, ◌==◌, if◌then◌else◌, List, [], ◌∷◌, ◌++◌, length, slice_index, Option, None, Some, IfSome}
use Rattle.byteorder.specs.Endian.{little_bytes}
use Rattle.binlog.specs.EventType as event_type

-- A QUERY event has, after its header of 19 bytes, the id of the thread that has sent the statement.
pub record IsSentBy (thread : ℕ) (bytes : List ℕ) : Type 0 where
  pub head : List ℕ
  pub rest : List ℕ
  pub bytes_are : bytes ≡ head ++ little_bytes 4 thread ++ rest
  pub long : length head ≡ 19
  pub fits : thread < 2 ^ 32

-- The thread of a QUERY event, which is None only where it has none.
pub record IsThreadOf (bytes : List ℕ) (known : Option ℕ) : Type 0 where
  pub found : IfSome known (λ thread. IsSentBy thread bytes)
  pub only : (thread : ℕ) → IsSentBy thread bytes → known ≡ Some thread

-- A ROWS_QUERY event has, after its header and a byte that is ignored, the text of a statement.
pub record IsStatementText (text : List ℕ) (bytes : List ℕ) : Type 0 where
  pub head : List ℕ
  pub bytes_are : bytes ≡ head ++ text
  pub long : length head ≡ 20
  pub is_query : slice_index bytes 4 ≡ event_type.rows_query

-- Texts, each at the place of the first change that came after it. The text at a place is the last one there.
abbrev pub text_after : Option (List ℕ) → List (ℕ × List ℕ) → ℕ → Option (List ℕ)
text_after known [] place = known
text_after known (t ∷ rest) place = text_after (if t.0 == place then Some t.1 else known) rest place

abbrev pub text_at : List (ℕ × List ℕ) → ℕ → Option (List ℕ)
text_at texts place = text_after None texts place
