-- A replica that asks a scripted source again. MySQL Source Documentation, Client/Server Protocol, "Connection Phase";
-- Replication Protocol: COM_BINLOG_DUMP_GTID.
use Rattle.std.specs.Prelude.{◌≡◌, ℕ, ◌+◌, ◌^◌, ◌<◌, ◌≤◌, ◌++◌, Bool, false, ◌&&◌, List, [], ◌∷◌, length, map, filter, take, flat_map, if◌then◌else◌}
use Rattle.std.specs.Str.{bytes_eq}
use Rattle.std.specs.List.{AllByRecursion}
use Rattle.wire.specs.Packet.{largest_payload}
use Rattle.greet.specs.Message.{DumpValue}
use Rattle.binlog.specs.Filter.{Names, is_read}
use Rattle.gather.specs.Transaction.{ChangeValue, changed_schema, changed_table, DeliveryValue, change_of}
use Rattle.store.specs.State.{Content}
use Rattle.store.specs.Open.{nothing}
use Rattle.replica.specs.declared.session.end.Reason.{Reason}
use Rattle.replica.specs.declared.session.end.Reason.TheVariants.{EndOfInput, SourceEof}
use Rattle.replica.specs.declared.session.end.Ended.{Ended}
use Rattle.replica.specs.Conn.{AppliesAll, Conn}
use Rattle.replica.specs.Crash.{IsLeftOfOne}
use Rattle.scripted_source.specs.Script.{PartValue, ScriptValue}
use Rattle.scripted_source.specs.Source.{OpensWith, Asks, IsAnswer, is_once, sent_payloads, due}
use Rattle.wire.specs.Payload.{Payload}

-- ---- What a history means to a replica with this filter.

-- the changes of a part: none if the filter leaves its table out
abbrev pub part_changes : Names → PartValue → List ChangeValue
part_changes names part = if is_read names part.table.schema part.table.table then map (change_of part.table) part.pairs else []

abbrev pub transaction : Names → ScriptValue → DeliveryValue
transaction names script = record { source = script.source; number = script.number; changes = flat_map (part_changes names) script.parts }

-- whether a change is one of this table
abbrev pub is_change_of : List ℕ → List ℕ → ChangeValue → Bool
is_change_of schema table change = bytes_eq (changed_schema change) schema && bytes_eq (changed_table change) table

-- the changes of one table, in their order
abbrev pub table_changes : List ℕ → List ℕ → List ChangeValue → List ChangeValue
table_changes schema table changes = filter (is_change_of schema table) changes

abbrev pub transactions : Names → List ScriptValue → List DeliveryValue
transactions names history = map (transaction names) history

-- The first transactions, this many, are each new and can be applied, in their order from the empty content, and lead to
-- this content.
abbrev pub Reaches : Names → List ScriptValue → ℕ → Content → Type 0
Reaches names history count content = AppliesAll names nothing (transactions names (take count history)) count content

-- ---- The law.

-- What a replica asks, and what the source sends before the dump and in it.
pub record Dialogue : Type 0 where
  pub request : Payload
  pub opening : List ℕ
  pub answer : List ℕ

-- A source with this history is asked by a replica that holds the content after its first j transactions, all of which
-- can be applied, and whose filter is this one, and that takes payloads up to this limit. This is what they say to each other.
pub record Resumes (limit : ℕ) (names : Names) (history : List ScriptValue) (j : ℕ) (held last : Content) (dialogue : Dialogue) : Type 0 where
  pub reached : Reaches names history j held
  pub all_applied : Reaches names history (length history) last
  pub dump : DumpValue
  pub asks : Asks dialogue.request dump held.executed
  pub short : length dialogue.request ≤ largest_payload
  pub greeting : Payload
  pub login : Payload
  pub query : Payload
  pub opens : OpensWith greeting login query dialogue.opening
  pub answers : IsAnswer history dialogue.request dialogue.answer
  pub admits : AllByRecursion (λ p. length p ≤ limit) (greeting ∷ login ∷ query ∷ sent_payloads (is_once dump.flags) (due held.executed history))

-- why the connection ends
abbrev pub end_reason : Bool → Reason
end_reason once = if once then SourceEof else EndOfInput

-- The connection with these bytes leads from one content to the other by exactly these transactions, in this order,
-- each of them new; it ends with the bytes, for this reason.
pub record Leads (limit : ℕ) (names : Names) (held last : Content) (bytes : List ℕ) (ds : List DeliveryValue) (reason : Reason) : Type 0 where
  pub end : Ended
  pub conn : Conn limit names false held bytes last end
  pub delivers : conn.reading.deliveries ≡ ds
  pub applied : end.applied ≡ length ds
  pub at : end.at ≡ length bytes
  pub reason_is : end.reason ≡ reason

-- ---- The law of restarts.

-- A replica that holds a content asks a source with this history, and reads some prefix of what the source sends. That
-- connection ends in any way, the replica is stopped, and what is left is this content.
pub record Restarts (limit : ℕ) (names : Names) (history : List ScriptValue) (held left : Content) : Type 0 where
  pub last : Content
  pub dialogue : Dialogue
  pub asked : (j : ℕ) → Reaches names history j held → Resumes limit names history j held last dialogue
  pub are_bytes : AllByRecursion (λ b. b < 256) dialogue.answer
  pub fewer : length (dialogue.opening ++ dialogue.answer) < 2 ^ 64
  pub part : List ℕ
  pub more : List ℕ
  pub cut : dialogue.opening ++ dialogue.answer ≡ part ++ more
  pub was : Bool
  pub new : Content
  pub end : Ended
  pub conn : Conn limit names was held part new end
  pub leaves : IsLeftOfOne limit names held part new end left

-- Each time the replica holds what was left before.
abbrev pub AreRestarts : ℕ → Names → List ScriptValue → Content → List Content → Type 0
AreRestarts limit names history held [] = Unit {0}
AreRestarts limit names history held (left ∷ lefts) = Restarts limit names history held left × AreRestarts limit names history left lefts

-- These are contents after the first transactions of a history: of each as many as of the one before, or more.
abbrev pub NeverFalls : Names → List ScriptValue → ℕ → List Content → Type 0
NeverFalls names history j [] = Unit {0}
NeverFalls names history j (left ∷ lefts) = (i : ℕ) × Reaches names history (j + i) left × NeverFalls names history (j + i) lefts
