-- What a connection does to what a replica holds, and how it ends; what a list of connections does.
use Rattle.std.specs.Prelude.{◌≡◌, ℕ, ◌+◌, ◌<◌, ◌≤◌, ◌⊎◌, Bool, true, false, List, [], ◌∷◌, ◌++◌, length}
use Rattle.wire.specs.Packet.{largest_payload}
use Rattle.wire.specs.declared.fault.WireFault.TheVariants as wire
use Rattle.greet.specs.Message.{IsOkPacket}
use Rattle.gtid.specs.Identifier.{Ids}
use Rattle.gtid.specs.Encoding.{IsEncoding}
use Rattle.binlog.specs.Filter.{Names}
use Rattle.binlog.specs.Event.{EventValue}
use Rattle.gather.specs.Transaction.{DeliveryValue, AreDeliveries}
use Rattle.sqlite.specs.declared.error.Error.{Error}
use Rattle.store.specs.declared.fault.StoreFault.{StoreFault}
use Rattle.store.specs.declared.fault.StoreFault.TheVariants as fault
use Rattle.store.specs.State.{Content}
use Rattle.store.specs.Changes.{HasOutcome, done, repeat, refused, is_executed}
use Rattle.store.specs.declared.row_change.Refusal.TheVariants as why
use Rattle.replica.specs.declared.session.end.Refusal.{Refusal}
use Rattle.replica.specs.declared.session.end.Refusal.TheVariants.{NoSuchRow, CountFull}
use Rattle.replica.specs.declared.session.end.Reason.{Reason}
use Rattle.replica.specs.declared.session.end.Reason.TheVariants.{EndOfInput, Wire, Refused, Database, Memory, ReadFailed, WriteFailed, Halted, Until}
use Rattle.replica.specs.declared.session.end.Ended.{Ended}
use Rattle.replica.specs.Stream.{Due, QueryReply, IsInDump, Carries, Reading, due_after}
use Rattle.wire.specs.Payload.{Payload}
use Rattle.replica.specs.End.{Rest, rest_of, StopsAt, EndsLog, StopsFor}

-- ---- Transactions in order.

-- Applying the transactions in order refuses none, leads from old to new, and `applied` of them are new.
abbrev pub AppliesAll : Names → Content → List DeliveryValue → ℕ → Content → Type 0
AppliesAll names old [] applied new = (applied ≡ 0) × (new ≡ old)
AppliesAll names old (d ∷ ds) applied new =
    ((mid : Content) × (more : ℕ) × HasOutcome names old d (done mid) × (applied ≡ more + 1) × AppliesAll names mid ds more new)
    ⊎ (HasOutcome names old d repeat × AppliesAll names old ds applied new)

-- The transaction is refused for this reason.
abbrev pub IsRefusedBy : Names → Content → DeliveryValue → Refusal → Type 0
IsRefusedBy names content d (NoSuchRow at) = HasOutcome names content d (refused at why.NoSuchRow)
IsRefusedBy names content d (CountFull at) = HasOutcome names content d (refused at why.CountFull)

-- ---- The dump command.

-- the length in bytes of a dump command before its set: its first byte, flags, server id, an empty name after its length,
-- position, and the length of the set
abbrev pub dump_lead : ℕ
dump_lead = 23

-- The dump command for this set has more bytes than a payload may have: those before the set, and those of the set.
pub record IsDumpTooLong (executed : Ids) : Type 0 where
  pub set : List ℕ
  pub encodes : IsEncoding executed set
  pub long : largest_payload < dump_lead + length set

-- If the dump has been asked for, the command was short enough.
abbrev pub CouldAsk : Due → Ids → Type 0
CouldAsk due executed = IsInDump due → IsDumpTooLong executed → ⊥

-- The transactions that were applied, if this message is expected after them.
pub record HasApplied (names : Names) (old : Content) (ds : List DeliveryValue) (due : Due) (applied : ℕ) (new : Content) : Type 0 where
  pub applies : AppliesAll names old ds applied new
  pub asked : CouldAsk due old.executed

-- ---- A connection.

-- The database failed, for a store that had not failed before, in a transaction that was not executed; or the store had
-- failed before.
abbrev pub FailsFor : Bool → Bool → StoreFault → Type 0
FailsFor was_broken executed cause =
    ((e : Error) × (cause ≡ fault.Database e) × (was_broken ≡ false) × (executed ≡ false)) ⊎ ((cause ≡ fault.Broken) × (was_broken ≡ true))

module _ (rest : Rest) (ds : List DeliveryValue) where
  -- The next payload has an event that ends the transaction.
  pub record NextEnds (d : DeliveryValue) : Type 0 where
    pub payload : Payload
    pub stops : StopsAt rest payload
    pub in_dump : IsInDump rest.due
    pub event : EventValue
    pub carries : Carries rest.names payload event
    pub delivers : AreDeliveries (rest.events ++ event ∷ []) (ds ++ d ∷ [])

  -- The next payload is the reply to the query.
  pub record NextAnswers : Type 0 where
    pub payload : Payload
    pub stops : StopsAt rest payload
    pub due_is : rest.due ≡ QueryReply
    pub is_ok : IsOkPacket payload

  -- The next payload ends a transaction that is refused.
  pub record IsRefusedNext (new : Content) (refusal : Refusal) : Type 0 where
    pub delivery : DeliveryValue
    pub ends : NextEnds delivery
    pub refused : IsRefusedBy rest.names new delivery refusal

  -- The next payload ends a transaction in which the database failed, or for which the store had failed before.
  pub record FailsNext (was_broken : Bool) (new : Content) (cause : StoreFault) : Type 0 where
    pub delivery : DeliveryValue
    pub ends : NextEnds delivery
    pub fails : FailsFor was_broken (is_executed new delivery) cause

  -- The next payload ends a transaction that is not executed.
  pub record IsNextNew (new : Content) : Type 0 where
    pub delivery : DeliveryValue
    pub ends : NextEnds delivery
    pub fresh : is_executed new delivery ≡ false

  -- Why a connection ends at this offset, for a store that had failed before or not.
  abbrev pub Why : Bool → Content → Content → ℕ → Reason → Type 0
  -- a header is wrong, or the dump command would be too long
  Why was old new at (Wire f) =
      StopsFor rest at (Wire f) ⊎ ((f ≡ wire.TooLarge) × (at ≡ rest.taken) × NextAnswers × IsDumpTooLong old.executed)
  Why was old new at (Refused refusal) = (at ≡ rest.taken) × IsRefusedNext new refusal
  Why was old new at (Database cause) = (at ≡ rest.taken) × FailsNext was new cause
  Why was old new at Memory = at ≡ rest.taken
  Why was old new at ReadFailed = at ≡ rest.taken
  -- the pending output may be sent after the end of the log
  Why was old new at WriteFailed = (at ≡ rest.taken) ⊎ EndsLog rest at
  Why was old new at Halted = (at ≡ rest.taken) × IsNextNew new
  -- the observer waits for nothing more
  Why was old new at Until = at ≡ rest.taken
  -- the other reasons are caused by the bytes
  Why was old new at reason = StopsFor rest at reason

-- A connection with these bytes, for a store that had failed before or not, leads from old to new and has this end: a
-- prefix of its bytes is a conversation, whose transactions are applied in order and none refused. If the store had
-- failed, nothing changes.
pub record Conn (limit : ℕ) (names : Names) (was_broken : Bool) (old : Content) (b : List ℕ) (new : Content) (end : Ended) : Type 0 where
  pub reading : Reading limit names b
  pub has_applied : HasApplied names old reading.deliveries (due_after reading.payloads) end.applied new
  pub why : Why (rest_of reading) reading.deliveries was_broken old new end.at end.reason
  pub kept : was_broken ≡ true → new ≡ old

-- the end with another reason
abbrev pub reported_as : Reason → Ended → Ended
reported_as reason end = record { reason = reason; at = end.at; applied = end.applied }

-- After the first bytes of a connection these were read, and it had not ended before the last piece of them, which has at
-- most so many bytes.
pub record EndsInLast (limit most : ℕ) (names : Names) (was_broken : Bool) (old : Content) (first read : List ℕ) : Type 0 where
  pub front : List ℕ
  pub last : List ℕ
  pub read_is : read ≡ front ++ last
  pub piece : length last ≤ most
  pub now : Content
  pub end : Ended
  pub unended : Conn limit names was_broken old (first ++ front) now (reported_as EndOfInput end)

-- Applying the first `count` transactions of the bytes refuses none, and leads from old to new.
pub record AppliesFirst (limit : ℕ) (names : Names) (old : Content) (b : List ℕ) (count applied : ℕ) (new : Content) : Type 0 where
  pub reading : Reading limit names b
  pub counted : length reading.deliveries ≡ count
  pub has_applied : HasApplied names old reading.deliveries (due_after reading.payloads) applied new

-- Whether the store has failed after a connection with this end: after an end by the database it has, after running out
-- of memory it may have, and no other end changes it.
abbrev pub BreaksStore : Reason → Bool → Bool → Type 0
BreaksStore (Database cause) was is = is ≡ true
BreaksStore Memory was is = was ≡ true → is ≡ true
BreaksStore _ was is = is ≡ was

-- What a store holds: whether it has failed, and its content.
pub record StoreState : Type 0 where
  pub broken : Bool
  pub content : Content

-- The connections in order, each beginning with what the one before it left.
abbrev pub History : ℕ → Names → StoreState → List (List ℕ) → StoreState → List Ended → Type 0
History limit names before [] after [] = (after.broken ≡ before.broken) × (after.content ≡ before.content)
History limit names before (b ∷ bs) after (end ∷ ends) =
    (mid : StoreState) × Conn limit names before.broken before.content b mid.content end × BreaksStore end.reason before.broken mid.broken × History limit names mid bs after ends
History limit names before [] after (end ∷ ends) = ⊥
History limit names before (b ∷ bs) after [] = ⊥

-- The end is caused by the bytes of the connection, and not by a refused transaction or a failure.
abbrev pub IsOfBytes : Reason → Type 0
IsOfBytes (Refused refusal) = ⊥
IsOfBytes (Database cause) = ⊥
IsOfBytes Memory = ⊥
IsOfBytes ReadFailed = ⊥
IsOfBytes WriteFailed = ⊥
IsOfBytes Halted = ⊥
IsOfBytes Until = ⊥
IsOfBytes _ = Unit {0}

-- The connection is ended neither by a failure of a stream nor by the observer.
abbrev pub IsOwn : Reason → Type 0
IsOwn ReadFailed = ⊥
IsOwn WriteFailed = ⊥
IsOwn Halted = ⊥
IsOwn Until = ⊥
IsOwn _ = Unit {0}

-- No read and no write of a stream has failed.
abbrev pub IsNoStreamFailure : Reason → Type 0
IsNoStreamFailure ReadFailed = ⊥
IsNoStreamFailure WriteFailed = ⊥
IsNoStreamFailure _ = Unit {0}
