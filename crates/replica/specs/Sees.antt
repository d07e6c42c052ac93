-- What an observer is given of a payload of the dump.
use Rattle.std.specs.Prelude.{◌≡◌, ◌⊎◌, Bool, List, [], ◌∷◌, ◌++◌, Result, Ok, Err}
use Rattle.wire.specs.Payload.{Payload}
use Rattle.binlog.specs.Filter.{Names}
use Rattle.binlog.specs.Event.{EventValue}
use Rattle.gather.specs.Transaction.{DeliveryValue}
use Rattle.gather.specs.Standing.{ArePending}
use Rattle.gather.specs.declared.gatherer.Gatherer.{Gatherer}
use Rattle.replica.specs.declared.session.end.Reason.{Reason}
use Rattle.replica.specs.Stream.{Carries}
use Rattle.replica.specs.PayloadStep.{GathersMore}
use Rattle.replica.specs.Noted.{Account, Seen, event_read, refused_payload, HasBeenSeen}

-- The transactions that were gathered before a payload, and the gatherer after it.
pub record Gathering : Type 0 where
  pub deliveries : List DeliveryValue
  pub gatherer : Gatherer

module _ (names : Names) (es : List EventValue) (p : Payload) where
  -- What is seen of the payload before it is used, after these events: nothing if it has no event that can be read, and else the event
  -- with its bytes.
  abbrev pub IsEventSeen : List Seen → Type 0
  IsEventSeen [] = (e : EventValue) → Carries names p e → ⊥
  IsEventSeen (event_read e bytes pending ∷ []) = (carries : Carries names p e) × (bytes ≡ carries.body) × ArePending es pending
  IsEventSeen _ = ⊥

  -- The observer was given the event of the payload, if it has one, and nothing else.
  pub record SeesEvent (was is : Account) : Type 0 where
    pub first : List Seen
    pub of_event : IsEventSeen first
    pub added : HasBeenSeen was.seen is.seen first

  -- What is seen of the payload at the end: where it ends the connection, the payload with the reason, if no transaction was reported
  -- either; and nothing where it ends a transaction, or the connection goes on.
  abbrev pub IsSeenLast : Gathering → Type 0 → Result Bool Reason → List Seen → Type 0
  IsSeenLast gathering unreported (Ok applied) last = last ≡ []
  IsSeenLast gathering unreported (Err reason) last =
      ((last ≡ refused_payload p reason ∷ []) × unreported) ⊎ ((last ≡ []) × ((d : DeliveryValue) × GathersMore names es gathering.deliveries p (d ∷ []) gathering.gatherer))

  -- The observer was given the event of the payload, if it has one, and then the payload itself, if it ends the connection and no
  -- transaction; and nothing else.
  pub record SeesPayload (gathering : Gathering) (was is : Account) (result : Result Bool Reason) : Type 0 where
    pub first : List Seen
    pub of_event : IsEventSeen first
    pub last : List Seen
    pub at_end : IsSeenLast gathering (is.noted ≡ was.noted) result last
    pub added : HasBeenSeen was.seen is.seen (first ++ last)
