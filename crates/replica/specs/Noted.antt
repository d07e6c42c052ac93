-- What is reported to an observer of transactions and connections, and what follows from that.
use Rattle.std.specs.Prelude.{◌≡◌, ◌≢◌, ◌⊎◌, ◌||◌, ℕ, Bool, true, false, if◌then◌else◌, List, [], ◌∷◌, ◌++◌, ◌<◌, length, Option, Some, None, Result, Ok, Err}
use Rattle.sqlite_trees.specs.declared.store.Store.{Ghosts}
use Rattle.sqlite_schema.specs.declared.schema.Schema.{Schema}
use Rattle.std.specs.FinSet as set
use Rattle.wire.specs.Payload.{Payload}
use Rattle.gtid.specs.Identifier.{Ids}
use Rattle.binlog.specs.Filter.{Names, admits}
use Rattle.binlog.specs.Event.{EventValue}
use Rattle.gather.specs.Transaction.{DeliveryValue}
use Rattle.store.specs.State.{Content}
use Rattle.store.specs.Changes.{HasOutcome, done, repeat, is_executed}
use Rattle.store.specs.declared.fault.StoreFault.TheVariants as fault
use Rattle.store.specs.declared.store.Store.{Store}
use Rattle.store.specs.Store.{HoldsAs, names_of}
use Rattle.replica.specs.declared.session.end.Reason.{Reason}
use Rattle.replica.specs.declared.session.end.Reason.TheVariants.{Refused, Database, Memory, ReadFailed, WriteFailed, Halted, Until}
use Rattle.replica.specs.declared.session.end.Ended.{Ended}
use Rattle.replica.specs.Conn.{AppliesAll, IsRefusedBy}
use Rattle.replica.specs.Over.{LeavesOnly}
use Rattle.replica.specs.Marks.{is_unfinished}
use Rattle.replica.specs.Missing.{waits_for_none}

-- What is reported to an observer: the executed set of a database that was opened; that the source has been reached; of a new transaction
-- that it is to be applied, or that the observer has stopped before it; of a transaction whether it was applied, which one that is
-- executed is not, or why the connection ends; and how a connection has ended, and whether the observer goes on.
pub data Notice : Type 0 where
  opened : Ids → Notice
  connected : Notice
  before : DeliveryValue → Notice
  stopped : DeliveryValue → Notice
  after : DeliveryValue → Result Bool Reason → Notice
  ended : Ended → Bool → Notice

-- An observer may keep an account of what is reported to it. If it does so afterwards, it did so before, and this was added to it.
abbrev pub HasBeenNoted : Option (List Notice) → Option (List Notice) → List Notice → Type 0
HasBeenNoted was None notices = Unit {0}
HasBeenNoted None (Some is) notices = ⊥
HasBeenNoted (Some was) (Some is) notices = is ≡ was ++ notices

-- What an observer is given of the payloads of a dump: each event with its bytes, header and body, and how many changes of the open
-- transaction came before it; and a payload that ends the connection without ending a transaction, with the reason.
pub data Seen : Type 0 where
  event_read : EventValue → List ℕ → ℕ → Seen
  refused_payload : Payload → Reason → Seen

-- An observer may keep a list of what it is given. If it does so afterwards, it did so before, and this was added to it.
abbrev pub HasBeenSeen : Option (List Seen) → Option (List Seen) → List Seen → Type 0
HasBeenSeen was None seen = Unit {0}
HasBeenSeen None (Some is) seen = ⊥
HasBeenSeen (Some was) (Some is) seen = is ≡ was ++ seen

-- what is reported before a transaction: nothing of one that is executed
abbrev pub asked_about : Content → DeliveryValue → Bool → List Notice
asked_about content d halts = if is_executed content d then [] else (if halts then stopped d else before d) ∷ []

-- the ends of connections that are reported
abbrev pub ends_in : List Notice → List Ended
ends_in [] = []
ends_in (ended end goes_on ∷ notices) = end ∷ ends_in notices
ends_in (_ ∷ notices) = ends_in notices

-- whether it has stopped before a transaction
abbrev pub has_stop : List Notice → Bool
has_stop [] = false
has_stop (stopped d ∷ notices) = true
has_stop (_ ∷ notices) = has_stop notices

-- whether it has stopped after a connection
abbrev pub has_last : List Notice → Bool
has_last [] = false
has_last (ended end false ∷ notices) = true
has_last (_ ∷ notices) = has_last notices

-- none is to be applied
abbrev pub LetsNone : List Notice → Type 0
LetsNone [] = Unit {0}
LetsNone (before d ∷ notices) = ⊥
LetsNone (_ ∷ notices) = LetsNone notices

-- the transactions that are reported as applied, in order
abbrev pub applied_in : List Notice → List DeliveryValue
applied_in [] = []
applied_in (after d (Ok true) ∷ notices) = d ∷ applied_in notices
applied_in (_ ∷ notices) = applied_in notices

-- Which of these transactions are missing after this was reported: those that no opened database had executed and that were not
-- reported as applied.
abbrev pub missing_after : Ids → List Notice → Ids
missing_after ids [] = ids
missing_after ids (opened executed ∷ notices) = missing_after (set.difference ids executed) notices
missing_after ids (after d (Ok true) ∷ notices) = missing_after (set.remove ids (d.source, d.number)) notices
missing_after ids (_ ∷ notices) = missing_after ids notices

-- An observer may say which transactions it still waits for. If it does so afterwards, it did so before, and waits for those that
-- are missing after what was reported to it. Once it waits for none, it goes on to say so.
abbrev pub StillWaits : Option Ids → List Notice → Option Ids → Type 0
StillWaits was notices None = waits_for_none was ≡ false
StillWaits None notices (Some is) = ⊥
StillWaits (Some was) notices (Some is) = is ≡ missing_after was notices

-- Something of these transactions is missing before each one that is to be applied.
abbrev pub AreMissed : Ids → List Notice → Type 0
AreMissed ids [] = Unit {0}
AreMissed ids (opened executed ∷ notices) = AreMissed (set.difference ids executed) notices
AreMissed ids (before d ∷ notices) = (set.is_subset ids set.empty ≡ false) × AreMissed ids notices
AreMissed ids (after d (Ok true) ∷ notices) = AreMissed (set.remove ids (d.source, d.number)) notices
AreMissed ids (_ ∷ notices) = AreMissed ids notices

-- The same of what an observer waited for, if it still says so.
abbrev pub WereMissed : Option Ids → List Notice → Option Ids → Type 0
WereMissed was notices None = Unit {0}
WereMissed None notices (Some is) = ⊥
WereMissed (Some was) notices (Some is) = AreMissed was notices

-- Of what an observer waited for, something was not executed, unless it does not say any more what it waits for.
abbrev pub WasMissing : Option Ids → Option Ids → Ids → Type 0
WasMissing was None executed = Unit {0}
WasMissing None (Some is) executed = ⊥
WasMissing (Some wanted) (Some is) executed = set.is_subset wanted executed ≡ false

-- What a new transaction that was reported with this answer makes of a content.
abbrev pub IsMadeBy : Names → Content → DeliveryValue → Result Bool Reason → Content → Type 0
IsMadeBy names old d (Ok true) new = HasOutcome names old d (done new)
IsMadeBy names old d (Ok false) new = ⊥
IsMadeBy names old d (Err (Refused refusal)) new = IsRefusedBy names old d refusal × (new ≡ old)
IsMadeBy names old d (Err reason) new = (is_executed old d ≡ false) × (new ≡ old)

-- What is reported leads from one content to another. A transaction is applied only between the notice before it and the one after
-- it, which says so; nothing else changes the content: none that is refused or in which the database fails, none that is executed,
-- which is reported afterwards alone, and none before which the observer has stopped; and once it has, none is to be applied.
-- Where it stops after a connection, nothing more is reported.
abbrev pub LeadsBy : Names → Content → List Notice → Content → Type 0
LeadsBy names old [] new = new ≡ old
LeadsBy names old (before d ∷ after e answer ∷ notices) new = (e ≡ d) × (mid : Content) × IsMadeBy names old d answer mid × LeadsBy names mid notices new
LeadsBy names old (before d ∷ notices) new = ⊥
LeadsBy names old (stopped d ∷ notices) new = (is_executed old d ≡ false) × LetsNone notices × LeadsBy names old notices new
LeadsBy names old (after d (Ok true) ∷ notices) new = ⊥
LeadsBy names old (after d answer ∷ notices) new = HasOutcome names old d repeat × LeadsBy names old notices new
LeadsBy names old (opened ids ∷ notices) new = (ids ≡ old.executed) × LeadsBy names old notices new
LeadsBy names old (connected ∷ notices) new = LeadsBy names old notices new
LeadsBy names old (ended end true ∷ notices) new = LeadsBy names old notices new
LeadsBy names old (ended end false ∷ notices) new = (notices ≡ []) × (new ≡ old)

-- ---- After a failure.

-- whether a transaction was reported with a failure of the database, or since memory ran out: then the store has failed
abbrev pub fails_by : Result Bool Reason → Bool
fails_by (Err (Database cause)) = true
fails_by (Err Memory) = true
fails_by _ = false

abbrev pub has_failure : List Notice → Bool
has_failure [] = false
has_failure (after d answer ∷ notices) = fails_by answer || has_failure notices
has_failure (_ ∷ notices) = has_failure notices

-- After such a failure no transaction is applied.
abbrev pub EndsAtFailure : List Notice → Type 0
EndsAtFailure [] = Unit {0}
EndsAtFailure (after d answer ∷ notices) = (fails_by answer ≡ true → applied_in notices ≡ []) × EndsAtFailure notices
EndsAtFailure (_ ∷ notices) = EndsAtFailure notices

-- The database has failed.
abbrev pub IsDatabaseFailure : Result Bool Reason → Type 0
IsDatabaseFailure (Err (Database (fault.Database cause))) = Unit {0}
IsDatabaseFailure _ = ⊥

-- What is reported next is that the database has failed in a transaction.
abbrev pub NextFails : List Notice → Type 0
NextFails (after d answer ∷ notices) = IsDatabaseFailure answer
NextFails _ = ⊥

-- One transaction more leads to what is left: one that was reported to be applied, and then, as the first failure, that the
-- database failed in it.
abbrev pub IsOneMoreNoted : Names → Content → List Notice → Content → Type 0
IsOneMoreNoted names new [] left = ⊥
IsOneMoreNoted names new (before d ∷ notices) left = (NextFails notices × HasOutcome names new d (done left)) ⊎ IsOneMoreNoted names new notices left
IsOneMoreNoted names new (after d answer ∷ notices) left = (fails_by answer ≡ false) × IsOneMoreNoted names new notices left
IsOneMoreNoted names new (_ ∷ notices) left = IsOneMoreNoted names new notices left

-- What a crash leaves after this was reported, which leads to the new content: that content, or one transaction more.
abbrev pub IsLeftOfNoted : Names → List Notice → Content → Content → Type 0
IsLeftOfNoted names notices new left = (left ≡ new) ⊎ IsOneMoreNoted names new notices left

-- What an observer has to say of itself.
pub record Account : Type 0 where
  -- what was reported to it, if it keeps an account of that
  pub noted : Option (List Notice)
  -- what it was given of payloads, if it keeps a list of that
  pub seen : Option (List Seen)
  -- whether it has asked to stop, which it never takes back
  pub has_stopped : Bool
  -- which transactions it still waits for, if it says so
  pub waits : Option Ids
  -- whether it stops where a first copy has begun in the database and not ended
  pub excludes : Bool
  -- whether it stops where a database keeps no rows, or where it keeps some, if it says so
  pub keeps : Option Bool

-- The filter admits no table that a server can have: the length of a schema's name is a byte.
abbrev pub KeepsNone : Names → Type 0
KeepsNone names = (schema table : List ℕ) → length schema < 256 → admits names schema table ≡ false

-- An observer does not take a database with this executed set and this filter: it stops for a first copy that has begun and not ended,
-- and there is one, or for a database that keeps rows, or none, and this is one.
abbrev pub IsExcluded : Account → Ids → Names → Type 0
IsExcluded was executed names =
    ((source : List ℕ) × (was.excludes ≡ true) × (is_unfinished executed source ≡ true))
    ⊎ (((was.keeps ≡ Some false) × (KeepsNone names → ⊥)) ⊎ ((was.keeps ≡ Some true) × KeepsNone names))

-- An observer has stopped where such a database was reported.
abbrev pub Excludes : Account → Ids → Names → Account → Type 0
Excludes was executed names is = IsExcluded was executed names → is.has_stopped ≡ true

-- What an observer says of a call that reports these notices to it: they were added to its account, it waits for what is missing after
-- them, and it does not take back that it has stopped.
pub record HasNotices (was is : Account) (notices : List Notice) : Type 0 where
  pub noted : HasBeenNoted was.noted is.noted notices
  pub waits : StillWaits was.waits notices is.waits
  pub stays : was.has_stopped ≡ true → is.has_stopped ≡ true

-- The same of a call that reports none: its account stays, and also whether it keeps one.
pub record HasNoNotice (was is : Account) : Type 0 where
  pub noted : is.noted ≡ was.noted
  pub waits : StillWaits was.waits [] is.waits
  pub stays : was.has_stopped ≡ true → is.has_stopped ≡ true

-- A connection is halted only if the observer has stopped, and ended with `Until` only if it also waits for nothing more.
abbrev pub IsAsked : Reason → Account → Type 0
IsAsked Halted is = is.has_stopped ≡ true
IsAsked Until is = (is.has_stopped ≡ true) × (waits_for_none is.waits ≡ true)
IsAsked _ is = Unit {0}

-- And it is not ended by a failure of a stream.
abbrev pub MayEnd : Reason → Account → Type 0
MayEnd ReadFailed is = ⊥
MayEnd WriteFailed is = ⊥
MayEnd reason is = IsAsked reason is

-- What was reported to an observer from one moment to another leads from one content to another, and these are the ends of connections
-- in it; and it waits for what is missing after it, of which something was missing before each transaction that was to be applied. If it
-- had stopped at the first, nothing was to be applied.
pub record IsNotedOf (names : Names) (old new : Content) (was is : Account) (ends : List Ended) : Type 0 where
  pub notices : List Notice
  pub noted : HasBeenNoted was.noted is.noted notices
  pub waits : StillWaits was.waits notices is.waits
  pub missed : WereMissed was.waits notices is.waits
  pub leads : LeadsBy names old notices new
  pub ends_are : ends_in notices ≡ ends
  pub stays : was.has_stopped ≡ true → is.has_stopped ≡ true
  pub stops : has_stop notices ≡ true → is.has_stopped ≡ true
  pub last : has_last notices ≡ true → is.has_stopped ≡ true
  pub lets_none : was.has_stopped ≡ true → LetsNone notices

-- the first of what was reported is this executed set, of a database that was opened
abbrev pub BeginsWith : Ids → List Notice → Type 0
BeginsWith executed (opened ids ∷ notices) = ids ≡ executed
BeginsWith executed _ = ⊥

-- What was reported was added to an account.
abbrev pub HasGrown : Account → Account → Type 0
HasGrown was is = (notices : List Notice) × HasBeenNoted was.noted is.noted notices

-- What was reported first is that a database was opened, and next that the source was reached; where it was not, nothing more.
abbrev pub BeginsConnected : {T E : Type 0} → Account → Account → Result T E → Type 0
BeginsConnected was is (Ok followed) = (executed : Ids) × (rest : List Notice) × HasBeenNoted was.noted is.noted (opened executed ∷ connected ∷ rest)
BeginsConnected was is (Err cause) = (executed : Ids) × HasBeenNoted was.noted is.noted (opened executed ∷ [])

-- The same since a database with the first content was opened. A connection of a list was read only if something was missing of what
-- the observer waited for. After a failure of the store no transaction was applied. Where the observer does not take the database, no
-- transaction was to be applied.
pub record IsNotedSinceOpening (names : Names) (old new : Content) (was is : Account) (ends : List Ended) : Type 0 where
  pub noted_of : IsNotedOf names old new was is ends
  pub begins : BeginsWith old.executed noted_of.notices
  pub missed : ends ≢ [] → WasMissing was.waits is.waits old.executed
  pub fails : EndsAtFailure noted_of.notices
  pub excluded : IsExcluded was old.executed names → LetsNone noted_of.notices × (is.has_stopped ≡ true)

-- Transactions led from a content to one in which some of these were not executed, and one more to this one.
pub record EndsWithLast (names : Names) (old new : Content) (wanted : Ids) : Type 0 where
  pub transactions : List DeliveryValue
  pub applied : ℕ
  pub mid : Content
  pub applies : AppliesAll names old transactions applied mid
  pub too_few : set.is_subset wanted mid.executed ≡ false
  pub last : DeliveryValue
  pub applies_last : HasOutcome names mid last (done new)

-- All of these transactions are executed in a content, and it is the first one in which they are: it is the one from before, or they
-- were not before the last transaction that led to it.
pub record HasReached (names : Names) (old new : Content) (wanted : Ids) : Type 0 where
  pub all : set.is_subset wanted new.executed ≡ true
  pub first : (new ≡ old) ⊎ EndsWithLast names old new wanted

module _ {S : Type 0} (g : Ghosts S) where
  -- A store that held this content, and had failed or not, has come to hold another one, to which what was reported to an observer
  -- leads.
  pub record IsLedTo (before after : Store S g) (broken : Bool) (old : Content) (was is : Account) (ends : List Ended) : Type 0 where
    pub now_broken : Bool
    pub new : Content
    pub holds : HoldsAs g now_broken new after
    pub noted_of : IsNotedOf (names_of g before) old new was is ends

  -- The same with what a failure leaves. A store that had failed before stays as it is. Where a failure was reported the store has
  -- failed, and no transaction was applied after it; and of a store that has failed since a crash leaves the new content, or one
  -- transaction more.
  pub record IsLedOver (before after : Store S g) (broken : Bool) (old : Content) (was is : Account) (ends : List Ended) : Type 0 where
    pub led : IsLedTo before after broken old was is ends
    pub still : broken ≡ true → (after ≡ before) × (led.now_broken ≡ true) × (applied_in led.noted_of.notices ≡ [])
    pub breaks : has_failure led.noted_of.notices ≡ true → led.now_broken ≡ true
    pub fails : EndsAtFailure led.noted_of.notices
    pub leaves : broken ≡ false → led.now_broken ≡ true
        → (schema : Schema) × LeavesOnly g schema after (IsLeftOfNoted (names_of g before) led.noted_of.notices led.new)

  -- The same since a database with that content was opened.
  pub record IsLedSinceOpening (before after : Store S g) (broken : Bool) (old : Content) (was is : Account) (ends : List Ended) : Type 0 where
    pub now_broken : Bool
    pub new : Content
    pub holds : HoldsAs g now_broken new after
    pub noted_of : IsNotedSinceOpening (names_of g before) old new was is ends
    pub breaks : has_failure noted_of.noted_of.notices ≡ true → now_broken ≡ true
    pub leaves : broken ≡ false → now_broken ≡ true
        → (schema : Schema) × LeavesOnly g schema after (IsLeftOfNoted (names_of g before) noted_of.noted_of.notices new)
