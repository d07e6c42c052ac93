-- What a store holds, and the outcome of applying a transaction.
use Rattle.std.specs.Prelude.{◌≡◌, ◌⊎◌, ℕ, Bool, true, false, IsTrue, MatchBool, Option, Result, Ok, Err, IsErr}
use Rattle.sqlite_trees.specs.declared.store.Store.{Ghosts}
use Rattle.sqlite_trees.specs.Tree.{Trees}
use Rattle.sqlite_schema.specs.declared.schema.Schema.{Schema}
use Rattle.sqlite.specs.State.{State, HasCleanDisk}
use Rattle.sqlite.specs.Held.{Held, state}
use Rattle.gtid.specs.Identifier.{Ids}
use Rattle.binlog.specs.Filter.{Names}
use Rattle.gather.specs.Transaction.{DeliveryValue}
use Rattle.store.specs.declared.row_change.Refusal.TheVariants as why
use Rattle.store.specs.declared.fault.Applied.{Applied}
use Rattle.store.specs.declared.fault.Applied.TheVariants.{Done, Repeat}
use Rattle.store.specs.declared.fault.StoreFault.{StoreFault}
use Rattle.store.specs.declared.fault.StoreFault.TheVariants.{NoSuchRow, CountFull, Database, Memory}
use Rattle.store.specs.declared.store.Store.{Store}
use Rattle.store.specs.State.{Content, TableRow}
use Rattle.store.specs.Changes.{HasOutcome, is_executed, done, repeat, refused, adopted, widened}
use Rattle.store.specs.Beside.{LiesBeside}
use Rattle.store.specs.Apply.{IsAtRest, IsApplied, SparesBeside}
pub use Rattle.store.specs.Apply.{AreOf}
use Rattle.store.specs.Entering.{IsOf, IsWanted, names_for}

module _ {S : Type 0} (g : Ghosts S) where
  -- the connection of a store, and its database
  abbrev pub connection : Store S g → Held S
  connection store = store.conn

  abbrev pub database : Store S g → State
  database store = state g store.conn

  -- the tables whose rows it keeps
  abbrev pub names_of : Store S g → Names
  names_of store = store.following

  -- whether the store has failed
  abbrev pub IsBroken : Store S g → Type 0
  IsBroken store = store.broken ≡ true

  abbrev pub IsUnbroken : Store S g → Type 0
  IsUnbroken store = store.broken ≡ false

  -- The store is whole: its tables, its connection and its set in memory stand for this content.
  pub record Holds (store : Store S g) (content : Content) : Type 0 where
    pub whole : IsUnbroken store
    pub executed : store.executed ≡ content.executed
    pub rest : IsAtRest (database store) store.following content

  -- The store is whole and its set in memory stands for this content, and so do its tables if the connection is still
  -- open. A fault of the disk shuts it.
  pub record Keeps (store : Store S g) (content : Content) : Type 0 where
    pub whole : IsUnbroken store
    pub executed : store.executed ≡ content.executed
    pub rest : IsTrue (database store).is_open → IsAtRest (database store) store.following content

  -- The store has failed: its set in memory stands for this content, and so do its tables if the connection is still
  -- open.
  pub record HasFailed (store : Store S g) (content : Content) : Type 0 where
    pub broken : IsBroken store
    pub executed : store.executed ≡ content.executed
    pub rest : IsTrue (database store).is_open → IsAtRest (database store) store.following content

  -- The store holds this content, and has failed or not.
  abbrev pub HoldsAs : Bool → Content → Store S g → Type 0
  HoldsAs broken content store = MatchBool broken (HasFailed store content) (Holds store content)

  -- What a call that may change the content keeps otherwise, and which names it leaves. But for the first two facts this is said of a
  -- store that held a content, and of a disk that is clean after the call.
  pub record KeepsRestWith {X : Type 0} (names : Names) (before after : Store S g) (answer : Result X StoreFault) : Type 0 where
    -- These are the names, and if the disk is clean after the call, it was so before.
    pub following : names_of after ≡ names
    pub clean : HasCleanDisk (database after) → HasCleanDisk (database before)
    -- A store that is still whole has the same schema.
    pub schema : HasCleanDisk (database after) → (content : Content) → Holds before content → IsUnbroken after → (database after).now.schema ≡ (database before).now.schema
    -- What lies beside stays, where the connection is still open, and a crash leaves it as it was.
    pub beside : HasCleanDisk (database after) → (content : Content) → Holds before content → IsTrue (database after).is_open → LiesBeside (database before).now (database after).now
    pub crash_beside : HasCleanDisk (database after) → (content : Content) → Holds before content → (trees : Trees) → (database after).may_leave trees → SparesBeside (database before).now trees
    -- After a fault the whole database is as it was, where the connection is still open.
    pub unchanged : HasCleanDisk (database after) → (content : Content) → Holds before content → IsErr answer → IsTrue (database after).is_open → (database after).now ≡ (database before).now

  -- The same where the names stay.
  abbrev pub KeepsRest : {X : Type 0} → Store S g → Store S g → Result X StoreFault → Type 0
  KeepsRest before after answer = KeepsRestWith (names_of before) before after answer

  -- The store holds what the transaction makes of the content.
  pub record HoldsApplied (names : Names) (content : Content) (d : DeliveryValue) (new : Store S g) : Type 0 where
    pub after : Content
    pub outcome : HasOutcome names content d (done after)
    pub holds : Holds new after

  -- The outcome of applying a transaction to a store that holds this content.
  abbrev pub Applies : Content → DeliveryValue → Store S g → Store S g → Result Applied StoreFault → Type 0
  Applies content d old new (Ok Done) = HoldsApplied old.following content d new
  Applies content d old new (Ok Repeat) = HasOutcome old.following content d repeat × (new ≡ old)
  Applies content d old new (Err (NoSuchRow at)) = HasOutcome old.following content d (refused at why.NoSuchRow) × Holds new content
  Applies content d old new (Err (CountFull at)) = HasOutcome old.following content d (refused at why.CountFull) × Holds new content
  Applies content d old new (Err (Database e)) = (is_executed content d ≡ false) × HasFailed new content
  Applies content d old new (Err Memory) = (is_executed content d ≡ false) × HasFailed new content × (connection new ≡ connection old)
  Applies content d old new (Err _) = ⊥

  -- The number of copies of a row is answered, and the store holds the same content. After a failure it keeps it.
  abbrev pub Counts : Content → TableRow → Store S g → Result ℕ StoreFault → Type 0
  Counts content row new (Ok n) = (n ≡ content.rows row) × Holds new content
  Counts content row new (Err (Database e)) = Keeps new content
  Counts content row new (Err _) = ⊥

  -- The outcome of applying a transaction, and of a reading, if the connection was shut.
  abbrev pub AppliesShut : Content → DeliveryValue → Store S g → Store S g → Result Applied StoreFault → Type 0
  AppliesShut content d old new (Ok Repeat) = HasOutcome old.following content d repeat × (new ≡ old)
  AppliesShut content d old new (Err (Database e)) = (is_executed content d ≡ false) × HasFailed new content
  AppliesShut content d old new (Err Memory) = (is_executed content d ≡ false) × HasFailed new content
  AppliesShut content d old new _ = ⊥

  abbrev pub ReadsShut : {X : Type 0} → Content → Store S g → Result X StoreFault → Type 0
  ReadsShut content new (Err (Database e)) = Keeps new content
  ReadsShut content new _ = ⊥

  -- The outcome of adopting a set in a store that holds this content.
  abbrev pub Adopts : Content → Ids → Store S g → Store S g → Result (Unit {0}) StoreFault → Type 0
  Adopts content ids old new (Ok u) = Holds new (adopted content ids)
  Adopts content ids old new (Err (Database e)) = HasFailed new content
  Adopts content ids old new (Err Memory) = HasFailed new content × (connection new ≡ connection old)
  Adopts content ids old new (Err _) = ⊥

  -- The outcome of adopting a set with a GTID that is not executed, if the connection was shut.
  abbrev pub AdoptsShut : Content → Store S g → Result (Unit {0}) StoreFault → Type 0
  AdoptsShut content new (Err (Database e)) = HasFailed new content
  AdoptsShut content new (Err Memory) = HasFailed new content
  AdoptsShut content new _ = ⊥

  -- The store holds what the database stood for.
  pub record Opens (only : Option Names) (old : State) (store : Store S g) : Type 0 where
    pub content : Content
    pub of : IsOf (names_for only) store.following old.now content
    pub wanted : IsWanted only store.following
    pub holds : Holds store content

-- What a crash leaves of a transaction that a store has applied.
abbrev pub Leaves : Schema → Names → Content → DeliveryValue → Result Applied StoreFault → Trees → Type 0
Leaves schema names content d (Ok Done) trees = IsApplied names content d schema trees
Leaves schema names content d (Err (Database e)) trees = AreOf schema names content trees ⊎ IsApplied names content d schema trees
Leaves schema names content d _ trees = AreOf schema names content trees

-- What a crash leaves of a set that a store has adopted.
abbrev pub LeavesAdopted : Schema → Names → Content → Ids → Result (Unit {0}) StoreFault → Trees → Type 0
LeavesAdopted schema names content ids (Ok u) trees = AreOf schema names (adopted content ids) trees
LeavesAdopted schema names content ids (Err (Database e)) trees = AreOf schema names content trees ⊎ AreOf schema names (adopted content ids) trees
LeavesAdopted schema names content ids _ trees = AreOf schema names content trees

-- the names after a call that adds some
abbrev pub names_left : Names → Names → Result (Unit {0}) StoreFault → Names
names_left names more (Ok u) = widened names more
names_left names more (Err e) = names

-- What a crash leaves of names that a store has admitted, with a set.
abbrev pub LeavesAdmitted : Schema → Names → Names → Content → Ids → Result (Unit {0}) StoreFault → Trees → Type 0
LeavesAdmitted schema names more content ids (Ok u) trees = AreOf schema (widened names more) (adopted content ids) trees
LeavesAdmitted schema names more content ids (Err (Database e)) trees = AreOf schema names content trees ⊎ AreOf schema (widened names more) (adopted content ids) trees
LeavesAdmitted schema names more content ids _ trees = AreOf schema names content trees

-- whether the database has to be opened again after this answer
abbrev pub breaks : Result Applied StoreFault → Bool
breaks (Err (Database e)) = true
breaks (Err Memory) = true
breaks _ = false
