-- A transaction of the source as one transaction of the database.
use Rattle.std.specs.Prelude.{Bool, false, ◌≡◌, ℕ, IsTrue, MatchBool, Option, Some, None, Result, Ok, Err, ◌≢◌, OnOk, IfErr}
use Rattle.sqlite_schema.specs.declared.schema.Schema.{Schema}
use Rattle.sqlite_trees.specs.Tree.{Trees}
use Rattle.sqlite_catalog.specs.Listing.{IsSound}
use Rattle.sqlite.specs.Effect.{Database as Stored, IsDatabase}
use Rattle.sqlite.specs.State.{State, HasCleanDisk, IsUnchanged, Survives}
use Rattle.gtid.specs.Identifier.{Ids}
use Rattle.gtid.specs.Beside.{Joins}
use Rattle.gtid.specs.declared.beside.Beside.{Beside}
use Rattle.binlog.specs.Filter.{Names}
use Rattle.gather.specs.Transaction.{DeliveryValue}
use Rattle.store.specs.declared.row_change.Refusal.{Refusal}
use Rattle.store.specs.declared.row_change.Refusal.TheVariants as why
use Rattle.store.specs.declared.fault.Applied.{Applied}
use Rattle.store.specs.declared.fault.Applied.TheVariants.{Done, Repeat}
use Rattle.store.specs.declared.fault.StoreFault.{StoreFault}
use Rattle.store.specs.declared.fault.StoreFault.TheVariants.{NoSuchRow, CountFull, Database, Memory}
use Rattle.store.specs.State.{Content}
use Rattle.store.specs.Changes.{is_executed, with_executed, widened, HasOutcome, done, refused}
use Rattle.store.specs.Rows.{StandsFor, HasRowids, held_rows, span_rows}
use Rattle.store.specs.Inside.{StaysOpen, WasOpen}
use Rattle.store.specs.Beside.{LiesBeside}
use Rattle.store.specs.Faults.{IsApplyFault}

-- The trees list this schema and obey it, and under it they stand for the content.
pub record AreOf (schema : Schema) (names : Names) (content : Content) (trees : Trees) : Type 0 where
  pub stands : StandsFor (record { schema = schema; trees = trees }) names content
  pub sound : IsSound schema trees
  pub spans_apart : HasRowids (span_rows (record { schema = schema; trees = trees }))

-- The database stands for what the transaction makes of the content.
pub record IsApplied (names : Names) (content : Content) (d : DeliveryValue) (schema : Schema) (trees : Trees) : Type 0 where
  pub after : Content
  pub outcome : HasOutcome names content d (done after)
  pub stands : AreOf schema names after trees

-- The trees of a database of the same schema leave what lies beside as it is.
abbrev pub SparesBeside : Stored → Trees → Type 0
SparesBeside old trees = LiesBeside old (record { schema = old.schema; trees = trees })

-- The transaction is not in the set of the content, and these are the spans of the set next to its number.
pub record IsNew (db : Stored) (names : Names) (content : Content) (d : DeliveryValue) (beside : Beside) : Type 0 where
  pub stands : StandsFor db names content
  pub out : is_executed content d ≡ false
  pub joins : Joins content.executed (d.source, d.number) beside stands.executed.spans

-- The change with this index is refused for this reason, if the changes are made in order; in another order neither says
-- anything.
abbrev pub IsRefusedIn : Bool → Names → Content → DeliveryValue → ℕ × Refusal → Type 0
IsRefusedIn in_order names content d why = MatchBool in_order (HasOutcome names content d (refused why.0 why.1)) (Unit {0})

-- what making the changes and recording the GTID does inside the database's transaction
abbrev pub Fills : Bool → Names → Content → DeliveryValue → State → State → Option (ℕ × Refusal) → Type 0
Fills in_order names content d old new None = StaysOpen old new × IsApplied names content d new.now.schema new.now.trees
Fills in_order names content d old new (Some why) = IsRefusedIn in_order names content d why

-- The connection is open, in no transaction that has changed anything, and this is what its database stands for.
pub record IsAtRest (s : State) (names : Names) (content : Content) : Type 0 where
  pub is_open : IsTrue s.is_open
  pub settled : s.now ≡ s.committed
  pub held_apart : HasRowids (held_rows s.now)
  pub spans_apart : HasRowids (span_rows s.now)
  pub stands : StandsFor s.now names content
  pub sound : IsDatabase s.now

-- Nothing has changed, if the connection is still open.
abbrev pub Rests : State → State → Type 0
Rests old new = IsTrue new.is_open → (new.now ≡ old.now) × (new.committed ≡ old.committed)

-- The connection is at rest with what the transaction makes of the content.
pub record IsAtRestAfter (names : Names) (content : Content) (d : DeliveryValue) (new : State) : Type 0 where
  pub after : Content
  pub outcome : HasOutcome names content d (done after)
  pub rest : IsAtRest new names after

abbrev pub RunsTransaction : {E : Type 0} → Bool → Names → Content → DeliveryValue → State → State → Result (Option (ℕ × Refusal)) E → Type 0
RunsTransaction in_order names content d old new (Ok None) = IsAtRestAfter names content d new × (new.now.schema ≡ old.now.schema) × LiesBeside old.now new.now
RunsTransaction in_order names content d old new (Ok (Some why)) = IsRefusedIn in_order names content d why × Rests old new
RunsTransaction in_order names content d old new (Err e) = Rests old new

-- The database stands for what the transaction makes of the content, and what lies beside is as it was.
abbrev pub IsAppliedAlone : Names → Content → DeliveryValue → Stored → Trees → Type 0
IsAppliedAlone names content d old trees = IsApplied names content d old.schema trees × SparesBeside old trees

-- What may be committed: what the transaction makes of the content, or nothing if it is refused.
abbrev pub MayCommit : {E : Type 0} → Names → Content → DeliveryValue → Stored → Result (Option (ℕ × Refusal)) E → Trees → Type 0
MayCommit names content d old (Ok None) trees = IsAppliedAlone names content d old trees
MayCommit names content d old (Ok (Some why)) trees = ⊥
MayCommit names content d old (Err e) trees = IsAppliedAlone names content d old trees

-- What a call comes to that runs the transaction, whose changes may be made in another order. A connection that is open then was open before,
-- and after a commit it is open.
pub record IsRun {E : Type 0} (in_order : Bool) (names : Names) (d : DeliveryValue) (beside : Beside) (old new : State) (r : Result (Option (ℕ × Refusal)) E) : Type 0 where
  pub runs : HasCleanDisk new → (content : Content) → IsAtRest old names content → IsNew old.now names content d beside → RunsTransaction in_order names content d old new r
  pub opened : HasCleanDisk new → WasOpen old new
  pub done : HasCleanDisk new → r ≡ Ok None → IsTrue new.is_open
  pub lives : Survives old new (λ _. Unit {0})
  pub crash : (content : Content) → IsAtRest old names content → IsNew old.now names content d beside → Survives old new (MayCommit names content d old.now r)
  pub autocommit : new.in_transaction ≡ false

-- ---- The executed set in memory, besides the connection.

-- The connection is at rest with what the transaction makes of the content, and the set is that of the new content.
pub record HasMoved (names : Names) (content : Content) (d : DeliveryValue) (old new : State) (executed : Ids) : Type 0 where
  pub applied : IsAtRestAfter names content d new
  pub schema : new.now.schema ≡ old.now.schema
  pub beside : LiesBeside old.now new.now
  pub set : executed ≡ applied.after.executed

-- Nothing has changed, and the change with this index is refused.
abbrev pub IsGivenUp : Names → Content → DeliveryValue → State → State → Ids → ℕ → Refusal → Type 0
IsGivenUp names content d old new executed at reason =
    HasOutcome names content d (refused at reason) × IsAtRest new names content × (executed ≡ content.executed) × (new.now ≡ old.now)

-- The outcome of a transaction that is not in the executed set.
abbrev pub Comes : Names → Content → DeliveryValue → State → State → Ids → Result Applied StoreFault → Type 0
Comes names content d old new executed (Ok Done) = HasMoved names content d old new executed
Comes names content d old new executed (Ok Repeat) = ⊥
Comes names content d old new executed (Err (NoSuchRow at)) = IsGivenUp names content d old new executed at why.NoSuchRow
Comes names content d old new executed (Err (CountFull at)) = IsGivenUp names content d old new executed at why.CountFull
Comes names content d old new executed (Err (Database e)) = Rests old new × (executed ≡ content.executed)
Comes names content d old new executed (Err Memory) = Rests old new × (executed ≡ content.executed)
Comes names content d old new executed (Err _) = ⊥

-- What such a transaction may commit.
abbrev pub MayMove : Names → Content → DeliveryValue → Stored → Result Applied StoreFault → Trees → Type 0
MayMove names content d old (Ok Done) trees = IsAppliedAlone names content d old trees
MayMove names content d old (Err (Database e)) trees = IsAppliedAlone names content d old trees
MayMove names content d old _ trees = ⊥

-- A refused change is reported and the connection is as it was, or a failure of the database is reported.
abbrev pub IsReported : ℕ → Refusal → State → State → StoreFault → Type 0
IsReported at reason old new (NoSuchRow n) = (n ≡ at) × (reason ≡ why.NoSuchRow) × IsUnchanged old new
IsReported at reason old new (CountFull n) = (n ≡ at) × (reason ≡ why.CountFull) × IsUnchanged old new
IsReported at reason old new (Database e) = IsTrue new.is_open → IsTrue old.is_open × (old.now ≡ old.committed → (new.now ≡ old.now) × (new.committed ≡ old.committed))
IsReported at reason old new _ = ⊥

-- On a connection that is shut the transaction fails, and nothing changes.
abbrev pub FailsShut : State → Ids → Ids → Result Applied StoreFault → Type 0
FailsShut new old_set set (Err (Database e)) = (new.is_open ≡ false) × (set ≡ old_set)
FailsShut new old_set set (Err Memory) = (new.is_open ≡ false) × (set ≡ old_set)
FailsShut new old_set set _ = ⊥

-- What a call comes to that applies a transaction which is not in this executed set. It answers the set as it is then.
pub record RunsNew (names : Names) (d : DeliveryValue) (set : Ids) (old new : State) (after : Ids) (r : Result Applied StoreFault) : Type 0 where
  pub comes : HasCleanDisk new → (content : Content) → IsAtRest old names content → set ≡ content.executed → Comes names content d old new after r
  pub crash : (content : Content) → IsAtRest old names content → set ≡ content.executed → Survives old new (MayMove names content d old.now r)
  pub lives : Survives old new (λ _. Unit {0})
  pub shut : HasCleanDisk new → old.is_open ≡ false → FailsShut new set after r
  pub other : r ≢ Err Memory
  pub fault : IfErr r IsApplyFault
  pub autocommit : new.in_transaction ≡ false

-- ---- Another executed set.

-- The connection is at rest with this content, and the schema and what lies beside are the same; or nothing has changed.
abbrev pub Replaces : {E : Type 0} → Names → Content → State → State → Result (Unit {0}) E → Type 0
Replaces names after old new (Ok u) = IsAtRest new names after × (new.now.schema ≡ old.now.schema) × LiesBeside old.now new.now
Replaces names after old new (Err e) = Rests old new

-- What a call comes to that stores the set after it in place of the executed set. A connection that is open then was open before, and after a
-- commit it is open.
pub record IsReplaced {E : Type 0} (executed after : Ids) (old new : State) (r : Result (Unit {0}) E) : Type 0 where
  pub replaces : HasCleanDisk new → (names : Names) → (content : Content) → IsAtRest old names content → executed ≡ content.executed → Replaces names (with_executed after content) old new r
  pub opened : HasCleanDisk new → WasOpen old new
  pub done : HasCleanDisk new → OnOk r (IsTrue new.is_open)
  pub lives : Survives old new (λ _. Unit {0})
  pub crash : (names : Names) → (content : Content) → IsAtRest old names content → executed ≡ content.executed
      → Survives old new (λ trees. AreOf old.now.schema names (with_executed after content) trees × SparesBeside old.now trees)
  pub autocommit : new.in_transaction ≡ false

-- ---- More tables, and another executed set.

-- What a call comes to that adds these names to the filter and stores the set after it in place of the executed set, both or neither. A
-- connection that is open then was open before, and after a commit it is open.
pub record IsWidened {E : Type 0} (following more : Names) (executed after : Ids) (old new : State) (r : Result (Unit {0}) E) : Type 0 where
  pub widens : HasCleanDisk new → (content : Content) → IsAtRest old following content → executed ≡ content.executed → Replaces (widened following more) (with_executed after content) old new r
  pub opened : HasCleanDisk new → WasOpen old new
  pub done : HasCleanDisk new → OnOk r (IsTrue new.is_open)
  pub lives : Survives old new (λ _. Unit {0})
  pub crash : (content : Content) → IsAtRest old following content → executed ≡ content.executed
      → Survives old new (λ trees. AreOf old.now.schema (widened following more) (with_executed after content) trees × SparesBeside old.now trees)
  pub autocommit : new.in_transaction ≡ false
