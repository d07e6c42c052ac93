-- What opening a database with a connection comes to.
use Rattle.std.specs.Prelude.{◌≡◌, ◌⊎◌, true, false, Option, Result, Err, IfOk, IfErr, MatchResult}
use Rattle.sqlite_trees.specs.declared.store.Store.{Ghosts}
use Rattle.sqlite.specs.State.{HasCleanDisk, Survives}
use Rattle.sqlite.specs.Held.{Held, state}
use Rattle.binlog.specs.Filter.{Names}
use Rattle.store.specs.declared.fault.StoreFault.{StoreFault}
use Rattle.store.specs.declared.fault.StoreFault.TheVariants.{Damaged}
use Rattle.store.specs.declared.store.Store.{Store}
use Rattle.store.specs.State.{Content}
use Rattle.store.specs.Layout.{IsLaidOut}
use Rattle.store.specs.Beside.{LiesBeside}
use Rattle.store.specs.Apply.{Rests}
use Rattle.store.specs.Faults.{IsOpenFault, IsFailure}
use Rattle.store.specs.Entering.{IsReady, IsTurned, IsWanted, IsRefusedOpening, IsLeft, ReadsLeft, MayEnter, tables_of, has_any, names_for}
use Rattle.store.specs.Store.{Holds, Opens, database, names_of}

-- The database of the connection was opened for these names, or for its own if none are wanted, or
-- it was refused.
pub record IsOpenedFor {S : Type 0} (g : Ghosts S) (wanted : Option Names) (conn : Held S)
    (result : Result (Store S g) (StoreFault × Held S)) : Type 0 where
  -- The store holds what the database stood for.
  pub opens : IfOk result (λ store. HasCleanDisk (database g store) → IsReady (state g conn)
      → Opens g wanted (state g conn) store)
  -- What lies beside stays.
  pub beside : IfOk result (λ store. HasCleanDisk (database g store) → IsReady (state g conn)
      → LiesBeside (state g conn).now (database g store).now)
  -- In a database of layout 2 nothing changes.
  pub unchanged : IfOk result (λ store. HasCleanDisk (database g store) → IsReady (state g conn)
      → IsLaidOut (state g conn).now.schema → (database g store).now ≡ (state g conn).now)
  -- A refusal has its reason, and nothing has changed.
  pub turned : IfErr result (λ e. HasCleanDisk (state g e.1) → IsReady (state g conn)
      → IsTurned wanted (state g conn) (state g e.1) e.0)
  -- A refusal leaves any database as it was, whatever its tables are.
  pub refused : IfErr result (λ e. HasCleanDisk (state g e.1)
      → (state g conn).now ≡ (state g conn).committed → Rests (state g conn) (state g e.1))
  -- So does a crash after it, unless the database failed or memory ran out.
  pub spared : IfErr result (λ e. IsFailure e.0 ⊎ Survives (state g conn) (state g e.1) (λ _. ⊥))
  -- Tables without `meta` are damaged, whatever else the database has.
  pub headless : (tables_of (state g conn).now.schema).meta ≡ false
      → has_any (tables_of (state g conn).now.schema) ≡ true → result ≡ Err (Damaged, conn)
  -- A refused connection is in no transaction.
  pub autocommit : IfErr result (λ e. e.1.in_transaction ≡ false)
  -- A crash leaves what it could before, or the same in tables of layout 2; also after a refusal.
  pub crash : IfOk result (λ store. IsReady (state g conn)
      → Survives (state g conn) (database g store) (MayEnter (names_for wanted) (state g conn)))
  pub left : IfErr result (λ e. IsReady (state g conn)
      → Survives (state g conn) (state g e.1) (MayEnter (names_for wanted) (state g conn)))
  -- Over what a crash left of a content the store holds that content, which was made for wanted names,
  -- or it is refused for a failure, or since it was made for others.
  pub reopens : (names : Names) (content : Content)
      → ReadsLeft (names_for wanted) names content (state g conn)
      → MatchResult result
      (λ store. HasCleanDisk (database g store)
      → Holds g store content × (names_of g store ≡ names) × IsWanted wanted names)
      (λ e. HasCleanDisk (state g e.1) → IsRefusedOpening wanted names e.0)
  -- A crash then leaves what it could before, or that content again.
  pub leaves : (names : Names) (content : Content)
      → ReadsLeft (names_for wanted) names content (state g conn)
      → MatchResult result
      (λ store. Survives (state g conn) (database g store) (IsLeft (names_for wanted) names content))
      (λ e. Survives (state g conn) (state g e.1) (IsLeft (names_for wanted) names content))
  -- Which faults there are, whatever the database is.
  pub fault : IfErr result (λ e. IsOpenFault wanted e.0)
  -- If the disk is clean afterwards, it was so before.
  pub clean : MatchResult result
      (λ store. HasCleanDisk (database g store) → HasCleanDisk (state g conn))
      (λ e. HasCleanDisk (state g e.1) → HasCleanDisk (state g conn))
