-- Private: the effect of a call inside a transaction of the database.
use Rattle.std.specs.Prelude.{◌≡◌, ◌≢◌, ◌<◌, [], nat_lt, ℕ, Bool, true, false, IsTrue, if◌then◌else◌, List, ◌∷◌, ◌++◌, MatchBool, Option, Some, None, Result, Ok, Err, OnOk, IsPermutation, ℤ, map}
use Rattle.std.specs.List.{AllByRecursion}
use Rattle.std.specs.Borrow.{MutBor}
use Rattle.sqlite_value.specs.Order.{Row}
use Rattle.gtid.specs.Identifier.{Ids}
use Rattle.gtid.specs.Span.{IsLeast, IsLeastList}
use Rattle.gtid.specs.declared.span.Span.{Span}
use Rattle.sqlite.specs.Effect.{IsDatabase}
use Rattle.sqlite.specs.State.{State, HasCleanDisk, KeepsCommit, Survives, IsUnchanged}
use Rattle.sqlite.specs.Held.{Held, state}
use Rattle.sqlite_trees.specs.declared.store.Store.{Ghosts}
use Rattle.binlog.specs.Filter.{Names}
use Rattle.gather.specs.Image.{IsSomeImage}
use Rattle.gather.specs.Transaction.{ChangeValue}
use Rattle.store.specs.declared.row_change.Refusal.{Refusal}
use Rattle.store.specs.declared.row_change.Refusal.TheVariants.{NoSuchRow, CountFull}
use Rattle.store.specs.Layout.{IsLaidOut}
use Rattle.store.specs.Beside.{LiesBeside}
use Rattle.store.specs.Changes.{most, IsMade, IsRefused, IsDone, AreDone, is_admitted, IsRefusedAt}
use Rattle.store.specs.Rows.{AreNames, meta_rows, held_rows, span_rows, follow_rows, HasRowids, IsHeldRow, Key, KeyCounts, count, with_one, without_one, bag_of, shown_spans, begins_at, stored_span}

-- The connection is in a transaction on a database of the layout, and what lies beside is as it was committed.
pub record IsWorking (s : State) : Type 0 where
  pub is_open : IsTrue s.is_open
  pub inside : s.in_transaction ≡ true
  pub laid_out : IsLaidOut s.now.schema
  pub held_apart : HasRowids (held_rows s.now)
  pub spans_apart : HasRowids (span_rows s.now)
  pub lawful : AllByRecursion IsHeldRow (held_rows s.now)
  pub sound : IsDatabase s.now
  pub beside : LiesBeside s.committed s.now

-- A connection that is open now was open before.
abbrev pub WasOpen : State → State → Type 0
WasOpen old new = IsTrue new.is_open → IsTrue old.is_open

-- What a call inside a transaction keeps, whatever it answers.
pub record Stays {S X E : Type 0} (g : Ghosts S) (old new : MutBor (Held S)) (r : Result X E) : Type 0 where
  -- The transaction is of the same connection.
  pub same_reference : new.ghost_name ≡ old.ghost_name
  -- What was committed stays, for a crash too.
  pub kept : HasCleanDisk (state g new.now) → (state g old.now).in_transaction ≡ true → KeepsCommit (state g old.now) (state g new.now)
  pub survives : Survives (state g old.now) (state g new.now) (λ _. ⊥)
  -- After an answer the transaction goes on.
  pub inside : OnOk r (HasCleanDisk (state g new.now) → (state g new.now).in_transaction ≡ (state g old.now).in_transaction)
  -- A connection that is open afterwards was open before.
  pub opened : HasCleanDisk (state g new.now) → WasOpen (state g old.now) (state g new.now)

-- This holds from the state before a call within a transaction, on a database of the layout, to the one after it, if the disk is clean then.
abbrev pub Within : {S : Type 0} → Ghosts S → MutBor (Held S) → MutBor (Held S) → (State → State → Type 0) → Type 0
Within g old new Holds = HasCleanDisk (state g new.now) → IsWorking (state g old.now) → Holds (state g old.now) (state g new.now)

-- A call that answers turns a state of the one kind into one of the other kind, if the disk is clean then.
abbrev pub TurnsInto : {S X E : Type 0} → Ghosts S → MutBor (Held S) → MutBor (Held S) → Result X E → (State → Type 0) → (State → Type 0) → Type 0
TurnsInto g old new r Was Is = HasCleanDisk (state g new.now) → Was (state g old.now) → OnOk r (Is (state g new.now))

-- The transaction goes on, and nothing is committed.
pub record StaysOpen (old new : State) : Type 0 where
  pub working : IsWorking new
  pub schema : new.now.schema ≡ old.now.schema
  pub committed : new.committed ≡ old.committed
  pub meta : meta_rows new.now ≡ meta_rows old.now
  pub follow : follow_rows new.now ≡ follow_rows old.now

-- Only the names in follow have changed, to these.
pub record StoresNames (old new : State) (names : Names) : Type 0 where
  pub working : IsWorking new
  pub schema : new.now.schema ≡ old.now.schema
  pub committed : new.committed ≡ old.committed
  pub meta : meta_rows new.now ≡ meta_rows old.now
  pub held : held_rows new.now ≡ held_rows old.now
  pub spans : span_rows new.now ≡ span_rows old.now
  pub names_are : AreNames (follow_rows new.now) names

-- Only the counts of held have changed, to these.
pub record HasCounts (old new : State) (counts : KeyCounts) : Type 0 where
  pub on : StaysOpen old new
  pub spans : span_rows new.now ≡ span_rows old.now
  pub counts_are : count (held_rows new.now) ≡ counts

-- Only the spans have changed: these rows are stored now, in some order.
pub record Moves (old new : State) (after : List Row) : Type 0 where
  pub on : StaysOpen old new
  pub held : held_rows new.now ≡ held_rows old.now
  pub stored : IsPermutation after (shown_spans (span_rows new.now))

-- Of the stored spans this one begins there, and these are the others.
pub record Begins (source : List ℕ) (lo : ℤ) (rows : List Row) (span : Row) (others : List Row) : Type 0 where
  pub begins : begins_at source lo span ≡ true
  pub apart : AllByRecursion (λ r. begins_at source lo r ≡ false) others
  pub all : IsPermutation (span ∷ others) rows

-- The rows are these spans, in any order: none is empty, and no two overlap or touch.
pub record AreRowsOf (rows : List Row) (spans : List Span) : Type 0 where
  pub least : IsLeast spans
  pub rows_are : IsPermutation (map stored_span spans) (shown_spans rows)

-- Some of these spans are stored in addition to the earlier rows, and the rest are left.
pub record HasLeft (old new : State) (spans rest : List Span) : Type 0 where
  pub on : StaysOpen old new
  pub held : held_rows new.now ≡ held_rows old.now
  pub stored : IsPermutation (shown_spans (span_rows old.now) ++ map stored_span spans) (shown_spans (span_rows new.now) ++ map stored_span rest)

-- ---- Recording a transaction.

-- The rows of spans are these, the least intervals of the set.
pub record Shows (rows : List Row) (spans : List Span) (ids : Ids) : Type 0 where
  pub least : IsLeastList spans ids
  pub rows_are : IsPermutation (map stored_span spans) (shown_spans rows)

-- Only the spans have changed, and they are the least intervals of this set.
pub record Records (old new : State) (ids : Ids) : Type 0 where
  pub on : StaysOpen old new
  pub held : held_rows new.now ≡ held_rows old.now
  pub spans : List Span
  pub shows : Shows (span_rows new.now) spans ids

-- ---- Counts.

-- one more of a row, or one less
abbrev pub added : Key → KeyCounts → Result KeyCounts Refusal
added key counts = if nat_lt (counts key) most then Ok (with_one key counts) else Err CountFull

abbrev pub removed : Key → KeyCounts → Result KeyCounts Refusal
removed key counts = if nat_lt 0 (counts key) then Ok (without_one key counts) else Err NoSuchRow

-- The transaction has these counts, or the change is refused for this reason.
abbrev pub Counted : State → State → Result KeyCounts Refusal → Option Refusal → Type 0
Counted old new (Ok counts) None = HasCounts old new counts
Counted old new (Ok counts) (Some why) = ⊥
Counted old new (Err e) None = ⊥
Counted old new (Err e) (Some why) = why ≡ e

-- The row was there once and is not there now, or it was not there once and all counts are as they were.
abbrev pub Deletes : Key → State → State → Bool → Type 0
Deletes key old new true = (count (held_rows old.now) key ≡ 1) × HasCounts old new (without_one key (count (held_rows old.now)))
Deletes key old new false = (count (held_rows old.now) key ≢ 1) × HasCounts old new (count (held_rows old.now))

-- ---- Rows.

-- Only rows of held have changed.
pub record Goes (old new : State) : Type 0 where
  pub on : StaysOpen old new
  pub spans : span_rows new.now ≡ span_rows old.now

-- The count of each key in turn is below the greatest, and one is added to it.
abbrev pub Raises : List Key → KeyCounts → KeyCounts → Type 0
Raises [] old new = new ≡ old
Raises (key ∷ keys) old new = (old key < most) × Raises keys (with_one key old) new

-- Only one copy of each of these rows in turn was added.
abbrev pub Adds : List Key → State → State → Type 0
Adds keys old new = Goes old new × Raises keys (count (held_rows old.now)) (count (held_rows new.now))

-- Each key in turn was not there, and is there once.
abbrev pub Appear : List Key → KeyCounts → KeyCounts → Type 0
Appear [] old new = new ≡ old
Appear (key ∷ keys) old new = (old key ≡ 0) × Appear keys (with_one key old) new

-- Only these rows were added, none of which was there and no two of which are the same.
abbrev pub AddsNew : List Key → State → State → Type 0
AddsNew keys old new = Goes old new × Appear keys (count (held_rows old.now)) (count (held_rows new.now))

-- The rows were new and were added, or nothing has changed.
abbrev pub Inserts : List Key → State → State → Bool → Type 0
Inserts keys old new true = AllByRecursion (λ key. IsSomeImage key.image) keys → AddsNew keys old new
Inserts keys old new false = IsUnchanged old new

-- The change is made, or refused for this reason.
abbrev pub Makes : ChangeValue → State → State → Option Refusal → Type 0
Makes change old new None = Goes old new × IsMade change (bag_of (count (held_rows old.now))) (bag_of (count (held_rows new.now)))
Makes change old new (Some why) = IsRefused change (bag_of (count (held_rows old.now))) why

-- As Makes, and a change of a table that the filter leaves out is skipped.
abbrev pub Does : Names → ChangeValue → State → State → Option Refusal → Type 0
Does names change old new None = Goes old new × IsDone names change (bag_of (count (held_rows old.now))) (bag_of (count (held_rows new.now)))
Does names change old new (Some why) = (is_admitted names change ≡ true) × IsRefused change (bag_of (count (held_rows old.now))) why

-- The changes are done, or the one with this index is refused.
abbrev pub DoesAll : Names → List ChangeValue → State → State → Option (ℕ × Refusal) → Type 0
DoesAll names changes old new None = Goes old new × AreDone names changes (bag_of (count (held_rows old.now))) (bag_of (count (held_rows new.now)))
DoesAll names changes old new (Some refused) = IsRefusedAt names changes (bag_of (count (held_rows old.now))) refused.0 refused.1

-- The same, if they are done in order; in another order a refusal says nothing.
abbrev pub DoesIn : Bool → Names → List ChangeValue → State → State → Option (ℕ × Refusal) → Type 0
DoesIn in_order names changes old new None = DoesAll names changes old new None
DoesIn in_order names changes old new (Some refused) = MatchBool in_order (DoesAll names changes old new (Some refused)) (Unit {0})

-- ---- More names, and another executed set.

-- Only the names and the spans have changed: these are the names, and the spans are the least intervals of this set.
pub record HasWidened (old new : State) (names : Names) (ids : Ids) : Type 0 where
  pub working : IsWorking new
  pub schema : new.now.schema ≡ old.now.schema
  pub committed : new.committed ≡ old.committed
  pub meta : meta_rows new.now ≡ meta_rows old.now
  pub held : held_rows new.now ≡ held_rows old.now
  pub names_are : AreNames (follow_rows new.now) names
  pub spans : List Span
  pub shows : Shows (span_rows new.now) spans ids
