-- Private: reading whole tables when a database is opened, and what the rows stand for.
use Rattle.std.specs.Prelude.{◌≡◌, ◌⊎◌, ℕ, ℤ, suc, zero, pos, negsuc, true, false, List, [], ◌∷◌, codes, length, Option, None, Result, Ok, Err, IfOk, IfErr, OnOk, OnErr, IsTrue, IsPermutation}
use Rattle.sqlite_value.specs.declared.value.Value.TheVariants.{Int}
use Rattle.sqlite_value.specs.declared.keys.Key.{Key}
use Rattle.sqlite_sql.specs.Term.{Term, lit, col}
use Rattle.sqlite_sql.specs.Query.{Query, inner, end, sort_cmp}
use Rattle.sqlite_value.specs.Order.{Row}
use Rattle.std.specs.Ordering.{is_lt}
use Rattle.std.specs.declared.cmp.Ordering.{Ordering}
use Rattle.sqlite_schema.specs.declared.schema.Schema.{Schema}
use Rattle.sqlite_schema.specs.declared.schema.Table.{Table}
use Rattle.sqlite_schema.specs.declared.schema.Column.{Column}
use Rattle.sqlite_schema.specs.declared.command.Command.TheVariants.{Select}
use Rattle.sqlite_rules.specs.Lists.{Has}
use Rattle.sqlite.specs.Effect.{Database as Stored}
use Rattle.sqlite.specs.State.{State, HasCleanDisk, Survives, KeepsCommit, IsUnchanged}
use Rattle.sqlite.specs.Held.{Held, state}
use Rattle.sqlite_trees.specs.declared.store.Store.{Ghosts}
use Rattle.sqlite_resolve.specs.declared.compiled.Compiled.{Compiled}
use Rattle.sqlite.specs.Listing.{understood, reads_listing}
use Rattle.sqlite.specs.Given.{IsPlain, HasGiven}
use Rattle.sqlite.proofs.Callers.{command_of}
use Rattle.gtid.specs.Identifier.{Ids}
use Rattle.binlog.specs.Filter.{Names}
use Rattle.store.specs.declared.fault.StoreFault.{StoreFault}
use Rattle.store.specs.declared.fault.StoreFault.TheVariants.{Database, Memory, Damaged}
use Rattle.store.specs.declared.table.held.Verdict.{Verdict}
use Rattle.store.specs.Judge.{HasVerdict}
use Rattle.store.specs.State.{Content}
use Rattle.store.specs.declared.layout.KnownLayout.{KnownLayout}
use Rattle.store.specs.declared.layout.KnownLayout.TheVariants.{First, Second}
use Rattle.store.specs.Layout.{IsFirstLaidOut, IsLaidOut}
use Rattle.store.specs.Rows.{SaysLayout, IsMetaRow, HasRowids, meta_rows}
use Rattle.std.specs.List.{AllByRecursion}
use Rattle.std.specs.Borrow.{MutBor}
use Rattle.store.specs.Apply.{IsAtRest, Rests}
use Rattle.store.specs.Inside.{WasOpen}
use Rattle.store.specs.Faults.{IsOpenFault, IsFailure}
use Rattle.store.specs.Open.{IsFirstAtRest}
use Rattle.store.specs.Entering.{IsReady, IsEntered, IsTurned, MayEnter, names_for, tables_of}
use Rattle.store.specs.declared.load.Loaded.{Loaded}

-- ---- The texts.

abbrev pub all_meta_text : List ℕ
all_meta_text = codes "SELECT rowid, k, v FROM meta ORDER BY rowid"

abbrev pub all_held_text : List ℕ
all_held_text = codes "SELECT rowid, schema_name, table_name, image, n FROM held ORDER BY rowid"

abbrev pub all_spans_text : List ℕ
all_spans_text = codes "SELECT rowid, source, lo, hi FROM spans ORDER BY rowid"

abbrev pub all_follow_text : List ℕ
all_follow_text = codes "SELECT rowid, schema_name, table_name FROM follow ORDER BY rowid"

-- of layout 1
abbrev pub all_executed_text : List ℕ
all_executed_text = codes "SELECT rowid, source, number FROM executed ORDER BY rowid"

-- ---- What they mean.

-- the first columns of a row, from this one on
abbrev pub columns_from : ℕ → ℕ → List Term
columns_from at zero = []
columns_from at (suc n) = col 1 at ∷ columns_from (suc at) n

-- the first columns of all rows of a tree, this many
abbrev pub whole : ℕ → ℕ → List (Term × Key) → Query
whole tree width order = record {
  from = inner tree end;
  filter = [];
  group = None;
  project = columns_from 0 width;
  distinct = false;
  collations = [];
  order = order;
  limit = lit (Int (negsuc 0));
  offset = lit (Int (pos 0));
}

-- the order of rows by ORDER BY
abbrev pub by_order : List (Term × Key) → Row → Row → Ordering
by_order order a b = sort_cmp order ([] ∷ a ∷ []) ([] ∷ b ∷ [])

-- No item is less than the one before it.
abbrev pub Ascends : {X : Type 0} → (X → X → Ordering) → List X → Type 0
Ascends cmp [] = Unit {0}
Ascends cmp (a ∷ []) = Unit {0}
Ascends cmp (a ∷ b ∷ items) = (is_lt (cmp b a) ≡ false) × Ascends cmp (b ∷ items)

-- The last column of the table is never NULL.
abbrev pub IsFilled : List Column → Type 0
IsFilled [] = ⊥
IsFilled (c ∷ []) = c.not_null ≡ true
IsFilled (c ∷ d ∷ cs) = IsFilled (d ∷ cs)

-- The text asks for the rows of this tree, which is that of a table, with all their columns.
pub record AsksAll (schema : Schema) (text : List ℕ) (tree : ℕ) : Type 0 where
  pub table : Table
  pub there : Has schema.tables table
  pub tree_is : table.tree ≡ tree
  pub rowid_apart : table.key ≡ None
  pub filled : IsFilled table.columns
  pub order : List (Term × Key)
  pub names : List (List ℕ)
  pub is : command_of (understood schema text) ≡ Select (record { lets = []; body = whole tree (suc (length table.columns)) order }) names
  pub plain : IsPlain (understood schema text)
  pub elsewhere : reads_listing schema text ≡ false

-- The rows are lawful rows of meta, and state this layout.
pub record StatesLayout (n : ℤ) (rows : List Row) : Type 0 where
  pub says : SaysLayout n rows
  pub lawful : AllByRecursion IsMetaRow rows
  pub apart : HasRowids rows

-- `meta` states this layout, and its tables are there.
abbrev pub HasLayout : Stored → KnownLayout → Type 0
HasLayout db First = IsFirstLaidOut db.schema × StatesLayout (pos 1) (meta_rows db)
HasLayout db Second = IsLaidOut db.schema × StatesLayout (pos 2) (meta_rows db)

-- ---- A call that reads.

-- This holds if the fault is that the rows are damaged.
abbrev pub OnDamaged : StoreFault → Type 0 → Type 0
OnDamaged Damaged P = P
OnDamaged _ P = Unit {0}

-- This holds if the call answers, or reports that the rows are damaged.
abbrev pub OnSeen : {X : Type 0} → Result X StoreFault → Type 0 → Type 0
OnSeen (Ok x) P = P
OnSeen (Err fault) P = OnDamaged fault P

-- a statement failed, an allocation was refused, or the rows break the rules
abbrev pub IsLoadFault : StoreFault → Type 0
IsLoadFault (Database e) = Unit {0}
IsLoadFault Memory = Unit {0}
IsLoadFault Damaged = Unit {0}
IsLoadFault _ = ⊥

-- The answer is lawful, or there is none. If the rows are reported as damaged, they break the rules.
abbrev pub Judges : {X : Type 0} → Result X StoreFault → (X → Type 0) → Type 0 → Type 0
Judges (Ok x) Lawful rules = Lawful x
Judges (Err fault) Lawful rules = IsLoadFault fault × OnDamaged fault (¬ rules)

-- Nothing is committed, and if there was nothing to commit, nothing has changed if the connection is still open.
pub record Rested (old new : State) : Type 0 where
  pub commit : KeepsCommit old new
  pub rests : old.now ≡ old.committed → Rests old new

-- Whatever the schema is, the text is no write that shows rows: it only reads.
abbrev pub OnlyReads : List ℕ → Type 0
OnlyReads text = (schema : Schema) (c : Compiled) → understood schema text ≡ Ok c → c.returning ≡ None

-- Only what reads was done, whatever the tables are.
pub record IsCalm (old new : State) : Type 0 where
  pub rested : HasCleanDisk new → Rested old new
  pub survives : Survives old new (λ _. ⊥)

-- What a call comes to that reads from tables which are laid out so. Nothing is committed.
pub record Looks {X E : Type 0} (laid : Type 0) (old new : State) (r : Result X E) : Type 0 where
  pub same : HasCleanDisk new → laid → OnOk r (IsUnchanged old new)
  pub rested : HasCleanDisk new → laid → Rested old new
  pub survives : laid → Survives old new (λ _. ⊥)
  -- A connection that is open afterwards was open before, and one that answered was open.
  pub opened : HasCleanDisk new → WasOpen old new
  pub live : HasCleanDisk new → OnOk r (IsTrue old.is_open)
  -- If the disk is clean afterwards, it was so before.
  pub clean : HasCleanDisk new → HasCleanDisk old
  -- No transaction is begun.
  pub autocommit : old.in_transaction ≡ false → new.in_transaction ≡ false

-- What a call comes to that reads all rows of a table, in the order that the text asks for. Nothing is committed.
pub record ReadsRows {X E : Type 0} (text : List ℕ) (old new : State) (r : Result X E) (items : X → List Row) : Type 0 where
  pub rows : HasCleanDisk new → (tree : ℕ) → AsksAll old.now.schema text tree → IfOk r (λ x. IsPermutation (old.now.trees tree) (items x))
  pub ascend : HasCleanDisk new → (tree : ℕ) → (asks : AsksAll old.now.schema text tree) → IfOk r (λ x. Ascends (by_order asks.order) (items x))
  pub same : HasCleanDisk new → (tree : ℕ) → AsksAll old.now.schema text tree → OnOk r (IsUnchanged old new)
  pub rested : HasCleanDisk new → (tree : ℕ) → AsksAll old.now.schema text tree → Rested old new
  pub crash : Survives old new (λ _. (tree : ℕ) → ¬ AsksAll old.now.schema text tree)
  pub calm : OnlyReads text → IsCalm old new
  pub opened : HasCleanDisk new → WasOpen old new
  pub live : HasCleanDisk new → OnOk r (IsTrue old.is_open)
  pub autocommit : old.in_transaction ≡ false → new.in_transaction ≡ false

-- What a call comes to that reads all rows of the table that the text asks for: its answer is judged by these rules. Nothing is committed.
pub record ReadsAll {X : Type 0} (text : List ℕ) (old new : State) (r : Result X StoreFault) (Lawful : List Row → X → Type 0) (rules : List Row → Type 0) : Type 0 where
  pub judged : HasCleanDisk new → (tree : ℕ) → AsksAll old.now.schema text tree → Judges r (Lawful (old.now.trees tree)) (rules (old.now.trees tree))
  pub same : HasCleanDisk new → (tree : ℕ) → AsksAll old.now.schema text tree → OnSeen r (IsUnchanged old new)
  pub rested : HasCleanDisk new → (tree : ℕ) → AsksAll old.now.schema text tree → Rested old new
  pub crash : Survives old new (λ _. (tree : ℕ) → ¬ AsksAll old.now.schema text tree)
  pub calm : IsCalm old new
  pub fault : IfErr r IsLoadFault
  pub autocommit : old.in_transaction ≡ false → new.in_transaction ≡ false

-- What a call comes to that reads all tables, where they are laid out so and `meta` says so: its answer is judged by these rules. Nothing is
-- committed.
pub record LoadsAll {X : Type 0} (laid says : Type 0) (old new : State) (r : Result X StoreFault) (Lawful : X → Type 0) (rules : Type 0) : Type 0 where
  pub loads : HasCleanDisk new → laid → old.now ≡ old.committed → says → Judges r Lawful rules
  pub same : HasCleanDisk new → laid → OnSeen r (IsUnchanged old new)
  pub rested : HasCleanDisk new → laid → Rested old new
  pub lives : Survives old new (λ _. Unit {0})
  pub crash : laid → Survives old new (λ _. ⊥)
  pub calm : IsCalm old new
  pub fault : IfErr r IsLoadFault
  pub autocommit : old.in_transaction ≡ false → new.in_transaction ≡ false

-- ---- Rows of held that are read one at a time.

-- What reading on in a query keeps, whatever it answers.
pub record ReadsOn {S : Type 0} (g : Ghosts S) (old new : MutBor (Held S)) : Type 0 where
  -- The rows are of the same connection.
  pub same_reference : new.ghost_name ≡ old.ghost_name
  -- Nothing is committed, and no transaction is begun.
  pub survives : Survives (state g old.now) (state g new.now) (λ _. ⊥)
  pub autocommit : old.now.in_transaction ≡ false → new.now.in_transaction ≡ false

-- The query has given all its rows, and this is the verdict on them. Nothing has changed.
pub record HasJudged (text : List ℕ) (old new : State) (verdict : Verdict) : Type 0 where
  pub same : IsUnchanged old new
  pub answer : List Row
  pub all : (tree : ℕ) → AsksAll old.now.schema text tree → IsPermutation (old.now.trees tree) answer
  pub found : HasVerdict verdict answer

-- The query has given some of its rows, and this is the verdict on them. Nothing has changed.
pub record IsJudging {S : Type 0} (g : Ghosts S) (text : List ℕ) (old new : Held S) (verdict : Verdict) : Type 0 where
  pub same : IsUnchanged (state g old) (state g new)
  pub some : List Row
  pub given : HasGiven g text [] new some
  pub found : HasVerdict verdict some

-- ---- What the rows stand for.

-- The connection is at rest with a content of this executed set.
pub record IsLoaded (s : State) (executed : Ids) (names : Names) : Type 0 where
  pub content : Content
  pub rest : IsAtRest s names content
  pub executed_is : executed ≡ content.executed

-- As IsLoaded, for layout 1.
pub record IsFirstLoaded (s : State) (executed : Ids) : Type 0 where
  pub content : Content
  pub rest : IsFirstAtRest s content
  pub executed_is : executed ≡ content.executed

-- ---- Entering a database.

-- A refusal leaves any database as it was, and so does a crash after it, unless the database failed or memory ran out.
pub record Spares {X : Type 0} (old new : State) (r : Result X StoreFault) : Type 0 where
  pub rested : HasCleanDisk new → OnErr r (Rested old new)
  pub survives : IfErr r (λ fault. IsFailure fault ⊎ Survives old new (λ _. ⊥))

-- What a call comes to that enters a database of which this holds.
pub record EntersWhere (so : Type 0) (only : Option Names) (old new : State) (r : Result Loaded StoreFault) : Type 0 where
  pub entered : HasCleanDisk new → IsReady old → so → IfOk r (λ l. IsEntered only old new l.executed l.following)
  pub turned : HasCleanDisk new → IsReady old → so → IfErr r (IsTurned only old new)
  pub crash : IsReady old → so → Survives old new (MayEnter (names_for only) old)
  pub spares : Spares old new r
  pub fault : IfErr r (IsOpenFault only)
  pub clean : HasCleanDisk new → HasCleanDisk old
  pub autocommit : new.in_transaction ≡ false

-- What a call comes to that enters a database of this layout, whose `meta` was read, if it is made for these names.
pub record Enters (only : Option Names) (layout : KnownLayout) (old new : State) (r : Result Loaded StoreFault) : Type 0 where
  pub entered : HasCleanDisk new → IsReady old → HasLayout old.now layout → IfOk r (λ l. IsEntered only old new l.executed l.following)
  pub turned : HasCleanDisk new → IsReady old → HasLayout old.now layout → (tables_of old.now.schema).meta ≡ true → IfErr r (IsTurned only old new)
  pub lives : Survives old new (λ _. Unit {0})
  pub crash : IsReady old → HasLayout old.now layout → Survives old new (MayEnter (names_for only) old)
  pub spares : Spares old new r
  pub fault : IfErr r (IsOpenFault only)
  pub autocommit : new.in_transaction ≡ false
