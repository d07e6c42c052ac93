-- The rows of a bag in order.
use Rattle.std.specs.Prelude.{◌≡◌, ◌⊎◌, ℕ, ◌≤◌, List, [], ◌∷◌, ◌++◌, map, drop, Bool, true, false, Option, Some, None, Result, Ok, Err, IfErr, codes, pos}
use Rattle.std.specs.List.{AllByRecursion, FoldsTo}
use Rattle.std.specs.List.Sorted.{IsStrictlySortedBy}
use Rattle.std.specs.Ordering.{nat_cmp, ordering_then}
use Rattle.std.specs.declared.cmp.Ordering.{Ordering}
use Rattle.std.specs.declared.cmp.Ordering.TheVariants.{Less}
use Rattle.std.specs.Cmp.Lexicographic.{slice_cmp}
use Rattle.sqlite_trees.specs.declared.store.Store.{Ghosts}
use Rattle.sqlite_value.specs.declared.value.Value.TheVariants.{Int, Blob}
use Rattle.sqlite_value.specs.Order.{Row, column}
use Rattle.sqlite.specs.State.{State, HasCleanDisk, IsUnchanged, Survives}
use Rattle.sqlite.specs.Held.{Held, state}
use Rattle.sqlite.specs.Given.{HasGiven}
use Rattle.gtid.specs.Identifier.{Ids}
use Rattle.gather.specs.Image.{HasImage, image}
use Rattle.store.specs.declared.fault.StoreFault.TheVariants.{Database}
use Rattle.store.specs.declared.listing.Listed.{Listed}
use Rattle.store.specs.declared.listing.ListError.{ListError}
use Rattle.store.specs.declared.listing.ListError.TheVariants.{Store as StoreError, Visitor as VisitorError}
use Rattle.store.specs.declared.store.Store.{Store}
use Rattle.store.specs.State.{TableRow, row_of, Bag, Content}
use Rattle.store.specs.Changes.{most}
use Rattle.store.specs.Rows.{Key, key_for}
use Rattle.binlog.specs.Filter.{Names}
use Rattle.store.specs.Layout.{IsLaidOut}
use Rattle.store.specs.Apply.{IsAtRest}
use Rattle.store.specs.Load.{Rested}
use Rattle.store.specs.Faults.{IsReadFault}
use Rattle.store.specs.Store.{Holds, Keeps}

-- a row, and how often it is there
abbrev pub Entry : Type 0
Entry = TableRow × ℕ

-- keys by the bytes of their schema, then by those of their table, then by those of their image
abbrev pub key_cmp : Key → Key → Ordering
key_cmp a b = ordering_then (slice_cmp nat_cmp a.schema b.schema) (ordering_then (slice_cmp nat_cmp a.table b.table) (slice_cmp nat_cmp a.image b.image))

-- rows in the same way, by their stored images
abbrev pub row_cmp : TableRow → TableRow → Ordering
row_cmp a b = key_cmp (key_for a) (key_for b)

abbrev pub entry_rows : List Entry → List TableRow
entry_rows entries = map (λ (e : Entry). e.0) entries

-- The list has each row of the bag once, with the number of its copies, in ascending order.
pub record ListsBag (bag : Bag) (entries : List Entry) : Type 0 where
  pub ascend : IsStrictlySortedBy row_cmp (entry_rows entries)
  pub counted : AllByRecursion (λ (e : Entry). (e.1 ≡ bag e.0) × (1 ≤ e.1) × (e.1 ≤ most)) entries
  pub all : (r : TableRow) → 1 ≤ bag r → (before : List Entry) × (after : List Entry) × (entries ≡ before ++ (r, bag r) ∷ after)

-- ---- Rows that are handed to a visitor.

-- the entry that is handed out
abbrev pub entry_of : Listed → Entry
entry_of l = (row_of l.schema.now l.table.now l.image, l.count)

-- what is stored of an entry, without a rowid
abbrev pub shown_entry : Entry → Row
shown_entry e = Blob e.0.schema ∷ Blob e.0.table ∷ Blob (image e.0.cells) ∷ Int (pos e.1) ∷ []

abbrev pub without_rowids : List Row → List Row
without_rowids rows = map (λ (row : Row). drop 1 row) rows

-- A row is this entry.
abbrev pub Gives : Entry → Option Listed → Type 0
Gives e (Some listed) = entry_of listed ≡ e
Gives e None = ⊥

-- reading has failed, or the visitor
abbrev pub IsListFault : {E : Type 0} → ListError E → Type 0
IsListFault (StoreError fault) = IsReadFault fault
IsListFault (VisitorError e) = Unit {0}

-- `gives v e answer w`: the visitor v answers to the entry e in this way, and is w afterwards.
module _ {V E : Type 0} (gives : V → Entry → Result (Unit {0}) E → V → Type 0) where
  -- The visitor accepts the entry and goes on.
  abbrev pub Accepts : V → Entry → V → Type 0
  Accepts v e w = gives v e (Ok tt) w

  -- The entry was handed to the visitor.
  abbrev pub Handed : Entry → V → V → Result (Unit {0}) (ListError E) → Type 0
  Handed e v w (Ok u) = Accepts v e w
  Handed e v w (Err (VisitorError error)) = gives v e (Err error) w
  Handed e v w (Err (StoreError fault)) = ⊥

  -- The visitor has accepted the first rows of the bag in order, one after the other; these are left.
  pub record HasAccepted (bag : Bag) (v w : V) (left : List Entry) : Type 0 where
    pub first : List Entry
    pub are : ListsBag bag (first ++ left)
    pub accepted : FoldsTo Accepts v first w

  -- The visitor has accepted all rows; or the first of them, and answered an error to the next; or none or the first of them,
  -- before reading failed.
  abbrev pub Hands : Bag → V → V → Result (Unit {0}) (ListError E) → Type 0
  Hands bag v w (Ok u) = HasAccepted bag v w []
  Hands bag v w (Err (VisitorError error)) = (last : V) × (e : Entry) × (left : List Entry) × HasAccepted bag v last (e ∷ left) × gives last e (Err error) w
  Hands bag v w (Err (StoreError fault)) = (w ≡ v) ⊎ ((left : List Entry) × HasAccepted bag v w left)

-- Nothing has changed; after a failure of the database, if the connection is still open.
abbrev pub KeepsListed : {E : Type 0} → State → State → Result (Unit {0}) (ListError E) → Type 0
KeepsListed old new (Err (StoreError (Database e))) = Rested old new
KeepsListed old new (Err (StoreError _)) = ⊥
KeepsListed old new _ = IsUnchanged old new

-- The connection is shut: the database has failed, and the visitor was handed nothing.
abbrev pub IsShut : {V E : Type 0} → State → V → V → Result (Unit {0}) (ListError E) → Type 0
IsShut new v w (Err (StoreError (Database e))) = (new.is_open ≡ false) × (w ≡ v)
IsShut new v w _ = ⊥

-- ---- The order of the rows of held.

abbrev pub listed_text : List ℕ
listed_text = codes "SELECT rowid, schema_name, table_name, image, n FROM held ORDER BY schema_name, table_name, image"

-- The row has this key.
abbrev pub HasKey : Key → Row → Type 0
HasKey key row = (column row 1 ≡ Blob key.schema) × (column row 2 ≡ Blob key.table) × (column row 3 ≡ Blob key.image)

-- The key is above the last one, if there is one.
abbrev pub IsAbove : Option Key → Key → Type 0
IsAbove None key = Unit {0}
IsAbove (Some last) key = key_cmp last key ≡ Less

-- The keys ascend.
abbrev pub KeysRise : Option Key → List Row → Type 0
KeysRise last [] = Unit {0}
KeysRise last (row ∷ rows) = (key : Key) × HasKey key row × IsAbove last key × KeysRise (Some key) rows

-- ---- What a store lists.

module _ {S : Type 0} (g : Ghosts S) where
  -- The store holds the same content. After a failure of the database it keeps it.
  abbrev pub HoldsListed : {E : Type 0} → Content → Store S g → Result (Unit {0}) (ListError E) → Type 0
  HoldsListed content new (Err (StoreError (Database e))) = Keeps g new content
  HoldsListed content new (Err (StoreError _)) = ⊥
  HoldsListed content new _ = Holds g new content

  -- The rows of the content are handed to the visitor, and the store holds the same content.
  abbrev pub Lists : {V E : Type 0} → (V → Entry → Result (Unit {0}) E → V → Type 0) → Content → Store S g → V → V → Result (Unit {0}) (ListError E) → Type 0
  Lists gives content new v w result = Hands gives content.rows v w result × HoldsListed content new result

  -- The outcome if the connection was shut: the visitor was handed nothing.
  abbrev pub ListsShut : {V E : Type 0} → Content → Store S g → V → V → Result (Unit {0}) (ListError E) → Type 0
  ListsShut content new v w (Err (StoreError (Database e))) = Keeps g new content × (w ≡ v)
  ListsShut content new v w _ = ⊥

  -- The query has given some of its rows, and the visitor has accepted them. Nothing has changed.
  pub record IsListing {V E : Type 0} (gives : V → Entry → Result (Unit {0}) E → V → Type 0) (old new : Held S) (v w : V) : Type 0 where
    pub same : IsUnchanged (state g old) (state g new)
    pub rows : List Row
    pub given : HasGiven g listed_text [] new rows
    pub first : List Entry
    pub shown : map shown_entry first ≡ without_rowids rows
    pub lawful : AllByRecursion (λ (e : Entry). HasImage e.0.cells) first
    pub accepted : FoldsTo (Accepts gives) v first w

-- What a call comes to that hands the rows of held to a visitor, by a query. Nothing changes.
pub record ListsHeld {V F : Type 0} (gives : V → Entry → Result (Unit {0}) F → V → Type 0) (old new : State) (visitor after : V) (r : Result (Unit {0}) (ListError F)) : Type 0 where
  pub hands : HasCleanDisk new → (names : Names) (content : Content) → IsAtRest old names content → Hands gives content.rows visitor after r × KeepsListed old new r
  pub survives : IsLaidOut old.now.schema → Survives old new (λ _. ⊥)
  pub clean : HasCleanDisk new → HasCleanDisk old
  pub shut : HasCleanDisk new → old.is_open ≡ false → IsShut new visitor after r
  pub fault : IfErr r IsListFault
  pub autocommit : old.in_transaction ≡ false → new.in_transaction ≡ false

-- The executed set and the filter of a content were given to a lister: it has asked for the rows, and they were handed to it; or it
-- has not, or has answered an error, and nothing more was. `begun v ids names answer w`: the lister v is given a set and a filter, asks
-- for rows or not, or answers an error, and is w afterwards; `gives` says of rows what it answers and what it is afterwards.
abbrev pub IsListed : {V E : Type 0} → (V → Ids → Names → Result Bool E → V → Type 0) → (V → Entry → Result (Unit {0}) E → V → Type 0)
    → Names → Content → V → V → Result (Unit {0}) (ListError E) → Type 0
IsListed {V} {E} begun gives names content old new listed =
    ((mid : V) × begun old content.executed names (Ok true) mid × Hands gives content.rows mid new listed)
    ⊎ ((begun old content.executed names (Ok false) new × (listed ≡ Ok tt)) ⊎ ((cause : E) × begun old content.executed names (Err cause) new × (listed ≡ Err (VisitorError cause))))
