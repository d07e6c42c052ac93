-- What a change and a transaction make of what a replica holds.
use Rattle.std.specs.Prelude.{◌≡◌, ◌≢◌, ◌⊎◌, ◌<◌, ◌≤◌, ◌+◌, ℕ, Bool, true, false, if◌then◌else◌, List, [], ◌∷◌, take, slice_get, Some, MatchBool}
use Rattle.std.specs.FinSet as set
use Rattle.gtid.specs.Identifier.{Ids}
use Rattle.binlog.specs.Filter.{Names, admits}
use Rattle.gather.specs.Transaction.{ChangeValue, changed_schema, changed_table, insert, delete, update, DeliveryValue}
use Rattle.store.specs.declared.row_change.Refusal.{Refusal}
use Rattle.store.specs.declared.row_change.Refusal.TheVariants.{NoSuchRow, CountFull}
use Rattle.store.specs.State.{TableRow, row_of, Bag, Content}

-- the greatest count: 2 ^ 63 - 1
abbrev pub most : ℕ
most = 9223372036854775807

-- ---- Changes.

-- There is one more of the row, and as many of each other row as before.
pub record IsAdded (row : TableRow) (old new : Bag) : Type 0 where
  pub room : old row < most
  pub one_more : new row ≡ old row + 1
  pub others : (r : TableRow) → r ≢ row → new r ≡ old r

-- There is one less of the row, and as many of each other row as before.
pub record IsRemoved (row : TableRow) (old new : Bag) : Type 0 where
  pub one_less : old row ≡ new row + 1
  pub others : (r : TableRow) → r ≢ row → new r ≡ old r

-- The change is made. An update removes the row before and then adds the row after.
abbrev pub IsMade : ChangeValue → Bag → Bag → Type 0
IsMade (insert schema table after) old new = IsAdded (row_of schema table after) old new
IsMade (delete schema table before) old new = IsRemoved (row_of schema table before) old new
IsMade (update schema table before after) old new = (mid : Bag) × IsRemoved (row_of schema table before) old mid × IsAdded (row_of schema table after) mid new

abbrev pub IsFull : TableRow → Bag → Refusal → Type 0
IsFull row bag why = (most ≤ bag row) × (why ≡ CountFull)

abbrev pub IsMissing : TableRow → Bag → Refusal → Type 0
IsMissing row bag why = (bag row ≡ 0) × (why ≡ NoSuchRow)

-- The change cannot be made, for this reason.
abbrev pub IsRefused : ChangeValue → Bag → Refusal → Type 0
IsRefused (insert schema table after) bag why = IsFull (row_of schema table after) bag why
IsRefused (delete schema table before) bag why = IsMissing (row_of schema table before) bag why
IsRefused (update schema table before after) bag why =
    IsMissing (row_of schema table before) bag why
    ⊎ ((mid : Bag) × IsRemoved (row_of schema table before) bag mid × IsFull (row_of schema table after) mid why)

-- ---- Changes in order.

-- whether the filter admits the table of the change
abbrev pub is_admitted : Names → ChangeValue → Bool
is_admitted names change = admits names (changed_schema change) (changed_table change)

-- A change of a table that the filter leaves out is skipped.
abbrev pub IsDone : Names → ChangeValue → Bag → Bag → Type 0
IsDone names change old new = MatchBool (is_admitted names change) (IsMade change old new) (new ≡ old)

abbrev pub AreDone : Names → List ChangeValue → Bag → Bag → Type 0
AreDone names [] old new = new ≡ old
AreDone names (change ∷ changes) old new = (mid : Bag) × IsDone names change old mid × AreDone names changes mid new

-- The changes before this index are done, and the one there cannot be made. The index counts all changes, from 0.
pub record IsRefusedAt (names : Names) (changes : List ChangeValue) (old : Bag) (at : ℕ) (why : Refusal) : Type 0 where
  pub change : ChangeValue
  pub mid : Bag
  pub there : slice_get changes at ≡ Some change
  pub before : AreDone names (take at changes) old mid
  pub admitted : is_admitted names change ≡ true
  pub refused : IsRefused change mid why

-- ---- Transactions.

pub data Outcome : Type 0 where
  done : Content → Outcome
  repeat : Outcome
  refused : ℕ → Refusal → Outcome

-- the transaction is in the set
abbrev pub is_executed : Content → DeliveryValue → Bool
is_executed content d = set.contains content.executed (d.source, d.number)

-- A transaction in the set changes nothing. For any other, its changes are done in order and it enters the set, or one
-- change, with this index, is refused.
abbrev pub HasOutcome : Names → Content → DeliveryValue → Outcome → Type 0
HasOutcome names old d (done new) =
    (is_executed old d ≡ false) × AreDone names d.changes old.rows new.rows × (new.executed ≡ set.insert old.executed (d.source, d.number))
HasOutcome names old d repeat = is_executed old d ≡ true
HasOutcome names old d (refused at why) = (is_executed old d ≡ false) × IsRefusedAt names d.changes old.rows at why

-- ---- Adopting a set.

-- this set is executed instead, and the rows stay
abbrev pub with_executed : Ids → Content → Content
with_executed ids content = record { executed = ids; rows = content.rows }

-- the GTIDs of this set are executed too, and the rows stay
abbrev pub adopted : Content → Ids → Content
adopted content ids = with_executed (set.union content.executed ids) content

-- ---- Admitting tables.

-- the names of both; a filter that admits all tables stays, since with a name it would admit fewer
abbrev pub widened : Names → Names → Names
widened names more = if set.is_subset names set.empty then names else set.union names more
