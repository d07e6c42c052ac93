-- What a first copy of tables asks of the database that it is loaded into. A copy is a source of its own, whose UUID is one of
-- version 5, made from the text of the copy; the UUIDs of servers are of other versions. RFC 9562, 4.2 "Version Field" and 5.5 "UUID
-- Version 5"; MySQL Reference Manual, "Replication and Binary Logging Options and Variables" (server_uuid).
use Rattle.std.specs.Prelude.{◌≡◌, ◌≢◌, ◌⊎◌, ℕ, ◌≤◌, ◌&&◌, Bool, true, false, List, []}
use Rattle.std.specs.FinSet as set
use Rattle.gtid.specs.Identifier.{Id, Ids, id}
use Rattle.binlog.specs.Cell.{CellValue}
use Rattle.binlog.specs.Filter.{Names, admits, is_read}
use Rattle.gather.specs.Transaction.{DeliveryValue}
use Rattle.store.specs.State.{Content, row_of}
use Rattle.store.specs.Faults.{IsFailure}
use Rattle.gather.specs.Given.{Supply, then_last}
use Rattle.replica.specs.Marks.{is_of_copy, begun_number, ended_number, given_up_number, is_unfinished, NoOtherUnfinished}
use Rattle.replica.specs.declared.change.loading.FirstCopy.{FirstCopy}
use Rattle.replica.specs.declared.change.loading.Unloadable.{Unloadable}
use Rattle.replica.specs.declared.change.loading.Unloadable.TheVariants.{GivenUp, Unfinished, OtherSet, LeftOut, NotFirst, HasRows, Failed}

-- A copy that is loaded: what is known of its transactions that are still to be given, the set at which its rows were read, the first
-- GTID of its source, and the tables that it has rows of.
pub record Copy : Type 1 where
  pub left : Supply
  pub ids : Ids
  pub first : Id
  pub tables : Names

-- the transaction after all rows of a copy of this source, which changes nothing: once it is executed, the copy has ended
abbrev pub end_of_copy : List ℕ → DeliveryValue
end_of_copy source = record { source = source; number = ended_number; changes = [] }

-- the copy whose transactions are given so
abbrev pub loaded_by : Supply → FirstCopy → Copy
loaded_by left copy = record { left = left; ids = copy.gtids.now; first = id copy.first; tables = copy.tables.now }

-- the copy whose transactions with rows are given so
abbrev pub copy_of : Supply → FirstCopy → Copy
copy_of left copy = loaded_by (then_last left (end_of_copy copy.first.source)) copy

-- The set has GTIDs of copies alone.
abbrev pub AreOfCopies : Ids → Type 0
AreOfCopies ids = (q : Id) → set.contains ids q ≡ true → is_of_copy q.0 ≡ true

-- The set is executed, and besides it nothing but copies.
abbrev pub HasJust : Ids → Ids → Type 0
HasJust executed ids = (set.is_subset ids executed ≡ true) × AreOfCopies (set.difference executed ids)

-- Nothing is executed.
abbrev pub HasNothing : Ids → Type 0
HasNothing executed = set.is_subset executed set.empty ≡ true

-- Nothing is executed, or just the set. A copy at the empty set is no reason to take one at another set: what is between them would
-- be lost for its tables.
abbrev pub IsAtSet : Ids → Ids → Type 0
IsAtSet executed ids = HasNothing executed ⊎ HasJust executed ids

-- None of the tables has a row.
abbrev pub HaveNoRows : Names → Content → Type 0
HaveNoRows tables content =
    (schema table : List ℕ) (cells : List CellValue) → set.contains tables (schema, table) ≡ true → content.rows (row_of schema table cells) ≡ 0

-- whether rows of the table are kept, or, if that is not asked, whether it is read
abbrev pub is_had : Bool → Names → List ℕ → List ℕ → Bool
is_had true names schema table = admits names schema table
is_had false names schema table = is_read names schema table

-- That holds of each of the tables.
abbrev pub AreHad : Bool → Names → Names → Type 0
AreHad kept names tables = (schema table : List ℕ) → set.contains tables (schema, table) ≡ true → is_had kept names schema table ≡ true

-- The filter admits each of the tables.
abbrev pub AreAdmitted : Names → Names → Type 0
AreAdmitted names tables = AreHad true names tables

-- Each of the tables is read, and its rows are kept, or nothing is executed: of a table whose rows are not kept nothing else says that it
-- was not copied before.
pub record MayBeCopied (names : Names) (executed : Ids) (tables : Names) : Type 0 where
  pub read : AreHad false names tables
  pub first : AreAdmitted names tables ⊎ HasNothing executed

-- What a copy adds to the executed set when it begins: its set, the first GTID of its source, and the mark that it has begun.
abbrev pub with_marks : Ids → Id → Ids
with_marks ids first = set.insert (set.insert ids first) (first.0, begun_number)

-- The copy was not given up, and has not ended; or has ended, since all of its rows were added.
abbrev pub IsNotGivenUp : Ids → Id → Bool → Type 0
IsNotGivenUp executed first ended = (set.contains executed (first.0, given_up_number) ≡ false) × (set.contains executed (first.0, ended_number) ≡ ended)

-- whether the copy was begun: its set and the first GTID of its source are executed, as they are by one commit
abbrev pub was_begun : Ids → Ids → Id → Bool
was_begun executed ids first = set.is_subset ids executed && set.contains executed first

-- A copy that was not begun may be: no copy is unfinished, the database is at its set, its tables may be copied, and they have no
-- rows.
pub record MayBegin (names : Names) (content : Content) (ids : Ids) (first : Id) (tables : Names) : Type 0 where
  pub marked : is_unfinished content.executed first.0 ≡ false
  pub at : IsAtSet content.executed ids
  pub had : MayBeCopied names content.executed tables
  pub empty : HaveNoRows tables content

-- The copy may be loaded: it was not given up and has not ended, no other one is unfinished, and it was begun, or may begin.
pub record MayLoad (names : Names) (content : Content) (ids : Ids) (first : Id) (tables : Names) : Type 0 where
  pub kept : IsNotGivenUp content.executed first false
  pub others : NoOtherUnfinished content.executed first.0
  pub begun : (was_begun content.executed ids first ≡ true) ⊎ MayBegin names content ids first tables

-- The tables may not be copied for this reason: one is not read; or all are, rows of one are not kept, and something is executed; or memory
-- ran out before that was found out.
abbrev pub IsNotHad : Names → Ids → Names → Unloadable → Type 0
IsNotHad names executed tables (LeftOut name) =
    (set.contains tables (name.schema.items, name.table.items) ≡ true) × (is_read names name.schema.items name.table.items ≡ false)
IsNotHad names executed tables (NotFirst name) =
    AreHad false names tables × (¬ HasNothing executed)
    × (set.contains tables (name.schema.items, name.table.items) ≡ true) × (admits names name.schema.items name.table.items ≡ false)
IsNotHad names executed tables (Failed fault) = IsFailure fault
IsNotHad names executed tables _ = ⊥

-- Why a copy that was not begun may not be: the database is not at its set; it is, and its tables may not be copied; it is and they may,
-- and a table has rows; or the database failed, or memory ran out, before that was found out.
abbrev pub IsUnloadable : Names → Content → Ids → Names → Unloadable → Type 0
IsUnloadable names content ids tables OtherSet = ¬ IsAtSet content.executed ids
IsUnloadable names content ids tables (LeftOut name) = IsAtSet content.executed ids × IsNotHad names content.executed tables (LeftOut name)
IsUnloadable names content ids tables (NotFirst name) = IsAtSet content.executed ids × IsNotHad names content.executed tables (NotFirst name)
IsUnloadable names content ids tables (HasRows name) =
    IsAtSet content.executed ids × MayBeCopied names content.executed tables
    × (set.contains tables (name.schema.items, name.table.items) ≡ true)
    × ((cells : List CellValue) × (1 ≤ content.rows (row_of name.schema.items name.table.items cells)))
IsUnloadable names content ids tables (Failed fault) = IsFailure fault
IsUnloadable names content ids tables (Unfinished source) = ⊥
IsUnloadable names content ids tables GivenUp = ⊥

-- A copy that is kept and has not ended may not be loaded for this reason: another copy is unfinished; it was not begun, and bears the
-- mark of one that was; or it was not begun and may not be.
abbrev pub IsReason : Names → Content → Ids → Id → Names → Unloadable → Type 0
IsReason names content ids first tables (Unfinished source) =
    (is_unfinished content.executed source ≡ true) × ((source ≢ first.0) ⊎ (was_begun content.executed ids first ≡ false))
IsReason names content ids first tables why = (was_begun content.executed ids first ≡ false) × IsUnloadable names content ids tables why

-- A copy may not be loaded for this reason: it was given up; or it was not, has not ended, and this is the reason.
abbrev pub MayNotLoad : Names → Content → Ids → Id → Names → Unloadable → Type 0
MayNotLoad names content ids first tables GivenUp = set.contains content.executed (first.0, given_up_number) ≡ true
MayNotLoad names content ids first tables why = IsNotGivenUp content.executed first false × IsReason names content ids first tables why
