-- The transactions that a copy still gives, by the text that is left of it.
use Rattle.std.specs.Prelude.{◌≡◌, ℕ, ◌+◌, ◌^◌, ◌≤◌, ◌⊎◌, Bool, true, false, MatchBool, List, [], ◌∷◌, ◌++◌, length, flat_map, Option, IfSome}
use Rattle.std.specs.FinSet as set
use Rattle.std.specs.List.{AllByRecursion}
use Rattle.binlog.specs.Filter.{Names}
use Rattle.columns.specs.declared.table.DescribedTable.{DescribedTable}
use Rattle.gather.specs.Transaction.{ChangeValue, DeliveryValue, changed_schema, changed_table}
use Rattle.gather.specs.Given.{Supply}
use Rattle.first_copy.specs.CopyLines.{IsEndLine, BeginsWithEnd, IsChunk}

-- the changes of all transactions, in order
abbrev pub all_changes : List DeliveryValue → List ChangeValue
all_changes ds = flat_map (λ (d : DeliveryValue). d.changes) ds

-- The text begins with the lines of the rows that these transactions add: each has the lines after those of the one before, 8 MiB or
-- more of them or those before the end line. They are of this source, and have the numbers from this one on. What is left is such.
abbrev pub HaveLines : List DescribedTable → List ℕ → ℕ → (List ℕ → Type 0) → List DeliveryValue → List ℕ → Type 0
HaveLines tables source number Left [] text = Left text
HaveLines tables source number Left (d ∷ ds) text =
    (lines : List ℕ) × (rest : List ℕ) × (text ≡ lines ++ rest) × IsChunk tables d.changes lines × ((2 ^ 23 ≤ length lines) ⊎ BeginsWithEnd rest)
    × (d.source ≡ source) × (d.number ≡ number) × HaveLines tables source (number + 1) Left ds rest

-- The changes are of these tables.
abbrev pub AreOfTables : Names → List ChangeValue → Type 0
AreOfTables names changes = AllByRecursion (λ change. set.contains names (changed_schema change, changed_table change) ≡ true) changes

-- What is given has changes of these tables alone.
abbrev pub within : Names → Supply → Supply
within names left = record {
  begins = λ ds. left.begins ds × AreOfTables names (all_changes ds);
  are_all = λ ds. left.are_all ds × AreOfTables names (all_changes ds);
}

-- What a copy gives that has given so many GTIDs of its source, the first one with its set and one for each transaction, and so many rows,
-- and has not failed. If it has ended, it gives none.
abbrev pub supply_of : Bool → Bool → List DescribedTable → List ℕ → ℕ → ℕ → Option (List ℕ) → Supply
supply_of failed ended tables source given rows text = record {
  begins = λ ds. (failed ≡ false) × (ended ≡ false) × IfSome text (λ bs. HaveLines tables source (given + 1) (λ _. Unit {0}) ds bs);
  are_all = λ ds. (failed ≡ false) × MatchBool ended (ds ≡ []) (IfSome text (λ bs. HaveLines tables source (given + 1) (IsEndLine (rows + length (all_changes ds))) ds bs));
}
