-- What is wrong with a text that is due to be the lines of rows and the line at the end.
use Rattle.std.specs.Prelude.{◌≡◌, ◌≢◌, ◌⊎◌, ℕ, ◌+◌, ◌-◌, ◌^◌, ◌<◌, ◌≤◌, ◌==◌, min, not, Bool, List, ◌++◌, length, Option, IfSome}
use Rattle.columns.specs.Word.{Are}
use Rattle.columns.specs.declared.table.DescribedTable.{DescribedTable}
use Rattle.gather.specs.Transaction.{ChangeValue}
use Rattle.first_copy.specs.RowLines.{IsRowFault}
use Rattle.first_copy.specs.CopyLines.{AreRowLines, IsEndLine}
use Rattle.first_copy.specs.declared.fault.RowFault.{RowFault}
use Rattle.first_copy.specs.declared.fault.RowFault.TheVariants as row
use Rattle.first_copy.specs.declared.copy_fault.CopyFault.{CopyFault}
use Rattle.first_copy.specs.declared.copy_fault.CopyFault.TheVariants.{Cut, Row, Count, Trailing, Reader, TooMany, Memory}

-- the number of the line that follows those of so many rows, which two lines stand before; it stops at 2^64 - 1
abbrev pub line_after : ℕ → ℕ
line_after rows = min (rows + 3) (2 ^ 64 - 1)

abbrev pub is_no_newline : ℕ → Bool
is_no_newline b = not (b == 10)

-- The text is the lines of rows, and then a rest. With those that were given before so many rows stand in front of it.
pub record IsAfterRows (tables : List DescribedTable) (rows : ℕ) (text : List ℕ) (all : ℕ) (rest : List ℕ) : Type 0 where
  pub changes : List ChangeValue
  pub lines : List ℕ
  pub are : AreRowLines tables changes lines
  pub text_is : text ≡ lines ++ rest
  pub all_is : all ≡ rows + length changes

-- The rest has no newline: it was cut.
abbrev pub IsCutAt : ℕ → List ℕ → ℕ → Type 0
IsCutAt all rest line = (line ≡ line_after all) × Are is_no_newline rest

-- The rest begins with a line that has this fault.
abbrev pub IsWrongLineAt : List DescribedTable → ℕ → List ℕ → ℕ → RowFault → Type 0
IsWrongLineAt tables all rest line fault =
    (line ≡ line_after all) × (fault ≢ row.Memory) × ((bad : List ℕ) × (more : List ℕ) × (rest ≡ bad ++ more) × IsRowFault tables bad fault)

-- The rest begins with a line that says the end, with another number than that of the rows in front of it.
abbrev pub IsOtherCount : ℕ → List ℕ → ℕ → ℕ → ℕ → Type 0
IsOtherCount all rest line said counted =
    (line ≡ line_after all) × (counted ≡ all) × (said ≢ all) × ((end : List ℕ) × (more : List ℕ) × (rest ≡ end ++ more) × IsEndLine said end)

-- Something stands behind the line that says the end, with the right number.
abbrev pub IsTrailed : ℕ → List ℕ → ℕ → Type 0
IsTrailed all rest line =
    (line ≡ min (line_after all + 1) (2 ^ 64 - 1)) × ((end : List ℕ) × (more : List ℕ) × (rest ≡ end ++ more) × IsEndLine all end × (0 < length more))

abbrev pub IsFaultAt : List DescribedTable → ℕ → List ℕ → CopyFault → Type 0
IsFaultAt tables all rest (Cut line) = IsCutAt all rest line
IsFaultAt tables all rest (Row line fault) = IsWrongLineAt tables all rest line fault
IsFaultAt tables all rest (Count line said counted) = IsOtherCount all rest line said counted
IsFaultAt tables all rest (Trailing line) = IsTrailed all rest line
IsFaultAt tables all rest (Reader line error) = Unit {0}
IsFaultAt tables all rest TooMany = Unit {0}
IsFaultAt tables all rest Memory = Unit {0}
IsFaultAt tables all rest _ = ⊥

-- What is wrong with the known text that is left after the rows that were given: lines of rows come, and what follows them
-- has this fault.
pub record IsFaultOfCopy (tables : List DescribedTable) (rows : ℕ) (text : List ℕ) (fault : CopyFault) : Type 0 where
  pub all : ℕ
  pub rest : List ℕ
  pub after : IsAfterRows tables rows text all rest
  pub wrong : IsFaultAt tables all rest fault

abbrev pub IsKnownFault : List DescribedTable → ℕ → Option (List ℕ) → CopyFault → Type 0
IsKnownFault tables rows text fault = IfSome text (λ bytes. IsFaultOfCopy tables rows bytes fault)

-- This holds if the fault is that no number is left.
abbrev pub OnTooMany : CopyFault → Type 0 → Type 0
OnTooMany TooMany P = P
OnTooMany _ P = Unit {0}

-- No number is left for one more row: so many were given, with those that were taken of the text now.
pub record IsOutOfRows (tables : List DescribedTable) (rows new_rows : ℕ) (text : Option (List ℕ)) : Type 0 where
  pub all_numbered : new_rows ≡ 2 ^ 64 - 1
  pub taken : IfSome text (λ bytes. (rest : List ℕ) × IsAfterRows tables rows bytes new_rows rest)

-- No number is left for one more transaction, or none for one more row.
abbrev pub IsOutOfNumbers : List DescribedTable → ℕ → ℕ → ℕ → Option (List ℕ) → Type 0
IsOutOfNumbers tables given rows new_rows text = (2 ^ 63 - 2 ≤ given) ⊎ IsOutOfRows tables rows new_rows text

-- ---- Private.

-- what is said of the fault of a line
abbrev pub copied_fault : ℕ → RowFault → CopyFault
copied_fault line row.Memory = Memory
copied_fault line fault = Row line fault

-- What is wrong with the next line, where it is known.
abbrev pub IsFillFault : ℕ → List ℕ → CopyFault → Type 0
IsFillFault number text (Cut line) = (line ≡ number) × Are is_no_newline text
IsFillFault number text (Reader line error) = Unit {0}
IsFillFault number text Memory = Unit {0}
IsFillFault number text _ = ⊥

-- The fault of a read.
abbrev pub IsReaderFault : CopyFault → Type 0
IsReaderFault (Reader line error) = Unit {0}
IsReaderFault Memory = Unit {0}
IsReaderFault _ = ⊥
