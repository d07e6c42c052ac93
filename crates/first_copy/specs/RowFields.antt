-- The fields of a row's line: for each column its text as the `mysql` client prints it, or NULL. MySQL Reference Manual,
-- "mysql Client Options" (--batch) and "Working with NULL Values".
use Rattle.std.specs.Prelude.{◌≡◌, ◌≢◌, ℕ, ◌+◌, ◌<◌, ◌⊎◌, ◌==◌, List, [], ◌∷◌, ◌++◌, length, codes, Option, Some, None}
use Rattle.std.proofs.Common.{String, Global}
use Rattle.std.specs.String.{string_bytes}
use Rattle.binlog.specs.Cell.{CellValue, null_cell}
use Rattle.columns.specs.Word.{Are, Ends}
use Rattle.columns.specs.Lines.{is_inner}
use Rattle.columns.specs.CharacterSets.{set_named}
use Rattle.columns.specs.ColumnFields.{IsColumnFieldCell, IsColumnFieldForm}
use Rattle.columns.specs.declared.character_set.CharacterSet.{CharacterSet}
use Rattle.columns.specs.declared.character_set.CharacterSet.TheVariants.{Other}
use Rattle.columns.specs.declared.column.Column.{Column}
use Rattle.columns.specs.declared.value.field_fault.FieldFault.{FieldFault}
use Rattle.columns.specs.declared.value.field_fault.FieldFault.TheVariants as value
use Rattle.first_copy.specs.declared.fault.RowFault.{RowFault}
use Rattle.first_copy.specs.declared.fault.RowFault.TheVariants as row

-- the character set of a column that has one, by its name
abbrev pub set_of_name : Option (String Global) → CharacterSet
set_of_name None = Other
set_of_name (Some name) = set_named (string_bytes name)

-- The cell is that of the value that the field is in the column.
abbrev pub IsFieldValue : Column → List ℕ → CellValue → Type 0
IsFieldValue column field cell = IsColumnFieldCell column.kind (set_of_name column.character_set) field cell

-- The field is that of a column in a line, in which no tab and no newline stands: NULL, or the text of a value. The cell is
-- that of it.
abbrev pub IsFieldOf : Column → List ℕ → CellValue → Type 0
IsFieldOf column field cell = Are is_inner field × (((field ≡ codes "NULL") × (cell ≡ null_cell)) ⊎ IsFieldValue column field cell)

-- the byte that ends a field, after which those of these columns stand: a tab, or a newline after the last one
abbrev pub field_end : List Column → ℕ
field_end [] = 10
field_end (_ ∷ _) = 9

-- The text is a field for each column, with tabs between and a newline at the end, and these are their cells.
abbrev pub AreFields : List Column → List ℕ → List CellValue → Type 0
AreFields [] text cells = (text ≡ []) × (cells ≡ [])
AreFields (column ∷ columns) text cells =
    (field : List ℕ) × (rest : List ℕ) × (cell : CellValue) × (others : List CellValue) × IsFieldOf column field cell ×
    (text ≡ field ++ field_end columns ∷ rest) × (cells ≡ cell ∷ others) × AreFields columns rest others

-- ---- What is wrong with fields.

-- What is wrong with a field that is not NULL: it is not of the form that the column's type has; or it is, and no value of
-- the type has this text.
abbrev pub IsNoValue : Column → List ℕ → FieldFault → Type 0
IsNoValue column field value.Text = (field ≢ codes "NULL") × (IsColumnFieldForm column.kind field → ⊥)
IsNoValue column field value.Range = (field ≢ codes "NULL") × IsColumnFieldForm column.kind field × ((cell : CellValue) → IsFieldValue column field cell → ⊥)
IsNoValue column field value.Memory = ⊥

-- What is wrong with the field of this number, that this byte is due to end: the text ends before, another byte ends it, or
-- what stands there is neither NULL nor the text of a value.
abbrev pub IsWrongField : ℕ → Column → ℕ → List ℕ → RowFault → Type 0
IsWrongField number column end text row.Unended = Are is_inner text
IsWrongField number column end text row.Fields =
    (inner : List ℕ) × (rest : List ℕ) × (text ≡ inner ++ rest) × Are is_inner inner
    × Ends is_inner rest × Ends (λ b. b == end) rest × (0 < length rest)
IsWrongField number column end text (row.Field at fault) =
    (at ≡ number) × ((field : List ℕ) × (rest : List ℕ) × (text ≡ field ++ end ∷ rest) × Are is_inner field × IsNoValue column field fault)
IsWrongField number column end text row.Memory = Unit {0}
IsWrongField number column end text _ = ⊥

-- What is wrong with a text that is due to be the fields of these columns, the first of which has this number: one of them,
-- after those before it, or something stands after the newline.
abbrev pub IsWrongAmong : ℕ → List Column → List ℕ → RowFault → Type 0
IsWrongAmong number [] text fault = (fault ≡ row.Fields) × (0 < length text)
IsWrongAmong number (column ∷ columns) text fault =
    IsWrongField number column (field_end columns) text fault
    ⊎ ((field : List ℕ) × (rest : List ℕ) × (cell : CellValue) × IsFieldOf column field cell × (text ≡ field ++ field_end columns ∷ rest) × IsWrongAmong (number + 1) columns rest fault)
