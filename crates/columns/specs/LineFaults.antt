-- What is wrong with a line of a description by itself.
use Rattle.std.specs.Prelude.{◌≡◌, ℕ, ◌<◌, ◌⊎◌, ◌==◌, List, [], ◌∷◌, ◌++◌, length, is_some}
use Rattle.columns.specs.Word.{Are, Ends}
use Rattle.columns.specs.Escapes.{escaped}
use Rattle.columns.specs.ColumnTypes.{IsColumnTypeFault}
use Rattle.columns.specs.Keys.{key_text}
use Rattle.columns.specs.Lines.{is_inner, field, ColumnValue, column_text, IsName, FitsSet}
use Rattle.columns.specs.declared.escape.Layer.TheVariants.{Client}
use Rattle.columns.specs.declared.column.Key.{Key as KeyValue}
use Rattle.columns.specs.declared.fields.LineFault.{LineFault}
use Rattle.columns.specs.declared.fields.LineFault.TheVariants.{Fields, Unended, Escape, Name, Kind, CharacterSet, Key, Memory}

-- what a field is: a name (or a character set), a type, or a key
pub data FieldKind : Type 0 where
  a_name a_type a_key : FieldKind

-- What is wrong with a field that this byte is due to end: the text ends before, another byte ends it, or what stands
-- there is no bytes with their escapes.
abbrev pub IsFieldFault : ℕ → List ℕ → LineFault → Type 0
IsFieldFault end text Unended = Are is_inner text
IsFieldFault end text Fields =
    (inner : List ℕ) × (rest : List ℕ) × (text ≡ inner ++ rest) × Are is_inner inner
    × Ends is_inner rest × Ends (λ b. b == end) rest × (0 < length rest)
IsFieldFault end text Escape =
    (inner : List ℕ) × (rest : List ℕ) × (text ≡ inner ++ end ∷ rest) × Are is_inner inner
    × ((bytes : List ℕ) → inner ≡ escaped Client bytes → ⊥)
IsFieldFault end text Memory = Unit {0}
IsFieldFault end text _ = ⊥

-- the same for a field that is due to be a name, a type or a key, which it is not
abbrev pub IsFaultOf : FieldKind → List ℕ → LineFault → Type 0
IsFaultOf a_name text Name =
    (bytes : List ℕ) × (rest : List ℕ) × (text ≡ field bytes 9 ++ rest) × (IsName bytes → ⊥)
IsFaultOf a_name text fault = IsFieldFault 9 text fault
IsFaultOf a_type text (Kind fault) =
    (bytes : List ℕ) × (rest : List ℕ) × (text ≡ field bytes 9 ++ rest) × IsColumnTypeFault bytes fault
IsFaultOf a_type text fault = IsFieldFault 9 text fault
IsFaultOf a_key text Key =
    (bytes : List ℕ) × (rest : List ℕ) × (text ≡ field bytes 10 ++ rest)
    × ((key : KeyValue) → bytes ≡ key_text key → ⊥)
IsFaultOf a_key text fault = IsFieldFault 10 text fault

-- one of these fields has the fault, after those before it
abbrev pub IsFaultAmong : List FieldKind → List ℕ → LineFault → Type 0
IsFaultAmong [] text fault = ⊥
IsFaultAmong (kind ∷ kinds) text fault =
    IsFaultOf kind text fault
    ⊎ ((bytes : List ℕ) × (rest : List ℕ) × (text ≡ field bytes 9 ++ rest) × IsFaultAmong kinds rest fault)

abbrev pub front_fields : List FieldKind
front_fields = a_name ∷ a_name ∷ []

abbrev pub column_fields : List FieldKind
column_fields = a_name ∷ a_type ∷ a_name ∷ a_key ∷ []

-- all six
abbrev pub line_fields : List FieldKind
line_fields = a_name ∷ a_name ∷ column_fields

-- What is wrong with the last four fields: one of them, or the character set does not fit the type.
abbrev pub IsColumnFault : List ℕ → LineFault → Type 0
IsColumnFault text CharacterSet =
    (column : ColumnValue) × (rest : List ℕ) × (text ≡ column_text column ++ rest)
    × (FitsSet column.kind (is_some column.set) → ⊥)
IsColumnFault text fault = IsFaultAmong column_fields text fault
