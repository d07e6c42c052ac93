-- The text of the type that a table map has of a column. MySQL Source Documentation, "Binlog Event", the page
-- binary_log::Table_map_event.
use Rattle.std.specs.Prelude.{ℕ, List, [], ◌∷◌, ◌++◌, codes, decimal, if◌then◌else◌, ◌==◌}
use Rattle.std.specs.Str.{byte}
use Rattle.binlog.specs.declared.column.kind.ColumnKind.{ColumnKind}
use Rattle.binlog.specs.declared.column.kind.ColumnKind.TheVariants.{Tiny, Short, Int24, Long, LongLong, Varchar, Blob, Bit, NewDecimal, Float, Double, Date, Year, Timestamp2, Datetime2, Time2, Char, Enum, Set}

-- `(n)`
abbrev pub number_text : ℕ → List ℕ
number_text n = byte "(" ∷ (decimal n ++ byte ")" ∷ [])

-- `(n,m)`
abbrev pub numbers_text : ℕ → ℕ → List ℕ
numbers_text n m = byte "(" ∷ (decimal n ++ byte "," ∷ (decimal m ++ byte ")" ∷ []))

-- what SQL calls a BLOB or TEXT whose values have a length of so many bytes
abbrev pub blob_text : ℕ → List ℕ
blob_text prefix =
    if prefix == 1 then codes "TINYBLOB"
    else if prefix == 2 then codes "BLOB"
    else if prefix == 3 then codes "MEDIUMBLOB"
    else codes "LONGBLOB"

-- the name of a type of times and, if there are any, how many digits a second's fraction has
abbrev pub fractional_text : List ℕ → ℕ → List ℕ
fractional_text name fraction = if fraction == 0 then name else name ++ number_text fraction

-- the text of a type
abbrev pub kind_text : ColumnKind → List ℕ
kind_text Tiny = codes "TINYINT"
kind_text Short = codes "SMALLINT"
kind_text Int24 = codes "MEDIUMINT"
kind_text Long = codes "INT"
kind_text LongLong = codes "BIGINT"
kind_text (Varchar maximum) = codes "VARCHAR" ++ number_text maximum
kind_text (Blob prefix) = blob_text prefix
kind_text (Bit bits) = codes "BIT" ++ number_text bits
kind_text (NewDecimal precision scale) = codes "DECIMAL" ++ numbers_text precision scale
kind_text Float = codes "FLOAT"
kind_text Double = codes "DOUBLE"
kind_text Date = codes "DATE"
kind_text Year = codes "YEAR"
kind_text (Timestamp2 fraction) = fractional_text (codes "TIMESTAMP") fraction
kind_text (Datetime2 fraction) = fractional_text (codes "DATETIME") fraction
kind_text (Time2 fraction) = fractional_text (codes "TIME") fraction
kind_text (Char maximum) = codes "CHAR" ++ number_text maximum
kind_text (Enum width) = codes "ENUM"
kind_text (Set width) = codes "SET"
