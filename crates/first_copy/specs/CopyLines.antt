-- The text of a first copy of tables: a line that says so, the executed GTID set, the lines of rows, and a line at the end
-- with their number.
use Rattle.std.specs.Prelude.{◌≡◌, ℕ, ◌^◌, ◌<◌, List, [], ◌∷◌, ◌++◌, length, codes}
use Rattle.columns.specs.Fields.{IsDigitsOf}
use Rattle.columns.specs.declared.table.DescribedTable.{DescribedTable}
use Rattle.gather.specs.Transaction.{ChangeValue}
use Rattle.gtid.specs.Text.{IsRead}
use Rattle.gtid.specs.Identifier.{Ids}
use Rattle.first_copy.specs.RowLines.{IsRowLine}

-- The first two lines: what the text is, and the executed set.
pub record IsHead (ids : Ids) (head : List ℕ) : Type 0 where
  pub set : List ℕ
  pub read : IsRead set ids
  pub head_is : head ≡ codes "mrep copy 1" ++ 10 ∷ (set ++ 10 ∷ [])

-- The text is the lines of rows, one after another, and these are the changes that add the rows.
abbrev pub AreRowLines : List DescribedTable → List ChangeValue → List ℕ → Type 0
AreRowLines tables [] text = text ≡ []
AreRowLines tables (change ∷ changes) text =
    (line : List ℕ) × (rest : List ℕ) × IsRowLine tables line change × (text ≡ line ++ rest) × AreRowLines tables changes rest

-- The line at the end says this number, in decimal digits.
pub record IsEndLine (n : ℕ) (line : List ℕ) : Type 0 where
  pub digits : List ℕ
  pub are : IsDigitsOf n digits
  pub line_is : line ≡ codes "end" ++ 9 ∷ (digits ++ 10 ∷ [])

-- The text begins with a line that says the end.
pub record BeginsWithEnd (text : List ℕ) : Type 0 where
  pub number : ℕ
  pub line : List ℕ
  pub rest : List ℕ
  pub is_end : IsEndLine number line
  pub text_is : text ≡ line ++ rest

-- The text is the lines of at least one row, and those before the last one have less than 8 MiB together.
pub record IsChunk (tables : List DescribedTable) (changes : List ChangeValue) (text : List ℕ) : Type 0 where
  pub before : List ChangeValue
  pub last : ChangeValue
  pub start : List ℕ
  pub line : List ℕ
  pub changes_are : changes ≡ before ++ last ∷ []
  pub start_are : AreRowLines tables before start
  pub line_is : IsRowLine tables line last
  pub text_is : text ≡ start ++ line
  pub few : length start < 2 ^ 23
