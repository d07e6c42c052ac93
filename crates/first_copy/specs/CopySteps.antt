-- What a call of a loader does to the text that is left.
use Rattle.std.specs.Prelude.{◌≡◌, ℕ, ◌+◌, ◌^◌, ◌≤◌, ◌⊎◌, List, [], ◌∷◌, ◌++◌, length, Option, IfSome, MatchOption}
use Rattle.std.specs.Io.KnownBytes.{Consumes}
use Rattle.sha1.specs.Sha1.{Holds}
use Rattle.sha1.specs.declared.Sha1.{Sha1}
use Rattle.columns.specs.declared.table.DescribedTable.{DescribedTable}
use Rattle.gtid.specs.Identifier.{Ids}
use Rattle.gather.specs.Transaction.{ChangeValue, DeliveryValue}
use Rattle.first_copy.specs.RowLines.{IsRowLine}
use Rattle.first_copy.specs.CopyLines.{IsHead, AreRowLines, IsEndLine, BeginsWithEnd, IsChunk}

-- A transaction was given: its number is one more than that of the one before, and its changes add the rows of the next
-- lines, which the text loses where it is known. They have 8 MiB or more together, or the end comes after them. So many
-- rows were given before it and so many with it, and what is hashed grew by their lines.
pub record IsGiven (tables : List DescribedTable) (source : List ℕ) (given rows new_given new_rows : ℕ) (text new_text : Option (List ℕ)) (hasher new_hasher : Sha1) (d : DeliveryValue) : Type 0 where
  pub lines : List ℕ
  pub chunk : IsChunk tables d.changes lines
  pub took : Consumes text new_text lines
  pub full : (2 ^ 23 ≤ length lines) ⊎ IfSome new_text BeginsWithEnd
  pub source_is : d.source ≡ source
  pub number_is : d.number ≡ given + 1
  pub given_is : new_given ≡ d.number
  pub rows_are : new_rows ≡ rows + length d.changes
  pub hashed : (m : List ℕ) → Holds hasher m → Holds new_hasher (m ++ lines)

-- Nothing more was given: the text that was left is the line at its end, with the number of the rows that were given, and
-- what is hashed grew by it.
pub record IsFinished (given rows new_given new_rows : ℕ) (text : Option (List ℕ)) (hasher new_hasher : Sha1) : Type 0 where
  pub end : IfSome text (IsEndLine rows)
  pub given_is : new_given ≡ given
  pub rows_are : new_rows ≡ rows
  pub hashed : (m : List ℕ) → Holds hasher m → IfSome text (λ line. Holds new_hasher (m ++ line))

-- The text loses its first two lines, where it is known, and they have this set.
pub record TakesHead (ids : Ids) (text new_text : Option (List ℕ)) : Type 0 where
  pub head : List ℕ
  pub is_head : IsHead ids head
  pub took : Consumes text new_text head

-- ---- Private.

-- The line was taken: its change was added.
pub record IsLineTaken (tables : List DescribedTable) (line : List ℕ) (changes new_changes : List ChangeValue) : Type 0 where
  pub change : ChangeValue
  pub is_row : IsRowLine tables line change
  pub added : new_changes ≡ changes ++ change ∷ []

-- The lines of these changes were taken so far.
pub record IsGathered (tables : List DescribedTable) (rows new_rows : ℕ) (text new_text : Option (List ℕ)) (hasher new_hasher : Sha1) (size : ℕ) (changes : List ChangeValue) : Type 0 where
  pub lines : List ℕ
  pub are : AreRowLines tables changes lines
  pub chunk : ((changes ≡ []) × (lines ≡ [])) ⊎ IsChunk tables changes lines
  pub took : Consumes text new_text lines
  pub size_is : size ≡ length lines
  pub rows_are : new_rows ≡ rows + length changes
  pub hashed : (m : List ℕ) → Holds hasher m → Holds new_hasher (m ++ lines)

-- The lines of these changes were taken, up to 8 MiB or more of them, or up to the line at the end, whose
-- number is this and which is held now.
pub record IsCollected (tables : List DescribedTable) (rows new_rows : ℕ) (text new_text : Option (List ℕ)) (hasher new_hasher : Sha1) (held : List ℕ) (changes : List ChangeValue) (end : Option ℕ) : Type 0 where
  pub lines : List ℕ
  pub chunk : ((changes ≡ []) × (lines ≡ [])) ⊎ IsChunk tables changes lines
  pub took : Consumes text new_text lines
  pub full : MatchOption end (2 ^ 23 ≤ length lines) (λ number. IsEndLine number held)
  pub rows_are : new_rows ≡ rows + length changes
  pub hashed : (m : List ℕ) → Holds hasher m → Holds new_hasher (m ++ lines)
