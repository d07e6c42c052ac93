-- The metadata of the columns that bytes or types encode is in range.
use Rattle.binlog.proofs.Names.{◌≡◌, ℕ, ◌+◌, List, [], ◌∷◌, get_or, Option, Some, None, refl, sym, ap, subst, AllByRecursion, get_or-drop, kinds, is_lawful, column_fault, metadata_length, ColumnKind, ColumnType, EventFaultKind, IsBytes}
use Rattle.std.proofs.Common.{drop, IsTrue}
use Rattle.binlog.specs.Columns.{kind_of, column_front, columns_of}
use Rattle.binlog.proofs.Columns.{some_column}
use Rattle.binlog.proofs.TableColumns.{after_metadata, column_first}

abbrev pub AllLawful : List ColumnKind → Type 0
AllLawful columns = AllByRecursion (λ kind. IsTrue (is_lawful kind)) columns

pub lawful_kinds : (types : List ColumnType) → AllLawful (kinds types)
lawful_kinds [] = tt
lawful_kinds (t ∷ types) = (t.lawful, lawful_kinds types)

front_lawful : (fault : Option EventFaultKind) (code : ℕ) (codes bytes : List ℕ) → column_fault code bytes ≡ fault → IsBytes bytes → AllLawful (columns_of codes (drop (metadata_length code) bytes)) → AllLawful (columns_of (code ∷ codes) bytes)
front_lawful (Some fault) code codes bytes is fits others =
    let none : columns_of (code ∷ codes) bytes ≡ [] = ap (λ f. column_front f (kind_of code (get_or bytes 0 0) (get_or bytes 1 0)) (columns_of codes (drop (metadata_length code) bytes))) is in
    subst AllLawful {x = []} (sym none) tt
front_lawful None code codes bytes is fits others =
    let h = some_column code bytes fits is in
    let first : columns_of (code ∷ codes) bytes ≡ h.kind ∷ columns_of codes h.rest = column_first h.kind code codes h.rest bytes h.is_column in
    let after : drop (metadata_length code) bytes ≡ h.rest = after_metadata h.kind code h.rest bytes h.is_column in
    let rest : AllLawful (columns_of codes h.rest) = subst (λ r. AllLawful (columns_of codes r)) after others in
    subst AllLawful {x = h.kind ∷ columns_of codes h.rest} (sym {b = h.kind ∷ columns_of codes h.rest} first) (h.is_column.lawful, rest)

pub lawful_columns : (codes bytes : List ℕ) → IsBytes bytes → AllLawful (columns_of codes bytes)
lawful_columns [] bytes fits = tt
lawful_columns (code ∷ codes) bytes fits =
    let after : IsBytes (drop (metadata_length code) bytes) = λ i. rw get_or-drop (fits (metadata_length code + i)) in
    front_lawful (column_fault code bytes) code codes bytes refl fits (lawful_columns codes (drop (metadata_length code) bytes) after)
