-- The text of the type of a column. MySQL Reference Manual, "Data Types", "The ENUM Type", "The SET Type" and "The
-- INFORMATION_SCHEMA COLUMNS Table" (COLUMN_TYPE).
use Rattle.std.specs.Prelude.{◌≡◌, ℕ, ◌+◌, ◌⊎◌, List, ◌∷◌, ◌++◌, length, codes, IsTrue}
use Rattle.std.specs.Str.{byte}
use Rattle.columns.specs.DataType.{is_type}
use Rattle.columns.specs.TypeText.{type_text, IsTypeFault}
use Rattle.columns.specs.Members.{members_text, member_bytes, AreMembers, IsMembersFault}
use Rattle.columns.specs.declared.type_name.TypeName.{TypeName}
use Rattle.columns.specs.declared.arguments.Arguments.{Arguments}
use Rattle.columns.specs.declared.sign.Sign.{Sign}
use Rattle.columns.specs.declared.members.MembersFault.TheVariants.{Text}
use Rattle.columns.specs.declared.column_type.ColumnType.{ColumnType}
use Rattle.columns.specs.declared.column_type.ColumnType.TheVariants.{Scalar, Enum, Set}
use Rattle.columns.specs.declared.column_type.ColumnTypeFault.{ColumnTypeFault}
use Rattle.columns.specs.declared.column_type.ColumnTypeFault.TheVariants.{DataType, Members, Memory}

-- A type, with the bytes of its members.
pub data TypeValue : Type 0 where
  scalar : TypeName → Arguments → Sign → TypeValue
  enumeration : List (List ℕ) → TypeValue
  choices : List (List ℕ) → TypeValue

abbrev pub type_value : ColumnType → TypeValue
type_value (Scalar made) = scalar made.name made.numbers made.sign
type_value (Enum list) = enumeration (member_bytes list.members.items)
type_value (Set list) = choices (member_bytes list.members.items)

-- an ENUM has from 1 to 65,535 members, a SET from 1 to 64
abbrev pub IsType : TypeValue → Type 0
IsType (scalar name numbers sign) = IsTrue (is_type name numbers sign)
IsType (enumeration members) = AreMembers 65535 members
IsType (choices members) = AreMembers 64 members

abbrev pub column_type_text : TypeValue → List ℕ
column_type_text (scalar name numbers sign) = type_text name numbers sign
column_type_text (enumeration members) = codes "enum" ++ members_text members
column_type_text (choices members) = codes "set" ++ members_text members

-- What is wrong with the members after the name of a type, in a text of so many bytes: a list of members that is none,
-- from this offset on; or memory is refused, which members alone take.
abbrev pub IsMemberListFault : ℕ → ℕ → List ℕ → ColumnTypeFault → Type 0
IsMemberListFault most size list (DataType fault) = ⊥
IsMemberListFault most size list (Members at) = (left : ℕ) × (at + left ≡ size) × IsMembersFault most list (Text left)
IsMemberListFault most size list Memory = (rest : List ℕ) × (list ≡ byte "(" ∷ rest)

-- What is wrong with a text that is no type's.
abbrev pub IsColumnTypeFault : List ℕ → ColumnTypeFault → Type 0
IsColumnTypeFault text (DataType fault) = IsTypeFault text fault
IsColumnTypeFault text (Members at) =
    ((list : List ℕ) × (text ≡ codes "enum" ++ list) × IsMemberListFault 65535 (length text) list (Members at))
    ⊎ ((list : List ℕ) × (text ≡ codes "set" ++ list) × IsMemberListFault 64 (length text) list (Members at))
IsColumnTypeFault text Memory =
    ((list : List ℕ) × (text ≡ codes "enum" ++ list) × IsMemberListFault 65535 (length text) list Memory)
    ⊎ ((list : List ℕ) × (text ≡ codes "set" ++ list) × IsMemberListFault 64 (length text) list Memory)
