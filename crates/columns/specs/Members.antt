-- The members of an ENUM or a SET in the text of its type. MySQL Reference Manual, "The ENUM Type", "The SET Type",
-- "Hexadecimal Literals" and "The INFORMATION_SCHEMA COLUMNS Table" (COLUMN_TYPE).
use Rattle.std.specs.Prelude.{◌≡◌, ◌≢◌, ℕ, ◌⊎◌, ◌<◌, ◌≤◌, Bool, ◌==◌, if◌then◌else◌, List, [], ◌∷◌, ◌++◌, map, length, codes}
use Rattle.std.specs.List.{join_by, AllByRecursion}
use Rattle.std.specs.Str.{byte, is_utf8}
use Rattle.columns.specs.Escapes.{escaped, hex_text, AreBytes}
use Rattle.columns.specs.declared.escape.Layer.TheVariants.{Quoted}
use Rattle.columns.specs.Word.{Ends, is_opening}
use Rattle.columns.specs.declared.member.Member.{Member}
use Rattle.columns.specs.declared.members.MembersFault.{MembersFault}
use Rattle.columns.specs.declared.members.MembersFault.TheVariants.{Text, Memory}

abbrev pub is_quote : ℕ → Bool
is_quote b = b == 39

abbrev pub is_comma : ℕ → Bool
is_comma b = b == 44

-- `'..'` with escapes where the bytes are UTF-8, otherwise `x'..'`
abbrev pub member_text : List ℕ → List ℕ
member_text bytes = if is_utf8 bytes then 39 ∷ (escaped Quoted bytes ++ 39 ∷ []) else byte "x" ∷ (39 ∷ (hex_text bytes ++ 39 ∷ []))

-- in parentheses, with commas between
abbrev pub members_text : List (List ℕ) → List ℕ
members_text members = byte "(" ∷ (join_by member_text (codes ",") members ++ byte ")" ∷ [])

-- the bytes of each member
abbrev pub member_bytes : List Member → List (List ℕ)
member_bytes members = map (λ member. member.text.items) members

-- At least one member, and at most so many.
pub record AreMembers (most : ℕ) (members : List (List ℕ)) : Type 0 where
  pub some : 0 < length members
  pub few : length members ≤ most
  pub bytes : AllByRecursion AreBytes members

-- No member stands at the front.
abbrev pub BeginsWithNoMember : List ℕ → Type 0
BeginsWithNoMember text = (bytes rest : List ℕ) → AreBytes bytes → Ends is_quote rest → text ≡ member_text bytes ++ rest → ⊥

-- the text up to the end of these members
abbrev pub members_front : List (List ℕ) → List ℕ
members_front members = byte "(" ∷ join_by member_text (codes ",") members

-- the text up to where one more member is due
abbrev pub members_before : List (List ℕ) → List ℕ
members_before [] = byte "(" ∷ []
members_before (member ∷ members) = members_front (member ∷ members) ++ byte "," ∷ []

-- What is wrong after these members: in front of the first no parenthesis, where one is due no member, or after one
-- neither the closing parenthesis at the end nor a comma, which no member too many follows.
abbrev pub IsWrongBehind : ℕ → List ℕ → List (List ℕ) → List ℕ → Type 0
IsWrongBehind most text members rest =
    ((text ≡ rest) × Ends is_opening rest)
    ⊎ (((text ≡ members_before members ++ rest) × (length members < most) × BeginsWithNoMember rest)
    ⊎ ((text ≡ members_front members ++ rest) × (0 < length members) × (rest ≢ byte ")" ∷ []) × (length members < most → Ends is_comma rest)))

-- The fault of a list that is none: how many bytes stand from there on. Memory is refused only after
-- the opening parenthesis.
abbrev pub IsMembersFault : ℕ → List ℕ → MembersFault → Type 0
IsMembersFault most text (Text left) = (members : List (List ℕ)) × (rest : List ℕ) × AllByRecursion AreBytes members × (length rest ≡ left) × IsWrongBehind most text members rest
IsMembersFault most text Memory = (rest : List ℕ) × (text ≡ byte "(" ∷ rest)
