-- The names of types with members are no other type's, and neither are their texts.
use Rattle.columns.proofs.Names.{◌≡◌, ℕ, ◌≤◌, inl, inr, List, ◌++◌, length, get_or, refl, ap, sym, ◌∙◌, arith, length-append, codes, arguments_text, sign_text, Are, Ends, members_text, members_front, Arguments, Sign}
use Rattle.columns.specs.TypeName.{name_text}
use Rattle.columns.specs.TypeText.{type_text}
use Rattle.columns.specs.Word.{is_letter}
use Rattle.columns.specs.Members.{members_before, IsMembersFault}
use Rattle.columns.specs.declared.members.MembersFault.TheVariants.{Text}
use Rattle.columns.specs.declared.type_name.TypeName.{TypeName}
use Rattle.columns.specs.declared.type_name.TypeName.TheVariants.{Tinyint, Text}
use Rattle.columns.proofs.Words.{one_cut}
use Rattle.columns.proofs.Types.{letters, no_letter}

not_enum : (name : TypeName) → name_text name ≡ codes "enum" → ⊥
not_enum Tinyint e = omega (arith, ap (λ xs. get_or xs 0 0) e)
not_enum _ e = omega (arith, ap (λ xs. get_or xs 0 0) e)

not_set : (name : TypeName) → name_text name ≡ codes "set" → ⊥
not_set Tinyint e = omega (arith, ap (λ xs. get_or xs 0 0) e, ap (λ xs. get_or xs 1 0) e)
not_set _ e = omega (arith, ap (λ xs. get_or xs 0 0) e, ap (λ xs. get_or xs 1 0) e)

-- a text that begins with the name of a type without members does not begin with these
pub no_enum : (word rest text : List ℕ) (name : TypeName) (numbers : Arguments) (sign : Sign) → text ≡ word ++ rest → Are is_letter word → Ends is_letter rest →
    text ≡ type_text name numbers sign → word ≡ codes "enum" → ⊥
no_enum word rest text name numbers sign whole run end is same =
    let cut = one_cut is_letter word (name_text name) rest (arguments_text numbers ++ sign_text sign) run (letters name) end (no_letter numbers sign) (sym whole ∙ is) in
    not_enum name (sym cut.0 ∙ same)

pub no_set : (word rest text : List ℕ) (name : TypeName) (numbers : Arguments) (sign : Sign) → text ≡ word ++ rest → Are is_letter word → Ends is_letter rest →
    text ≡ type_text name numbers sign → word ≡ codes "set" → ⊥
no_set word rest text name numbers sign whole run end is same =
    let cut = one_cut is_letter word (name_text name) rest (arguments_text numbers ++ sign_text sign) run (letters name) end (no_letter numbers sign) (sym whole ∙ is) in
    not_set name (sym cut.0 ∙ same)

-- a text that begins with this name and a list of members
pub name_cut : (word rest text name : List ℕ) (members : List (List ℕ)) → Are is_letter name → text ≡ word ++ rest → Are is_letter word → Ends is_letter rest →
    text ≡ name ++ members_text members → (word ≡ name) × (rest ≡ members_text members)
name_cut word rest text name members known whole run end is = one_cut is_letter word name rest (members_text members) run known end refl (sym whole ∙ is)

pub enum_letters : Are is_letter (codes "enum")
enum_letters = (refl, (refl, (refl, (refl, tt))))

pub set_letters : Are is_letter (codes "set")
set_letters = (refl, (refl, (refl, tt)))

pub fault_within : (most : ℕ) (list : List ℕ) (left : ℕ) → IsMembersFault most list (Text left) → left ≤ length list
fault_within most list left (members, rest, bytes, size, inl found) = omega (arith, size, ap length found.0)
fault_within most list left (members, rest, bytes, size, inr (inl found)) = omega (arith, size, ap length found.0, length-append (members_before members) rest)
fault_within most list left (members, rest, bytes, size, inr (inr found)) = omega (arith, size, ap length found.0, length-append (members_front members) rest)
