-- What the texts of types begin with, and the range of their numbers.
use Rattle.columns.proofs.Names.{◌≡◌, ℕ, ◌<◌, ◌≤◌, inl, inr, Bool, true, false, ◌&&◌, nat_le, List, [], ◌∷◌, ◌++◌, Option, Some, None, refl, ap, sym, subst, ◌∙◌, arith, IsTrue, Result, Ok, Err, cases_lt, Are, Ends, is_type, arguments_text, sign_text, Arguments, Sign}
use Rattle.std.proofs.Common.{is_some, unwrap_or}
use Rattle.std.specs.Prelude.{IsSome, IfSome, IsSomeAnd, IsOkAnd, cond}
use Rattle.std.proofs.lemmas.Bool.{lt-leb}
use Rattle.columns.specs.TypeName.{name_text}
use Rattle.columns.specs.Word.{is_letter, is_opening}
use Rattle.columns.specs.DataType.{takes, signs}
use Rattle.columns.specs.TypeText.{AreSmall}
use Rattle.columns.specs.declared.type_name.TypeName.{TypeName}
use Rattle.columns.specs.declared.type_name.TypeName.TheVariants.{Tinyint, Smallint, Mediumint, Int, Bigint, Decimal, Float, Double, Bit, Year, Time, Datetime, Timestamp, Char, Varchar, Binary, Varbinary, Vector}
use Rattle.columns.specs.declared.arguments.Arguments.TheVariants.{NoNumber, OneNumber, TwoNumbers}
use Rattle.columns.specs.declared.sign.Sign.TheVariants.{Signed, Unsigned, Zerofill}
use Rattle.columns.proofs.Words.{one_cut}

pub never : false ≡ true → ⊥
never h = subst (λ (b : Bool). cond b ⊥ (Unit {0})) h tt

-- a test of each byte that computes
abbrev all_are : (ℕ → Bool) → List ℕ → Bool
all_are kind [] = true
all_are kind (b ∷ bytes) = kind b && all_are kind bytes

pub and_parts : (a b : Bool) → (a && b) ≡ true → (a ≡ true) × (b ≡ true)
and_parts true b h = (refl, h)
and_parts false b h = absurd (never h)

are_of : (kind : ℕ → Bool) (bytes : List ℕ) → all_are kind bytes ≡ true → Are kind bytes
are_of kind [] all = tt
are_of kind (b ∷ bytes) all = let parts = and_parts (kind b) (all_are kind bytes) all in (parts.0, are_of kind bytes parts.1)

-- a name is of letters
pub letters : (name : TypeName) → Are is_letter (name_text name)
letters Tinyint = are_of is_letter (name_text Tinyint) refl
letters name = are_of is_letter (name_text name) refl

pub no_letter : (numbers : Arguments) (sign : Sign) → Ends is_letter (arguments_text numbers ++ sign_text sign)
no_letter NoNumber Signed = tt
no_letter NoNumber Unsigned = refl
no_letter NoNumber Zerofill = refl
no_letter (OneNumber n) sign = refl
no_letter (TwoNumbers n m) sign = refl

pub no_opening : (sign : Sign) → Ends is_opening (sign_text sign)
no_opening Signed = tt
no_opening Unsigned = refl
no_opening Zerofill = refl

pub le_of : (a b : ℕ) → nat_le a b ≡ true → a ≤ b
le_of a b h = elim (cases_lt b a) [ inl above ↦ absurd (never (sym (lt-leb a b above) ∙ h)) | inr within ↦ within ]

between : (low high n : ℕ) → IsTrue (nat_le low n && nat_le n high) → n ≤ high
between low high n h = le_of n high (and_parts (nat_le low n) (nat_le n high) h).1

small_one : (name : TypeName) (n : ℕ) → IsTrue (takes name (OneNumber n)) → n < 100000
small_one Tinyint n h = omega (arith, between 1 255 n h)
small_one Smallint n h = omega (arith, between 1 255 n h)
small_one Mediumint n h = omega (arith, between 1 255 n h)
small_one Int n h = omega (arith, between 1 255 n h)
small_one Bigint n h = omega (arith, between 1 255 n h)
small_one Bit n h = omega (arith, between 1 64 n h)
small_one Year n h = omega (arith, between 4 4 n h)
small_one Time n h = omega (arith, between 1 6 n h)
small_one Datetime n h = omega (arith, between 1 6 n h)
small_one Timestamp n h = omega (arith, between 1 6 n h)
small_one Char n h = omega (arith, between 0 255 n h)
small_one Varchar n h = omega (arith, between 0 65535 n h)
small_one Binary n h = omega (arith, between 0 255 n h)
small_one Varbinary n h = omega (arith, between 0 65535 n h)
small_one Vector n h = omega (arith, between 1 16383 n h)
small_one _ n h = absurd (never h)

digits : (most n m : ℕ) → IsTrue (nat_le 1 n && nat_le n most && nat_le m n && nat_le m 30) → (n ≤ most) × (m ≤ 30)
digits most n m h =
    let first = and_parts (nat_le 1 n && nat_le n most && nat_le m n) (nat_le m 30) h in
    let second = and_parts (nat_le 1 n && nat_le n most) (nat_le m n) first.0 in
    (le_of n most (and_parts (nat_le 1 n) (nat_le n most) second.0).1, le_of m 30 first.1)

small_two : (name : TypeName) (n m : ℕ) → IsTrue (takes name (TwoNumbers n m)) → (n < 100000) × (m < 100000)
small_two Decimal n m h = let found = digits 65 n m h in (omega (arith, found.0), omega (arith, found.1))
small_two Float n m h = let found = digits 255 n m h in (omega (arith, found.0), omega (arith, found.1))
small_two Double n m h = let found = digits 255 n m h in (omega (arith, found.0), omega (arith, found.1))
small_two _ n m h = absurd (never h)

pub small : (name : TypeName) (numbers : Arguments) (sign : Sign) → IsTrue (is_type name numbers sign) → AreSmall numbers
small name NoNumber sign h = tt
small name (OneNumber n) sign h = small_one name n ((and_parts (takes name (OneNumber n)) (signs name (OneNumber n) sign) h).0)
small name (TwoNumbers n m) sign h = small_two name n m ((and_parts (takes name (TwoNumbers n m)) (signs name (TwoNumbers n m) sign) h).0)

pub some_is : (a b : TypeName) → Some a ≡ Some b → a ≡ b
some_is a b same = ap (λ (o : Option TypeName). unwrap_or o a) same

-- a text that is cut after its letters, and is a type's, is cut after the type's name
pub same_head : (word rest text : List ℕ) (name : TypeName) (tail : List ℕ) → text ≡ word ++ rest → Are is_letter word → Ends is_letter rest →
    Ends is_letter tail → text ≡ name_text name ++ tail → (name_text name ≡ word) × (rest ≡ tail)
same_head word rest text name tail whole run end stop is =
    let cut = one_cut is_letter word (name_text name) rest tail run (letters name) end stop (sym whole ∙ is) in
    (sym cut.0, cut.1)

pub none_some : {A : Type 0} (a : A) → None ≡ Some a → ⊥
none_some a same = never (ap is_some same)

pub some_and : {A : Type 0} (P Q : A → Type 0) (r : Option A) → IsSome r → IfSome r P → ((a : A) → P a → Q a) → IsSomeAnd r Q
some_and P Q None some holds leads = absurd (never some)
some_and P Q (Some a) some holds leads = leads a holds

-- Two facts of the value in an `Ok` are of the same value.
pub both_hold : {A E : Type 0} (P Q : A → Type 0) (C : Type 0) (r : Result A E) → IsOkAnd r P → IsOkAnd r Q → ((a : A) → P a → Q a → C) → C
both_hold P Q C (Ok a) p q leads = leads a p q
both_hold P Q C (Err e) p q leads = absurd p

pub and_then : {A : Type 0} (P Q R : A → Type 0) (r : Option A) → IsSomeAnd r P → IfSome r Q → ((a : A) → P a → Q a → R a) → IsSomeAnd r R
and_then P Q R None p q leads = absurd p
and_then P Q R (Some a) p q leads = leads a p q

pub and_two : {A : Type 0} (P Q R S : A → Type 0) (r : Option A) → IsSomeAnd r P → IfSome r Q → IfSome r R → ((a : A) → P a → Q a → R a → S a) → IsSomeAnd r S
and_two P Q R S None p q t leads = absurd p
and_two P Q R S (Some a) p q t leads = leads a p q t

-- a result has one value at most
pub same_ok : {T E : Type 0} (result : Result T E) (a b : T) → result ≡ Ok a → result ≡ Ok b → a ≡ b
same_ok result a b first second = ap (λ r. value_or r a) (sym first ∙ second)
  where
    value_or : {T E : Type 0} → Result T E → T → T
    value_or (Ok value) other = value
    value_or (Err error) other = other
