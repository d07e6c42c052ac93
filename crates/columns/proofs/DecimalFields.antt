-- Decimal digits of a text, and the digits of a value.
use Rattle.columns.proofs.Names.{◌≡◌, ℕ, zero, suc, ◌+◌, ◌-◌, ◌<◌, ◌≤◌, ◌==◌, Bool, true, false, if◌then◌else◌, List, [], ◌∷◌, ◌++◌, length, take, replicate, refl, sym, ap, subst, ◌∙◌, arith, append_assoc, length-append, ◌&&◌, IsTrue, AllDigits, IsNumeral, decimal_digit, ne_eqb, length-map, length-replicate, length-take-le, length-drop, map-append, take-append-drop, take-append_seam, are_digits, are_zeros, digits_text, sign_part, Sign}
use Rattle.std.proofs.Common.{drop, take-take}
use Rattle.std.specs.Char.{digit_value}
use Rattle.std.proofs.lemmas.Str.{digit_value_digit}
use Rattle.std.proofs.lemmas.Str.Parse.{digit_from_value}
use Rattle.std.proofs.Math.Seq.{drop-append_seam}
use Rattle.columns.specs.Decimals.{significant, fraction_part, decimal_text, filled_width}
use Rattle.columns.specs.Reals.{minus_part}
use Rattle.columns.specs.PlainTexts.{shown_decimal}
use Rattle.columns.specs.FieldDecimals.{point_part, whole_digits, fraction_digits, IsPointed, IsNoMinusZero, IsDecimalField}
use Rattle.columns.specs.FieldPoints.{without_zeros, digit_values}
use Rattle.columns.specs.declared.value.decimal.Decimal.{Decimal}
use Rattle.columns.specs.declared.sign.Sign.TheVariants.{Signed, Unsigned, Zerofill}
use Rattle.columns.proofs.Types.{never, and_parts}
use Rattle.columns.proofs.DigitNumbers.{digit_small, digits_rest, digits_more, digits_append, digits_take, digits_drop, text_long, significant_digits, same_zeros}

-- the digit that a byte is
byte_small : (b : ℕ) → digit_value b < 10 → (48 ≤ b) × (b - 48 < 10)
byte_small b digit = let range = digit_from_value b digit in (omega (arith, range), omega (arith, range))

byte_back : (b : ℕ) → digit_value b < 10 → 48 + (b - 48) ≡ b
byte_back b digit = omega (arith, (byte_small b digit).0)

digit_is_byte : (d : ℕ) → d < 10 → digit_value (48 + d) < 10
digit_is_byte d small = omega (arith, small, digit_value_digit (48 + d) (omega arith, omega (arith, small)))

-- digits as a text, and back
pub values_text : (text : List ℕ) → AllDigits 10 text → digits_text (digit_values text) ≡ text
values_text [] digits = refl
values_text (b ∷ text) digits =
    ap (λ (xs : List ℕ). xs ++ digits_text (digit_values text)) (decimal_digit (b - 48) (byte_small b digits.0).1)
    ∙ (λ i. byte_back b digits.0 i ∷ values_text text digits.1 i)

text_of : (d : ℕ) (digits : List ℕ) → d < 10 → digits_text (d ∷ digits) ≡ (48 + d) ∷ digits_text digits
text_of d digits small = ap (λ (xs : List ℕ). xs ++ digits_text digits) (decimal_digit d small)

pub text_values : (digits : List ℕ) → IsTrue (are_digits digits) → digit_values (digits_text digits) ≡ digits
text_values [] lawful = refl
text_values (d ∷ digits) lawful =
    let small = digit_small d digits lawful in
    let one : 48 + d - 48 ≡ d = omega arith in
    ap digit_values (text_of d digits small) ∙ (λ i. one i ∷ text_values digits (digits_rest d digits lawful) i)

pub text_digits : (digits : List ℕ) → IsTrue (are_digits digits) → AllDigits 10 (digits_text digits)
text_digits [] lawful = tt
text_digits (d ∷ digits) lawful =
    let small = digit_small d digits lawful in
    subst (AllDigits 10) (sym (text_of d digits small)) (digit_is_byte d small, text_digits digits (digits_rest d digits lawful))

pub values_digits : (text : List ℕ) → AllDigits 10 text → IsTrue (are_digits (digit_values text))
values_digits [] digits = refl
values_digits (b ∷ text) digits = digits_more (b - 48) (digit_values text) (byte_small b digits.0).1 (values_digits text digits.1)

-- the zeros in front, and what follows them
by_zero : (P : List ℕ → Type 0) (b : ℕ) (text : List ℕ) → (b ≡ 48 → P (without_zeros text)) → ((b == 48) ≡ false → P (b ∷ text)) → P (without_zeros (b ∷ text))
by_zero P b text first second = by (b == 48) refl
  where
    by : (t : Bool) → (b == 48) ≡ t → P (if t then without_zeros text else (b ∷ text))
    by true h = first (grind (arith, h))
    by false h = second h

pub no_longer : (text : List ℕ) → length (without_zeros text) ≤ length text
no_longer [] = omega arith
no_longer (b ∷ text) = by_zero (λ xs. length xs ≤ length (b ∷ text)) b text (λ zero. omega (arith, no_longer text)) (λ other. omega arith)

pub zeros_back : (text : List ℕ) → replicate (length text - length (without_zeros text)) 48 ++ without_zeros text ≡ text
zeros_back [] = refl
zeros_back (b ∷ text) =
    by_zero (λ xs. replicate (length (b ∷ text) - length xs) 48 ++ xs ≡ b ∷ text) b text
    (λ is.
    let more : suc (length text) - length (without_zeros text) ≡ suc (length text - length (without_zeros text)) = omega (arith, no_longer text) in
    ap (λ (n : ℕ). replicate n 48 ++ without_zeros text) more ∙ (λ i. sym is i ∷ zeros_back text i))
    (λ other. let none : suc (length text) - suc (length text) ≡ 0 = omega arith in ap (λ (n : ℕ). replicate n 48 ++ (b ∷ text)) none)

pub more_zeros : (zeros : ℕ) (text : List ℕ) → without_zeros (replicate zeros 48 ++ text) ≡ without_zeros text
more_zeros zero text = refl
more_zeros (suc zeros) text = more_zeros zeros text

-- the zeros in front of digits do not count
pub same_front : (digits : List ℕ) → IsTrue (are_digits digits) → without_zeros (digits_text (significant digits)) ≡ without_zeros (digits_text digits)
same_front [] lawful = ap without_zeros (text_of 0 [] (omega arith))
same_front (zero ∷ digits) lawful = same_front digits (digits_rest 0 digits lawful) ∙ sym (ap without_zeros (text_of 0 digits (omega arith)))
same_front (suc d ∷ digits) lawful = rw (ne_eqb (suc d) 0 (λ none. omega (arith, none))) refl

zeros_in_front : (zeros : ℕ) (digits : List ℕ) → significant (replicate zeros 0 ++ digits) ≡ significant digits
zeros_in_front zero digits = refl
zeros_in_front (suc zeros) digits = zeros_in_front zeros digits

values_front : (text : List ℕ) → significant (digit_values (without_zeros text)) ≡ significant (digit_values text)
values_front [] = refl
values_front (b ∷ text) =
    by_zero (λ xs. significant (digit_values xs) ≡ significant (digit_values (b ∷ text))) b text
    (λ is. values_front text ∙ sym (ap (λ (n : ℕ). significant ((n - 48) ∷ digit_values text)) is)) (λ other. refl)

pub record HasZeros (text digits : List ℕ) : Type 0 where
  pub zeros : ℕ
  pub text_is : text ≡ replicate zeros 48 ++ digits_text digits

-- a text of digits is its digits but for zeros in front
pub shown : (text : List ℕ) → AllDigits 10 text → 0 < length text → HasZeros text (significant (digit_values text))
shown [] digits some = absurd (omega (arith, some))
shown (b ∷ text) digits some = by text refl (b - 48) refl (λ more. shown text digits.1 more)
  where
    by : (rest : List ℕ) → text ≡ rest → (d : ℕ) → b - 48 ≡ d → (0 < length text → HasZeros text (significant (digit_values text))) → HasZeros (b ∷ text) (significant (d ∷ digit_values text))
    by rest is (suc d) e others = record {
      zeros = 0;
      text_is =
          rw (ne_eqb (suc d) 0 (λ none. omega (arith, none)))
          (sym (ap (λ (n : ℕ). digits_text (n ∷ digit_values text)) (sym e) ∙ values_text (b ∷ text) digits));
    }
    by [] is zero e others =
        let zero_byte : b ≡ 48 = omega (arith, e, (byte_small b digits.0).0) in
        record {
          zeros = 0;
          text_is = (λ i. zero_byte i ∷ is i) ∙ sym (ap (λ (xs : List ℕ). digits_text (significant (digit_values xs))) is ∙ text_of 0 [] (omega arith));
        }
    by (c ∷ rest) is zero e others =
        let zero_byte : b ≡ 48 = omega (arith, e, (byte_small b digits.0).0) in
        let more = others (omega (arith, ap length is)) in
        record {
          zeros = suc more.zeros;
          text_is = (λ i. zero_byte i ∷ more.text_is i);
        }

-- the text of the digits in front of the point, which stand after zeros
pub front_shown : (whole front : List ℕ) (zeros : ℕ) → IsNumeral 10 whole → front ≡ replicate zeros 0 ++ digit_values (without_zeros whole) → HasZeros whole (significant front)
front_shown whole front zeros digits is =
    subst (HasZeros whole) (sym (ap significant is ∙ zeros_in_front zeros (digit_values (without_zeros whole)) ∙ values_front whole)) (shown whole digits.1 digits.0)

-- the point and the digits after it
pub point_same : (digits : List ℕ) → IsTrue (are_digits digits) → point_part (digits_text digits) ≡ fraction_part digits
point_same [] lawful = refl
point_same (d ∷ digits) lawful = let is = text_of d digits (digit_small d digits lawful) in ap point_part is ∙ ap (λ (xs : List ℕ). 46 ∷ xs) (sym is)

pub point_values : (text : List ℕ) → AllDigits 10 text → point_part text ≡ fraction_part (digit_values text)
point_values text digits = ap point_part (sym (values_text text digits)) ∙ point_same (digit_values text) (values_digits text digits)

-- digits in three parts
pub record HasParts (precision scale : ℕ) (digits front fraction rest : List ℕ) : Type 0 where
  pub front_is : take (precision - scale) digits ≡ front
  pub fraction_is : drop (precision - scale) (take precision digits) ≡ fraction
  pub rest_is : drop precision digits ≡ rest

pub three_parts : (precision scale : ℕ) (digits front fraction rest : List ℕ) → scale ≤ precision → length front ≡ precision - scale → length fraction ≡ scale →
    digits ≡ front ++ (fraction ++ rest) → HasParts precision scale digits front fraction rest
three_parts precision scale digits front fraction rest within front_long fraction_long is =
    let both = front ++ fraction in
    let long : length both ≡ precision = length-append front fraction ∙ omega (arith, front_long, fraction_long, within) in
    let joined : digits ≡ both ++ rest = is ∙ sym (append_assoc front fraction rest) in
    record {
      front_is = (λ i. take (sym front_long i) (is i)) ∙ take-append_seam front (fraction ++ rest);
      fraction_is =
          ap (drop (precision - scale)) ((λ i. take (sym long i) (joined i)) ∙ take-append_seam both rest)
          ∙ ap (λ (n : ℕ). drop n both) (sym front_long) ∙ drop-append_seam front fraction;
      rest_is = (λ i. drop (sym long i) (joined i)) ∙ drop-append_seam both rest;
    }

zeros_all : (n : ℕ) → IsTrue (are_zeros (replicate n 0))
zeros_all zero = refl
zeros_all (suc n) = zeros_all n

zeros_digits : (n : ℕ) → IsTrue (are_digits (replicate n 0))
zeros_digits zero = refl
zeros_digits (suc n) = digits_more 0 (replicate n 0) (omega arith) (zeros_digits n)

-- the digits as they are joined
abbrev pub joined : ℕ → List ℕ → List ℕ → List ℕ
joined zeros front fraction = replicate zeros 0 ++ (digit_values front ++ (digit_values fraction ++ replicate (65 - (zeros + (length front + length fraction))) 0))

pub joined_digits : (zeros : ℕ) (front fraction : List ℕ) → AllDigits 10 front → AllDigits 10 fraction → IsTrue (are_digits (joined zeros front fraction))
joined_digits zeros front fraction first second =
    let n = 65 - (zeros + (length front + length fraction)) in
    digits_append (replicate zeros 0) (digit_values front ++ (digit_values fraction ++ replicate n 0)) (zeros_digits zeros)
    (digits_append (digit_values front) (digit_values fraction ++ replicate n 0) (values_digits front first)
    (digits_append (digit_values fraction) (replicate n 0) (values_digits fraction second) (zeros_digits n)))

pub all_without : (text : List ℕ) → AllDigits 10 text → AllDigits 10 (without_zeros text)
all_without [] digits = tt
all_without (b ∷ text) digits = by_zero (AllDigits 10) b text (λ is. all_without text digits.1) (λ other. digits)

values_zeros : (n : ℕ) → digit_values (replicate n 48) ≡ replicate n 0
values_zeros zero = refl
values_zeros (suc n) = ap (λ (xs : List ℕ). 0 ∷ xs) (values_zeros n)

values_append : (n : ℕ) (text : List ℕ) → replicate n 0 ++ digit_values text ≡ digit_values (replicate n 48 ++ text)
values_append n text = sym (map-append (λ b. b - 48) (replicate n 48) text ∙ ap (λ (xs : List ℕ). xs ++ digit_values text) (values_zeros n))

some_digit : (digits : List ℕ) → 0 < length (significant digits)
some_digit [] = omega arith
some_digit (zero ∷ digits) = some_digit digits
some_digit (suc d ∷ digits) = rw (ne_eqb (suc d) 0 (λ none. omega (arith, none))) (omega arith)

zeros_and_digits : (zeros : ℕ) (digits : List ℕ) → IsTrue (are_digits digits) → 0 < length digits → IsNumeral 10 (replicate zeros 48 ++ digits_text digits)
zeros_and_digits zeros digits lawful some =
    (omega (arith, length-append (replicate zeros 48) (digits_text digits), text_long digits lawful, some), all zeros)
  where
    all : (n : ℕ) → AllDigits 10 (replicate n 48 ++ digits_text digits)
    all zero = text_digits digits lawful
    all (suc n) = (omega arith, all n)

in_parts : (room n : ℕ) (digits : List ℕ) → room ≤ n → take room digits ++ (drop room (take n digits) ++ drop n digits) ≡ digits
in_parts room n digits within =
    sym (append_assoc (take room digits) (drop room (take n digits)) (drop n digits))
    ∙ ap (λ (xs : List ℕ). xs ++ drop n digits) (ap (λ (xs : List ℕ). xs ++ drop room (take n digits)) (sym (take-take room n digits within)) ∙ take-append-drop room (take n digits))
    ∙ take-append-drop n digits

-- The field of another value: its parts in the text.
pub record HasCut (precision scale : ℕ) (negative : Bool) (digits field : List ℕ) : Type 0 where
  pub whole : List ℕ
  pub fraction : List ℕ
  pub pointed : IsPointed scale whole fraction (whole ++ point_part fraction)
  pub field_is : field ≡ minus_part negative ++ (whole ++ point_part fraction)
  pub front_small : length (without_zeros whole) ≤ precision - scale
  pub front_is : replicate (precision - scale - length (without_zeros whole)) 0 ++ digit_values (without_zeros whole) ≡ take (precision - scale) digits
  pub fraction_is : digit_values fraction ≡ drop (precision - scale) (take precision digits)

pub cut_of : (other : Decimal) (field : List ℕ) → IsDecimalField other field → HasCut other.precision other.scale other.negative other.digits field
cut_of other field is =
    let room = other.precision - other.scale in
    let front = take room other.digits in
    let back = drop room (take other.precision other.digits) in
    let front_lawful = digits_take room other.digits other.lawful in
    let back_lawful = digits_drop room (take other.precision other.digits) (digits_take other.precision other.digits other.lawful) in
    let shown = digits_text (significant front) in
    let whole = replicate is.zeros 48 ++ shown in
    let fraction = digits_text back in
    let plain = digits_text front in
    let front_long : length front ≡ room = length-take-le room other.digits (omega (arith, other.all, other.few)) in
    let plain_long : length plain ≡ room = text_long front front_lawful ∙ front_long in
    let same : without_zeros whole ≡ without_zeros plain = more_zeros is.zeros shown ∙ same_front front front_lawful in
    let back_long : length back ≡ other.scale =
    length-drop room (take other.precision other.digits) ∙ omega (arith, length-take-le other.precision other.digits (omega (arith, other.all, other.few)), other.within) in
    let values : replicate (room - length (without_zeros plain)) 0 ++ digit_values (without_zeros plain) ≡ front =
    ap (λ (n : ℕ). replicate (n - length (without_zeros plain)) 0 ++ digit_values (without_zeros plain)) (sym plain_long)
    ∙ values_append (length plain - length (without_zeros plain)) (without_zeros plain) ∙ ap digit_values (zeros_back plain) ∙ text_values front front_lawful in
    record {
      whole = whole;
      fraction = fraction;
      pointed = record {
        whole_digits = zeros_and_digits is.zeros (significant front) (significant_digits front front_lawful) (some_digit front);
        fraction_digits = text_digits back back_lawful;
        scale_is = text_long back back_lawful ∙ back_long;
        text_is = refl;
      };
      field_is = is.text_is
          ∙ ap (λ (xs : List ℕ). minus_part other.negative ++ xs)
          (sym (append_assoc (replicate is.zeros 48) shown (fraction_part back)) ∙ ap (λ (xs : List ℕ). whole ++ xs) (sym (point_same back back_lawful)));
      front_small = omega (arith, ap length same, no_longer plain, plain_long);
      front_is = ap (λ (xs : List ℕ). replicate (room - length xs) 0 ++ digit_values xs) same ∙ values;
      fraction_is = text_values back back_lawful;
    }

pub same_joined : (other : Decimal) (front fraction : List ℕ) → length front ≤ other.precision - other.scale → length fraction ≡ other.scale →
    replicate (other.precision - other.scale - length front) 0 ++ digit_values front ≡ take (other.precision - other.scale) other.digits →
    digit_values fraction ≡ drop (other.precision - other.scale) (take other.precision other.digits) →
    joined (other.precision - other.scale - length front) front fraction ≡ other.digits
same_joined other front fraction few scale first second =
    let room = other.precision - other.scale in
    let zeros = room - length front in
    let left = 65 - (zeros + (length front + length fraction)) in
    let left_is : left ≡ 65 - other.precision = omega (arith, few, scale, other.within) in
    let rest : drop other.precision other.digits ≡ replicate left 0 =
    same_zeros (drop other.precision other.digits) (replicate left 0)
    (length-drop other.precision other.digits ∙ omega (arith, other.all, left_is, length-replicate {A = ℕ} left 0)) other.rest (zeros_all left) in
    sym (append_assoc (replicate zeros 0) (digit_values front) (digit_values fraction ++ replicate left 0))
    ∙ (λ i. first i ++ (second i ++ sym rest i))
    ∙ in_parts room other.precision other.digits (omega arith)

pub record IsMade (precision scale : ℕ) (negative : Bool) (digits whole fraction field : List ℕ) : Type 0 where
  pub zeros : ℕ
  pub text_is : field ≡ minus_part negative ++
      (replicate zeros 48 ++ (digits_text (significant (take (precision - scale) digits)) ++ fraction_part (drop (precision - scale) (take precision digits))))
  pub lawful : IsTrue (are_digits digits)
  pub rest : IsTrue (are_zeros (drop precision digits))
  pub all : length digits ≡ 65

pub made_of : (precision scale : ℕ) (negative : Bool) (digits whole fraction text field : List ℕ) → precision ≤ 65 → scale ≤ precision → IsPointed scale whole fraction text →
    field ≡ minus_part negative ++ text → length (without_zeros whole) ≤ precision - scale →
    digits ≡ joined (precision - scale - length (without_zeros whole)) (without_zeros whole) fraction → IsMade precision scale negative digits whole fraction field
made_of precision scale negative digits whole fraction text field small within pointed field_is few is =
    let front = without_zeros whole in
    let zeros = precision - scale - length front in
    let left = 65 - (zeros + (length front + length fraction)) in
    let filled = replicate zeros 0 ++ digit_values front in
    let long : length filled ≡ precision - scale =
    length-append (replicate zeros 0) (digit_values front) ∙ omega (arith, length-replicate {A = ℕ} zeros 0, length-map front (λ b. b - 48), few) in
    let parts = three_parts precision scale digits filled (digit_values fraction) (replicate left 0) within long (length-map fraction (λ b. b - 48) ∙ pointed.scale_is)
    (is ∙ sym (append_assoc (replicate zeros 0) (digit_values front) (digit_values fraction ++ replicate left 0))) in
    let first = front_shown whole (take (precision - scale) digits) zeros pointed.whole_digits parts.front_is in
    let second : point_part fraction ≡ fraction_part (drop (precision - scale) (take precision digits)) =
    point_values fraction pointed.fraction_digits ∙ ap fraction_part (sym parts.fraction_is) in
    let size : length digits ≡ 65 =
    ap length is
    ∙ length-append (replicate zeros 0) (digit_values front ++ (digit_values fraction ++ replicate left 0))
    ∙ omega (
      arith,
      small,
      within,
      few,
      pointed.scale_is,
      length-replicate {A = ℕ} zeros 0,
      length-replicate {A = ℕ} left 0,
      length-map front (λ b. b - 48),
      length-map fraction (λ b. b - 48),
      length-append (digit_values front) (digit_values fraction ++ replicate left 0),
      length-append (digit_values fraction) (replicate left 0),
    ) in
    record {
      zeros = first.zeros;
      all = size;
      text_is = field_is
          ∙ ap (λ (xs : List ℕ). minus_part negative ++ xs)
          (pointed.text_is ∙ (λ i. first.text_is i ++ second i)
          ∙ append_assoc (replicate first.zeros 48) (digits_text (significant (take (precision - scale) digits))) (fraction_part (drop (precision - scale) (take precision digits))));
      lawful = subst (λ (xs : List ℕ). IsTrue (are_digits xs)) (sym is) (joined_digits zeros front fraction (all_without whole pointed.whole_digits.1) pointed.fraction_digits);
      rest = subst (λ (xs : List ℕ). IsTrue (are_zeros xs)) (sym parts.rest_is) (zeros_all left);
    }

-- what is joined of the parts of another value's field
pub joined_same : (other : Decimal) (field : List ℕ) (cut : HasCut other.precision other.scale other.negative other.digits field) (room : ℕ) (front fraction digits : List ℕ) →
    room ≡ other.precision - other.scale → front ≡ without_zeros cut.whole → fraction ≡ cut.fraction → digits ≡ joined (room - length front) front fraction → digits ≡ other.digits
joined_same other field cut room front fraction digits room_is front_is fraction_is is =
    is ∙ (λ i. joined (room_is i - length (front_is i)) (front_is i) (fraction_is i))
    ∙ same_joined other (without_zeros cut.whole) cut.fraction cut.front_small cut.pointed.scale_is cut.front_is cut.fraction_is

pub no_minus_zero : (negative none : Bool) → (negative && none) ≡ false → none ≡ true → negative ≡ false
no_minus_zero true none h is = sym is ∙ h
no_minus_zero false none h is = refl

pub zeros_taken : (n m : ℕ) → n ≤ m → take n (replicate {A = ℕ} m 0) ≡ replicate n 0
zeros_taken zero m within = refl
zeros_taken (suc n) zero within = absurd (omega arith)
zeros_taken (suc n) (suc m) within = ap (λ (xs : List ℕ). 0 ∷ xs) (zeros_taken n m (omega (arith, within)))

pub zeros_left : (n m : ℕ) → drop n (replicate {A = ℕ} m 0) ≡ replicate (m - n) 0
zeros_left zero m = let all : m ≡ m - 0 = omega arith in ap (λ (k : ℕ). replicate k 0) all
zeros_left (suc n) zero = let none : 0 ≡ 0 - suc n = omega arith in ap (λ (k : ℕ). replicate k 0) none
zeros_left (suc n) (suc m) = let same : m - n ≡ suc m - suc n = omega arith in zeros_left n m ∙ ap (λ (k : ℕ). replicate k 0) same

zeros_both : (a b : List ℕ) → IsTrue (are_zeros a) → IsTrue (are_zeros b) → IsTrue (are_zeros (a ++ b))
zeros_both [] b first second = second
zeros_both (d ∷ a) b first second =
    let parts = and_parts (d == 0) (are_zeros a) first in
    rw parts.0 (zeros_both a b parts.1 second)

-- the sign of a value that is no zero with a minus sign
sign_same : (value : Decimal) → IsNoMinusZero value → sign_part value.negative (take value.precision value.digits) ≡ minus_part value.negative
sign_same value plain = by value.negative (are_zeros (take value.precision value.digits)) refl refl
  where
    by : (negative none : Bool) → value.negative ≡ negative → are_zeros (take value.precision value.digits) ≡ none →
        (if none then [] else (if negative then 45 ∷ [] else [])) ≡ minus_part negative
    by negative false minus some = refl
    by false true minus nothing = refl
    by true true minus nothing =
        let all = subst (λ (xs : List ℕ). IsTrue (are_zeros xs)) (take-append-drop value.precision value.digits)
        (zeros_both (take value.precision value.digits) (drop value.precision value.digits) nothing value.rest) in
        absurd (never (sym (plain all) ∙ minus))

-- a value's text, with the zeros of ZEROFILL or without
pub shown_is : (sign : Sign) (value : Decimal) → IsNoMinusZero value → (sign ≡ Zerofill → value.negative ≡ false) → IsDecimalField value (shown_decimal sign value)
shown_is Signed value plain filled = record {
  plain = plain;
  zeros = 0;
  text_is = ap (λ (xs : List ℕ). xs ++ (digits_text (significant (whole_digits value)) ++ fraction_part (fraction_digits value))) (sign_same value plain);
}
shown_is Unsigned value plain filled = record {
  plain = plain;
  zeros = 0;
  text_is = ap (λ (xs : List ℕ). xs ++ (digits_text (significant (whole_digits value)) ++ fraction_part (fraction_digits value))) (sign_same value plain);
}
shown_is Zerofill value plain filled =
    let text = decimal_text value.negative value.precision value.scale value.digits in
    let digits = digits_text (significant (whole_digits value)) ++ fraction_part (fraction_digits value) in
    let zeros = filled_width value.precision value.scale - length text in
    let moved = subst (λ (n : Bool). replicate zeros 48 ++ (minus_part n ++ digits) ≡ minus_part n ++ (replicate zeros 48 ++ digits)) (sym (filled refl)) refl in
    record {
      plain = plain;
      zeros = zeros;
      text_is = ap (λ (xs : List ℕ). replicate zeros 48 ++ (xs ++ digits)) (sign_same value plain) ∙ moved;
    }
