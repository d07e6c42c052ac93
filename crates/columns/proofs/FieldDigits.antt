-- Decimal digits of a text, and the number that they are.
use Rattle.columns.proofs.Names.{◌≡◌, ℕ, zero, suc, ◌+◌, ◌-◌, ◌*◌, ◌^◌, ◌<◌, List, [], ◌∷◌, ◌++◌, length, take, replicate, get_or, refl, sym, subst, ◌∙◌, arith, length-append, AllDigits, length-decimal-le, length-replicate, zero_padded, IsDigitsOf}
use Rattle.std.proofs.Common.{decimal}
use Rattle.std.specs.Str.Parse.{digits_value, digits_value_after}
use Rattle.std.specs.Char.{digit_value}
use Rattle.std.proofs.lemmas.Int.Digits.{digits_value-lt}
use Rattle.std.proofs.lemmas.Str.{digit_value_digit}
use Rattle.std.proofs.lemmas.Str.Parse.{digit_from_value}
use Rattle.std.proofs.lemmas.Fmt.{decimal_is_IsNumeral}

pub one_digit_more : (i : ℕ) (text : List ℕ) → i < length text → AllDigits 10 (take i text) → digit_value (get_or text i 0) < 10 → AllDigits 10 (take (suc i) text)
one_digit_more i [] below digits next = absurd (omega (arith, below))
one_digit_more zero (b ∷ text) below digits next = (next, tt)
one_digit_more (suc i) (b ∷ text) below digits next = (digits.0, one_digit_more i text (omega (arith, below)) digits.1 next)

pub digit_there : (i : ℕ) (text : List ℕ) → i < length text → AllDigits 10 text → digit_value (get_or text i 0) < 10
digit_there i [] below digits = absurd (omega (arith, below))
digit_there zero (b ∷ text) below digits = digits.0
digit_there (suc i) (b ∷ text) below digits = digit_there i text (omega (arith, below)) digits.1

-- digits after two numbers, of one length and of the same value in all, are the same
after_two : (m n : ℕ) (a b : List ℕ) → length a ≡ length b → AllDigits 10 a → AllDigits 10 b → digits_value_after 10 m a ≡ digits_value_after 10 n b → (m ≡ n) × (a ≡ b)
after_two m n [] [] long first second same = (same, refl)
after_two m n [] (d ∷ b) long first second same = absurd (omega (arith, long))
after_two m n (c ∷ a) [] long first second same = absurd (omega (arith, long))
after_two m n (c ∷ a) (d ∷ b) long first second same =
    let rest = after_two (m * 10 + digit_value c) (n * 10 + digit_value d) a b (omega (arith, long)) first.1 second.1 same in
    let tens : m ≡ n = omega (arith, rest.0, first.0, second.0) in
    let ones : digit_value c ≡ digit_value d = omega (arith, rest.0, first.0, second.0) in
    let digit : c ≡ d = omega (arith, ones, digit_value_digit c (digit_from_value c first.0), digit_value_digit d (digit_from_value d second.0)) in
    (tens, λ i. digit i ∷ rest.1 i)

-- texts of one length that are the same number are the same
pub same_text : (n : ℕ) (a b : List ℕ) → length a ≡ length b → IsDigitsOf n a → IsDigitsOf n b → a ≡ b
same_text n a b long first second = (after_two 0 0 a b long first.0.1 second.0.1 (first.1 ∙ sym second.1)).1

zeros_ahead : (zeros : ℕ) (text : List ℕ) → AllDigits 10 text → AllDigits 10 (replicate zeros 48 ++ text) × (digits_value 10 (replicate zeros 48 ++ text) ≡ digits_value 10 text)
zeros_ahead zero text digits = (digits, refl)
zeros_ahead (suc zeros) text digits = let rest = zeros_ahead zeros text digits in ((omega arith, rest.0), rest.1)

-- what is written with zeros in front is the number
pub padded_is : (width n : ℕ) → n < 2 ^ 64 → IsDigitsOf n (zero_padded width n)
padded_is width n small =
    let plain = decimal_is_IsNumeral n small in
    let filled = zeros_ahead (width - length (decimal n)) (decimal n) plain.0.1 in
    let long = length-append (replicate (width - length (decimal n)) 48) (decimal n) in
    ((omega (arith, long, plain.0.0), filled.0), filled.1 ∙ plain.1)

pub decimal_is : (n : ℕ) → n < 2 ^ 64 → IsDigitsOf n (decimal n)
decimal_is n small = decimal_is_IsNumeral n small

-- and it is so long, if the number has no more digits
pub padded_long : (width n : ℕ) → 0 < width → n < 10 ^ width → n < 2 ^ 64 → length (zero_padded width n) ≡ width
padded_long width n some fits small =
    let few = length-decimal-le width n some fits small in
    omega (arith, few, length-append (replicate (width - length (decimal n)) 48) (decimal n), length-replicate {A = ℕ} (width - length (decimal n)) 48)

-- digits of so many are less than a power of ten
pub whole_small : (n : ℕ) (text : List ℕ) → IsDigitsOf n text → n < 10 ^ length text
whole_small n text is = subst (λ (k : ℕ). k < 10 ^ length text) is.1 (digits_value-lt 10 text is.0.1)

-- so many digits are the number written with zeros in front
pub is_padded : (width n : ℕ) (text : List ℕ) → length text ≡ width → n < 2 ^ 64 → IsDigitsOf n text → text ≡ zero_padded width n
is_padded width n text long small is =
    let fits : n < 10 ^ width = subst (λ (k : ℕ). n < 10 ^ k) long (whole_small n text is) in
    same_text n text (zero_padded width n) (omega (arith, long, padded_long width n (omega (arith, long, is.0.0)) fits small)) is (padded_is width n small)
