-- Counting digits, and rounding.
use Rattle.columns.proofs.Names.{◌≡◌, ℕ, ◌+◌, ◌*◌, ◌/◌, ◌%◌, ◌^◌, ◌<◌, ◌≤◌, [], ◌∷◌, ◌++◌, length, sym, ap, ◌∙◌, arith, length-append, one-le-pow, pow-le-pow_right, decimal_digit, length-decimal-le, ne_eqb, zero_padded}
use Rattle.std.proofs.Common.{decimal, mul-le-mul_left, mul_assoc, pow-suc, mod-eq_of_lt}
use Rattle.std.proofs.Math.Nat.{div-eq_of_lt}
use Rattle.std.proofs.lemmas.Nat.{div-add-mod'}
use Rattle.std.proofs.lemmas.Fmt.{decimal_step, decimal_nonempty}
use Rattle.std.specs.Str.{byte}
use Rattle.columns.specs.Reals.{point_text}
use Rattle.columns.specs.Tens.{IsRounded}

pub one_digit : (n : ℕ) → n < 10 → length (decimal n) ≡ 1
one_digit n small = ap length (decimal_digit n small)

pub one_more : (n : ℕ) → 10 ≤ n → n < 2 ^ 64 → length (decimal n) ≡ length (decimal (n / 10)) + 1
one_more n large fits = ap length (decimal_step n large fits) ∙ length-append (decimal (n / 10)) ((48 + n % 10) ∷ []) ∙ omega arith

pub some_digits : (n : ℕ) → n < 2 ^ 64 → 0 < length (decimal n)
some_digits n small = decimal_nonempty n small

pub at_most_17 : (n : ℕ) → n < 10 ^ 17 → length (decimal n) ≤ 17
at_most_17 n small = length-decimal-le 17 n (omega arith) small (omega (arith, small))

pub unit_fits : (k : ℕ) → k ≤ 17 → 10 ^ k ≤ 10 ^ 17
unit_fits k few = pow-le-pow_right (omega arith) few

pub some_unit : (k : ℕ) → 1 ≤ 10 ^ k
some_unit k = one-le-pow k 10 (omega arith)

-- what is far below the unit is none
pub no_unit : (number tens : ℕ) → number < 10 ^ 17 → 17 < tens → IsRounded number (10 ^ tens) 0
no_unit number tens small many =
    let unit : 10 ^ 18 ≤ 10 ^ tens = pow-le-pow_right (omega arith) many in
    record {
      low = omega arith;
      high = omega (arith, small, unit);
      tie_below = λ h. omega arith;
      tie_above = λ h. omega arith;
    }

-- one unit more is no more than the number, if something is left over
pub one_up : (number unit : ℕ) → 1 ≤ unit → 1 ≤ number % unit → number / unit + 1 ≤ number
one_up number unit some left =
    let product = mul-le-mul_left (number / unit) some in
    omega (arith, div-add-mod' number unit, product, left)

-- a zero off the end
pub zero_off : (number left zeros : ℕ) → number ≡ left * 10 ^ zeros → left % 10 ≡ 0 → number ≡ left / 10 * 10 ^ (zeros + 1)
zero_off number left zeros is end =
    let tens : left ≡ left / 10 * 10 = omega (arith, end) in
    let more : 10 ^ (zeros + 1) ≡ 10 * 10 ^ zeros = ap (λ (k : ℕ). 10 ^ k) (omega arith) ∙ pow-suc 10 zeros ∙ omega arith in
    is ∙ ap (λ (n : ℕ). n * 10 ^ zeros) tens ∙ mul_assoc (left / 10) 10 (10 ^ zeros) ∙ ap (λ (u : ℕ). left / 10 * u) (sym more)

-- a number all of whose digits stand after the point
pub far_point : (k number : ℕ) → 17 < k → number < 10 ^ 17 → point_text k number ≡ byte "0" ∷ byte "." ∷ zero_padded k number
far_point k number many small =
    let unit : 10 ^ 18 ≤ 10 ^ k = pow-le-pow_right (omega arith) many in
    let below : number < 10 ^ k = omega (arith, small, unit) in
    let whole : decimal (number / 10 ^ k) ≡ 48 ∷ [] = ap decimal (div-eq_of_lt below) ∙ decimal_digit 0 (omega arith) in
    let part : number % 10 ^ k ≡ number = mod-eq_of_lt below in
    rw (ne_eqb k 0 (λ none. omega (arith, none, many))) (λ i. whole i ++ byte "." ∷ zero_padded k (part i))
