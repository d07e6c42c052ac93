-- How long the texts of FLOAT and DOUBLE are.
use Rattle.columns.proofs.Names.{◌≡◌, ℕ, ◌+◌, ◌-◌, ◌/◌, ◌%◌, ◌^◌, ◌<◌, ◌≤◌, ◌∷◌, length, replicate, ap, ◌∙◌, arith, length-append, ne_eqb, decimal_digit, length-decimal-le, length-replicate, pow-le-pow_right, zero_padded}
use Rattle.std.proofs.Common.{decimal, mod-lt}
use Rattle.std.proofs.Math.Nat.{div-eq_of_lt, mod-le}
use Rattle.std.specs.Str.{byte}
use Rattle.columns.specs.Reals.{point_text}
use Rattle.columns.proofs.Rounding.{some_unit}

padded_long : (k n : ℕ) → 0 < k → n < 10 ^ k → n < 2 ^ 64 → length (zero_padded k n) ≡ k
padded_long k n some small fits =
    length-append (replicate (k - length (decimal n)) 48) (decimal n) ∙ omega (arith, length-replicate {A = ℕ} (k - length (decimal n)) 48, length-decimal-le k n some small fits)

pub point_long : (k number : ℕ) → 0 < k → number < 10 ^ 17 → length (point_text k number) ≡ length (decimal (number / 10 ^ k)) + (1 + k)
point_long k number some small =
    let left : number % 10 ^ k < 10 ^ k = mod-lt number (omega (arith, some_unit k)) in
    let fits : number % 10 ^ k < 2 ^ 64 = omega (arith, small, mod-le number (10 ^ k)) in
    let behind = padded_long k (number % 10 ^ k) some left fits in
    rw (ne_eqb k 0 (λ none. omega (arith, none, some)))
    (length-append (decimal (number / 10 ^ k)) (byte "." ∷ zero_padded k (number % 10 ^ k)) ∙ omega (arith, behind))

pub far_long : (k number : ℕ) → 17 < k → number < 10 ^ 17 → length (point_text k number) ≡ 1 + (1 + k)
far_long k number many small =
    let unit : 10 ^ 18 ≤ 10 ^ k = pow-le-pow_right (omega arith) many in
    let none : number / 10 ^ k ≡ 0 = div-eq_of_lt (omega (arith, small, unit)) in
    let one : length (decimal (number / 10 ^ k)) ≡ 1 = ap (λ (n : ℕ). length (decimal n)) none ∙ ap length (decimal_digit 0 (omega arith)) in
    point_long k number (omega (arith, many)) small ∙ omega (arith, one)
