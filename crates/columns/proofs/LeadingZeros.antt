-- Numbers with zeros in front, as they are written.
use Rattle.columns.proofs.Names.{◌≡◌, ℕ, zero, suc, ◌<◌, ◌-◌, ◌^◌, false, [], ◌++◌, length, replicate, sym, ap, arith, append-nil, ne_eqb, zero_padded}
use Rattle.std.proofs.Common.{decimal}
use Rattle.std.specs.Fmt.{padded_integral, styled_decimal, char_count, format_spec}

-- what `{:0k}` writes of a number
pub zeros_in_front : (k n : ℕ) → padded_integral (format_spec 32 0 4 k (2 ^ 64 - 1)) false [] (decimal n) ≡ zero_padded k n
unfolding padded_integral char_count
zeros_in_front k n =
    let none : k - length (decimal n) - 0 - 0 ≡ k - length (decimal n) = omega arith in
    let end : decimal n ++ [] ≡ decimal n = append-nil (decimal n) in
    λ i. replicate (none i) 48 ++ end i

-- in two and in four digits
pub two_digits : (n : ℕ) → styled_decimal (format_spec 32 0 4 2 (2 ^ 64 - 1)) n ≡ zero_padded 2 n
two_digits n = zeros_in_front 2 n

pub four_digits : (n : ℕ) → styled_decimal (format_spec 32 0 4 4 (2 ^ 64 - 1)) n ≡ zero_padded 4 n
four_digits n = zeros_in_front 4 n

-- in a number of digits that is not 0
pub some_digits : (k n : ℕ) → 0 < k → styled_decimal (format_spec 32 0 4 k (2 ^ 64 - 1)) n ≡ zero_padded k n
some_digits k n some = rw (ne_eqb k 0 (λ none. omega (arith, none))) (zeros_in_front k n)

-- in any number of digits
pub any_digits : (k n : ℕ) → styled_decimal (format_spec 32 0 4 k (2 ^ 64 - 1)) n ≡ zero_padded k n
any_digits zero n = let none : 0 - length (decimal n) ≡ 0 = omega arith in ap (λ (m : ℕ). replicate m 48 ++ decimal n) (sym none)
any_digits (suc k) n = some_digits (suc k) n (omega arith)
