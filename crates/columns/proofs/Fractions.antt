-- Fractions of a second.
use Rattle.columns.proofs.Names.{ℕ, zero, suc, ◌^◌, ◌<◌, ◌≤◌, nat_le, nat_lt, arith, IsTrue, is_fraction, fraction_size, even_digits}
use Rattle.columns.proofs.Types.{and_parts, le_of}

pub digits_of : (digits number : ℕ) → IsTrue (is_fraction digits number) → digits ≤ 6
digits_of digits number lawful = le_of digits 6 (and_parts (nat_le digits 6) (nat_lt number (10 ^ digits)) lawful).0

pub number_of : (digits number : ℕ) → IsTrue (is_fraction digits number) → number < 10 ^ digits
number_of digits number lawful = le_of (suc number) (10 ^ digits) (and_parts (nat_le digits 6) (nat_lt number (10 ^ digits)) lawful).1

within : (digits number : ℕ) → digits ≤ 6 → number < 10 ^ digits → even_digits digits number < 256 ^ fraction_size digits
within zero number few small = omega arith
within (suc zero) number few small = omega arith
within (suc (suc zero)) number few small = omega arith
within (suc (suc (suc zero))) number few small = omega arith
within (suc (suc (suc (suc zero)))) number few small = omega arith
within (suc (suc (suc (suc (suc zero))))) number few small = omega arith
within (suc (suc (suc (suc (suc (suc zero)))))) number few small = omega arith
within (suc (suc (suc (suc (suc (suc (suc digits))))))) number few small = absurd (omega arith)

-- what is stored fits its bytes
pub even_fits : (digits number : ℕ) → IsTrue (is_fraction digits number) → even_digits digits number < 256 ^ fraction_size digits
even_fits digits number lawful = within digits number (digits_of digits number lawful) (number_of digits number lawful)
