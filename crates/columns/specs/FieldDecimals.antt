-- The texts of DECIMAL in the fields of lines. MySQL Reference Manual, "Fixed-Point Types (Exact Value) - DECIMAL,
-- NUMERIC" and "Numeric Type Attributes" (ZEROFILL).
use Rattle.std.specs.Prelude.{◌≡◌, ℕ, ◌-◌, Bool, false, List, [], ◌∷◌, ◌++◌, length, take, drop, replicate, IsTrue}
use Rattle.std.specs.Str.{byte}
use Rattle.std.specs.Str.Parse.{AllDigits, IsNumeral}
use Rattle.columns.specs.Reals.{minus_part}
use Rattle.columns.specs.Decimals.{are_zeros, digits_text, significant, fraction_part}
use Rattle.columns.specs.declared.value.decimal.Decimal.{Decimal}

-- nothing, or a point and these digits
abbrev pub point_part : List ℕ → List ℕ
point_part [] = []
point_part (d ∷ digits) = byte "." ∷ (d ∷ digits)

-- Decimal digits, at least one in front of the point and so many after it; no point where none stand after it.
pub record IsPointed (scale : ℕ) (whole fraction text : List ℕ) : Type 0 where
  pub whole_digits : IsNumeral 10 whole
  pub fraction_digits : AllDigits 10 fraction
  pub scale_is : length fraction ≡ scale
  pub text_is : text ≡ whole ++ point_part fraction

-- The text is such digits, after a minus sign or not.
abbrev pub IsDecimalForm : ℕ → List ℕ → Type 0
IsDecimalForm scale text = (negative : Bool) × (whole fraction rest : List ℕ) ×
    IsPointed scale whole fraction rest × (text ≡ minus_part negative ++ rest)

-- no value is zero and has a minus sign
abbrev pub IsNoMinusZero : Decimal → Type 0
IsNoMinusZero value = IsTrue (are_zeros value.digits) → value.negative ≡ false

-- the digits in front of the point, and those after it
abbrev pub whole_digits : Decimal → List ℕ
whole_digits value = take (value.precision - value.scale) value.digits

abbrev pub fraction_digits : Decimal → List ℕ
fraction_digits value = drop (value.precision - value.scale) (take value.precision value.digits)

-- The text is that of the value, which is no zero with a minus sign, with any zeros in front of its digits.
pub record IsDecimalField (value : Decimal) (text : List ℕ) : Type 0 where
  pub plain : IsNoMinusZero value
  pub zeros : ℕ
  pub text_is : text ≡ minus_part value.negative ++
      (replicate zeros 48 ++ (digits_text (significant (whole_digits value)) ++ fraction_part (fraction_digits value)))
