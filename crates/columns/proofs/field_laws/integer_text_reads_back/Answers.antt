use Rattle.columns.proofs.Names.{ℕ, suc, ◌^◌, ◌≤◌, refl, subst, sym, arith, first_number, Arguments, Sign}
use Rattle.std.proofs.Common.{ℤ, pos, negsuc, min, decimal}
use Rattle.columns.specs.Integers.{IsWithin, IsInRange, HasSign, half}
use Rattle.columns.specs.PlainTexts.{shown_integer}
use Rattle.columns.specs.Fields.{IsWithSign, number_of}
use Rattle.columns.specs.declared.sign.Sign.TheVariants as type_sign
use Rattle.columns.specs.declared.value.integer.Integer.{Integer}
use Rattle.columns.specs.declared.value.integer.Integer.TheVariants.{Signed, Unsigned}
use Rattle.columns.specs.declared.value.integer.IntegerWidth.{IntegerWidth}
use Rattle.columns.specs.declared.value.integer.IntegerWidth.TheVariants.{One}
use Rattle.std.specs.Fmt.{signed_decimal}
use Rattle.columns.proofs.FieldDigits.{decimal_is, padded_is}
use Rattle.columns.proofs.field_laws.integer_text_reads_back.Goals as goal

half_small : (width : IntegerWidth) → half width ≤ 2 ^ 63
half_small One = omega arith
half_small _ = omega arith

signed_is : (top : ℕ) (z : ℤ) → top ≤ 2 ^ 63 → IsWithin top z → IsWithSign z (signed_decimal z)
signed_is top (pos n) small within = decimal_is n (omega (arith, small, within))
signed_is top (negsuc n) small within = (decimal (suc n), refl, decimal_is (suc n) (omega (arith, small, within)))

text_is : (width : IntegerWidth) (numbers : Arguments) (sign : Sign) (integer : Integer) → HasSign sign integer → IsInRange width integer →
    IsWithSign (number_of integer) (shown_integer numbers sign integer)
text_is width numbers type_sign.Signed (Signed z) signed range = signed_is (half width) z (half_small width) range
text_is width numbers type_sign.Unsigned (Unsigned n) signed range = decimal_is n (omega (arith, half_small width, range))
text_is width numbers type_sign.Zerofill (Unsigned n) signed range = padded_is (min (first_number numbers) 255) n (omega (arith, half_small width, range))
text_is width numbers type_sign.Signed (Unsigned n) signed range = elim signed [ ]
text_is width numbers type_sign.Unsigned (Signed z) signed range = elim signed [ ]
text_is width numbers type_sign.Zerofill (Signed z) signed range = elim signed [ ]

pub returns : goal.returns
returns c =
    let integer = c.args.integer in
    c.read_field.ensures.only integer c.requires.sign c.requires.range
    (subst (IsWithSign (number_of integer)) (sym c.requires.text) (text_is c.args.width c.args.numbers c.args.sign integer c.requires.sign c.requires.range))
