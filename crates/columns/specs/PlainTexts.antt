-- The texts of numbers, dates and times in columns. MySQL Reference Manual, "Numeric Type Attributes" and "Date and Time
-- Data Types".
use Rattle.std.specs.Prelude.{ℕ, min, List, [], Option, Some, None, decimal}
use Rattle.columns.specs.Text.{zero_padded}
use Rattle.columns.specs.Integers.{integer_text}
use Rattle.columns.specs.Dates.{year_text, date_text}
use Rattle.columns.specs.Moments.{moment_text}
use Rattle.columns.specs.Spans.{span_text}
use Rattle.columns.specs.Stamps.{stamp_text}
use Rattle.columns.specs.TypeText.{first_number}
use Rattle.columns.specs.Decimals.{decimal_text, zero_filled, filled_width}
use Rattle.columns.specs.declared.value.decimal.Decimal.{Decimal}
use Rattle.columns.specs.declared.arguments.Arguments.{Arguments}
use Rattle.columns.specs.declared.sign.Sign.{Sign}
use Rattle.columns.specs.declared.sign.Sign.TheVariants.{Zerofill}
use Rattle.columns.specs.declared.value.integer.Integer.{Integer}
use Rattle.columns.specs.declared.value.integer.Integer.TheVariants.{Unsigned}
use Rattle.columns.specs.declared.typed_value.TypedValue.{TypedValue}
use Rattle.columns.specs.declared.typed_value.TypedValue.TheVariants as value

-- an integer; with ZEROFILL in as many digits as the display width says, which is at most 255
abbrev pub shown_integer : Arguments → Sign → Integer → List ℕ
shown_integer numbers Zerofill (Unsigned n) = zero_padded (min (first_number numbers) 255) n
shown_integer numbers _ integer = integer_text integer

-- a decimal; with ZEROFILL with zeros in front
abbrev pub shown_decimal : Sign → Decimal → List ℕ
shown_decimal Zerofill d = zero_filled (filled_width d.precision d.scale) (decimal_text d.negative d.precision d.scale d.digits)
shown_decimal _ d = decimal_text d.negative d.precision d.scale d.digits

-- The text of a value in a column with these numbers and this sign; nothing of a text and of bytes. Of FLOAT and DOUBLE it
-- says nothing: their digits are those of a library.
abbrev pub shown_text : Arguments → Sign → TypedValue → Option (List ℕ)
shown_text numbers sign (value.Integer integer) = Some (shown_integer numbers sign integer)
shown_text numbers sign (value.Decimal d) = Some (shown_decimal sign d)
shown_text numbers sign (value.Float real) = None
shown_text numbers sign (value.Double real) = None
shown_text numbers sign (value.Bits number) = Some (decimal number)
shown_text numbers sign (value.Year at) = Some (year_text at.year)
shown_text numbers sign (value.Date at) = Some (date_text at.year at.month at.day)
shown_text numbers sign (value.Time at) = Some (span_text at)
shown_text numbers sign (value.Datetime at) = Some (moment_text at)
shown_text numbers sign (value.Timestamp at) = Some (stamp_text at)
shown_text numbers sign _ = Some []
