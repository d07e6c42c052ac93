-- What is wrong with a field that is no FLOAT or DOUBLE. MySQL Reference Manual, "Floating-Point Types".
use Rattle.std.specs.Prelude.{ℕ, List, IsSome, IsNone}
use Rattle.std.specs.Float.{binary64}
use Rattle.fast_float.specs.Parse.{parse_float}
use Rattle.columns.specs.declared.value.field_fault.FieldFault.{FieldFault}
use Rattle.columns.specs.declared.value.field_fault.FieldFault.TheVariants.{Text, Range, Memory}

-- The text is no number, or it is one.
abbrev pub IsRealFault : List ℕ → FieldFault → Type 0
IsRealFault text Text = IsNone (parse_float binary64 text)
IsRealFault text Range = IsSome (parse_float binary64 text)
IsRealFault text Memory = ⊥
