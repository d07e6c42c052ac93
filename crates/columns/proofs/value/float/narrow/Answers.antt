use Rattle.columns.proofs.Names.{to_bits, T, sym, ap, subst, ◌∙◌, binary32, binary64, Float}
use Rattle.std.specs.Bool.{passes}
use Rattle.std.specs.Float.Ieee.{fits}
use lib.Ieee.Bits.{of_bits-fits}
use Rattle.columns.proofs.FloatBits.{a_number}
use Rattle.columns.proofs.Narrow.{rounded_bits, same_value}
use Rattle.columns.proofs.value.float.narrow.Goals as goal

pub nearest_f64_to_f32-found-requires : goal.nearest_f64_to_f32-found-requires
nearest_f64_to_f32-found-requires c = a_number c.args.value c.requires

pub float_to_bits-value : goal.float_to_bits-value
float_to_bits-value c = a_number c.args.value c.requires

pub returns-then-f64_to_bits_with_nan-value-clause-none : goal.returns-then-f64_to_bits_with_nan-value-clause-none
returns-then-f64_to_bits_with_nan-value-clause-none c bits is =
    c.if-f64_to_bits_with_nan-value.true (c.f64_to_bits_with_nan.ensures ∙ ap (to_bits binary64) (c.from.ensures ∙ c.nearest_f64_to_f32-found.ensures)
    ∙ rounded_bits c.args.value c.requires (subst (λ (x : Float). T (fits binary32 x)) (sym is) (of_bits-fits binary32 bits)))

pub returns-clause-some : goal.returns-clause-some
returns-clause-some c =
    c.nearest_f64_to_f32-found.ensures ∙ same_value c.args.value (passes _ c.well_formed.0.1)
    (sym (ap (to_bits binary64) (c.from.ensures ∙ c.nearest_f64_to_f32-found.ensures)) ∙ sym c.f64_to_bits_with_nan.ensures ∙ c.if-f64_to_bits_with_nan-value.false)
