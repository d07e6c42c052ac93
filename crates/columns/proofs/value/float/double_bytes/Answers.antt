use Rattle.columns.proofs.Names.{◌%◌, to_bits, sym, ap, subst, IsTrue, binary64, Float, lt-ltb, bytes_cell, of_bits-to_bits, to_bits-lt}
use Rattle.std.specs.Bool.{passes}
use Rattle.std.specs.Float.{float_is_finite}
use Rattle.columns.proofs.FloatBits.{a_number, double_below}
use Rattle.columns.proofs.value.float.double_bytes.Goals as goal

pub returns-clause-cell : goal.returns-clause-cell
returns-clause-cell c =
    let value = c.args.double in
    let bits = to_bits binary64 value in
    let fits = passes _ c.well_formed.0.1 in
    let same = of_bits-to_bits binary64 value fits in
    let below = double_below bits (subst (λ (x : Float). IsTrue (float_is_finite x)) (sym same) c.requires) in
    (bits, to_bits-lt binary64 value fits, lt-ltb (bits % 0x8000000000000000) 0x7ff0000000000000 below, ap bytes_cell c.to_le_bytes.ensures, sym same)

pub to_le_bytes-requires : goal.to_le_bytes-requires
to_le_bytes-requires c = a_number c.args.double c.requires
