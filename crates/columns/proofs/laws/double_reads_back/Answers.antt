use Rattle.columns.proofs.Names.{◌%◌, to_bits, sym, ap, subst, ◌∙◌, IsTrue, Ok, binary64, Float, lt-ltb, bytes_cell, of_bits-to_bits, to_bits-lt}
use Rattle.std.specs.Float.{float_is_finite}
use Rattle.columns.proofs.FloatBits.{double_below}
use Rattle.std.specs.Bool.{passes}
use Rattle.columns.proofs.laws.double_reads_back.Goals as goal

pub returns : goal.returns
returns c =
    let value = c.args.value in
    let bits = to_bits binary64 value in
    let same = of_bits-to_bits binary64 value (passes _ c.well_formed.0.1) in
    let below = double_below bits (subst (λ (x : Float). IsTrue (float_is_finite x)) (sym same) c.requires) in
    c.read_double.ensures.found bits (to_bits-lt binary64 value (passes _ c.well_formed.0.1)) (ap bytes_cell c.double_bytes-bytes.ensures.bytes) (lt-ltb (bits % 0x8000000000000000) 0x7ff0000000000000 below)
    ∙ ap Ok same
