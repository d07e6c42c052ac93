use Rattle.columns.proofs.Names.{◌%◌, refl, arith, ap, ◌∙◌, rules, lt-ltb, bytes_cell}
use Rattle.binlog.specs.Cell.{cell_value}
use Rattle.std.proofs.lemmas.Float.{not_nan_f32_bits}
use Rattle.columns.proofs.FloatBits.{float_finite}
use Rattle.columns.proofs.value.float.read_float.Goals as goal

pub float_from_bits-result : goal.float_from_bits-result
float_from_bits-result c = not_nan_f32_bits c.read_four-bits.result (omega (arith, c.if-bits-ge2139095040.false))

pub returns-clause-finite : goal.returns-clause-finite
returns-clause-finite c = float_finite c.read_four-bits.result (omega (arith, c.if-bits-ge2139095040.false))

pub returns-clause-bits : goal.returns-clause-bits
returns-clause-bits c = (
  c.read_four-bits.result,
  search rules,
  lt-ltb (c.read_four-bits.result % 0x80000000) 0x7f800000 (omega (arith, c.if-bits-ge2139095040.false)),
  ap cell_value c.in-Bytes.is ∙ ap bytes_cell c.read_four-bits.ensures.bytes,
  refl,
)
