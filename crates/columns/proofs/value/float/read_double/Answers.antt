use Rattle.columns.proofs.Names.{◌%◌, refl, arith, ap, ◌∙◌, rules, lt-ltb, bytes_cell}
use Rattle.binlog.specs.Cell.{cell_value}
use Rattle.std.proofs.lemmas.Float.{not_nan_f64_bits}
use Rattle.columns.proofs.FloatBits.{double_finite}
use Rattle.columns.proofs.value.float.read_double.Goals as goal

pub float_from_bits-result : goal.float_from_bits-result
float_from_bits-result c = not_nan_f64_bits c.read_eight-bits.result (omega (arith, c.if-bits-ge9218868437227405312.false))

pub returns-clause-finite : goal.returns-clause-finite
returns-clause-finite c = double_finite c.read_eight-bits.result (omega (arith, c.if-bits-ge9218868437227405312.false))

pub returns-clause-bits : goal.returns-clause-bits
returns-clause-bits c = (
  c.read_eight-bits.result,
  search rules,
  lt-ltb (c.read_eight-bits.result % 0x8000000000000000) 0x7ff0000000000000 (omega (arith, c.if-bits-ge9218868437227405312.false)),
  ap cell_value c.in-Bytes.is ∙ ap bytes_cell c.read_eight-bits.ensures.bytes,
  refl,
)
