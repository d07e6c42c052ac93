use Rattle.std.proofs.Common.{vec_len, drop}
use Rattle.first_copy.proofs.LineReading.{IsReadingFields}
use Rattle.first_copy.proofs.line_cells.read_fields.Given as goal

abbrev pub invariant-loop-i : goal.invariant-loop-i
invariant-loop-i l = IsReadingFields l.columns l.text (drop l.i l.columns) l.rest l.places.items l.bytes.items (vec_len l.places)
