use Rattle.std.proofs.Common.{from_bits, sym, ◌∙◌}
use Rattle.std.specs.Float.{binary64}
use Rattle.columns.proofs.Types.{same_ok}
use Rattle.columns.specs.declared.typed_value.TypedValue.TheVariants.{Double}
use Rattle.columns.proofs.one_value.one_double.Goals as goal

pub returns : goal.returns
returns c (Double a) (Double b) first second =
    first.4 ∙ same_ok c.read_double-found.result (from_bits binary64 first.0) (from_bits binary64 second.0) (c.read_double-found.ensures.found first.0 first.1 first.3 first.2) (c.read_double-found.ensures.found second.0 second.1 second.3 second.2) ∙ sym second.4
returns c (Double a) _ first second = absurd second
returns c _ b first second = absurd first
