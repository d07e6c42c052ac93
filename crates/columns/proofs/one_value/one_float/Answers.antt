use Rattle.std.proofs.Common.{from_bits, sym, ◌∙◌}
use Rattle.std.specs.Float.{binary32}
use Rattle.columns.proofs.Types.{same_ok}
use Rattle.columns.specs.declared.typed_value.TypedValue.TheVariants.{Float}
use Rattle.columns.proofs.one_value.one_float.Goals as goal

pub returns : goal.returns
returns c (Float a) (Float b) first second =
    first.4 ∙ same_ok c.read_float-found.result (from_bits binary32 first.0) (from_bits binary32 second.0) (c.read_float-found.ensures.found first.0 first.1 first.3 first.2) (c.read_float-found.ensures.found second.0 second.1 second.3 second.2) ∙ sym second.4
returns c (Float a) _ first second = absurd second
returns c _ b first second = absurd first
