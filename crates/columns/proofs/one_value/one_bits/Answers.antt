use Rattle.columns.proofs.Types.{same_ok}
use Rattle.columns.specs.declared.typed_value.TypedValue.TheVariants.{Bits}
use Rattle.columns.proofs.one_value.one_bits.Goals as goal

pub returns : goal.returns
returns c (Bits a) (Bits b) first second = same_ok c.read_bits-found.result a b (c.read_bits-found.ensures.only a first.0 first.1) (c.read_bits-found.ensures.only b second.0 second.1)
returns c (Bits a) _ first second = absurd second
returns c _ b first second = absurd first
