use Rattle.columns.proofs.Types.{same_ok}
use Rattle.columns.specs.declared.typed_value.TypedValue.TheVariants.{Integer}
use Rattle.columns.proofs.one_value.one_integer.Goals as goal

pub returns : goal.returns
returns c (Integer a) (Integer b) first second = same_ok c.read-found.result a b (c.read-found.ensures.only a first) (c.read-found.ensures.only b second)
returns c (Integer a) _ first second = absurd second
returns c _ b first second = absurd first
