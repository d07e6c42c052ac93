use Rattle.std.proofs.Common.{sym, ◌∙◌}
use Rattle.columns.proofs.Types.{both_hold}
use Rattle.columns.specs.declared.typed_value.TypedValue.TheVariants.{Year}
use Rattle.columns.proofs.one_value.one_year.Goals as goal

pub returns : goal.returns
returns c (Year a) (Year b) first second = both_hold _ _ _ c.read-found.result (c.read-found.ensures.only a.year a.lawful first) (c.read-found.ensures.only b.year b.lawful second) (λ made p q. sym p ∙ q)
returns c (Year a) _ first second = absurd second
returns c _ b first second = absurd first
