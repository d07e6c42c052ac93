use Rattle.std.proofs.Common.{sym, ◌∙◌}
use Rattle.columns.proofs.Types.{both_hold}
use Rattle.columns.specs.declared.typed_value.TypedValue.TheVariants.{Date}
use Rattle.columns.proofs.one_value.one_date.Goals as goal

pub returns : goal.returns
returns c (Date a) (Date b) first second = both_hold _ _ _ c.read-found.result (c.read-found.ensures.only a.year a.month a.day a.lawful first) (c.read-found.ensures.only b.year b.month b.day b.lawful second) (λ made p q. (sym p.0 ∙ q.0, sym p.1 ∙ q.1, sym p.2 ∙ q.2))
returns c (Date a) _ first second = absurd second
returns c _ b first second = absurd first
