use Rattle.columns.proofs.Names.{sym, ◌∙◌}
use Rattle.columns.proofs.Types.{both_hold}
use Rattle.columns.specs.declared.typed_value.TypedValue.TheVariants.{Decimal}
use Rattle.columns.proofs.one_value.one_decimal.Goals as goal

pub returns : goal.returns
returns c (Decimal a) (Decimal b) first second =
    both_hold _ _ _ c.read-found.result (c.read-found.ensures.only a first.0 first.1 first.2) (c.read-found.ensures.only b second.0 second.1 second.2) (λ made p q. (first.0 ∙ sym second.0, first.1 ∙ sym second.1, sym p.0 ∙ q.0, sym p.1 ∙ q.1))
returns c (Decimal a) _ first second = absurd second
returns c _ b first second = absurd first
