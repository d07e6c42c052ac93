use Rattle.std.proofs.Common.{sym, ◌∙◌}
use Rattle.columns.proofs.Types.{both_hold}
use Rattle.columns.specs.declared.typed_value.TypedValue.TheVariants.{Timestamp}
use Rattle.columns.proofs.one_value.one_timestamp.Goals as goal

pub returns : goal.returns
returns c (Timestamp a) (Timestamp b) first second =
    both_hold _ _ _ c.read-found.result (c.read-found.ensures.only a first.0 first.1) (c.read-found.ensures.only b second.0 second.1) (λ made p q. record { seconds = sym p.seconds ∙ q.seconds; digits = sym p.digits ∙ q.digits; number = sym p.number ∙ q.number })
returns c (Timestamp a) _ first second = absurd second
returns c _ b first second = absurd first
