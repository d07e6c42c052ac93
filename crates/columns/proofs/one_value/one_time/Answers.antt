use Rattle.std.proofs.Common.{sym, ◌∙◌}
use Rattle.columns.proofs.Types.{both_hold}
use Rattle.columns.specs.declared.typed_value.TypedValue.TheVariants.{Time}
use Rattle.columns.proofs.one_value.one_time.Goals as goal

pub returns : goal.returns
returns c (Time a) (Time b) first second =
    both_hold _ _ _ c.read-found.result (c.read-found.ensures.only a first.0 first.1) (c.read-found.ensures.only b second.0 second.1) (λ made p q. record { negative = sym p.negative ∙ q.negative; hour = sym p.hour ∙ q.hour; minute = sym p.minute ∙ q.minute; second = sym p.second ∙ q.second; digits = sym p.digits ∙ q.digits; number = sym p.number ∙ q.number })
returns c (Time a) _ first second = absurd second
returns c _ b first second = absurd first
