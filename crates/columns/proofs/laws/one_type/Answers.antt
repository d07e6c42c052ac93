use Rattle.std.proofs.Common.{sym, ◌∙◌}
use Rattle.columns.proofs.Types.{both_hold}
use Rattle.columns.proofs.laws.one_type.Goals as goal

pub returns : goal.returns
returns c name other numbers others sign that lawful also is are =
    both_hold _ _ _ c.read-found.result (c.read-found.ensures.only name numbers sign lawful is) (c.read-found.ensures.only other others that also are)
    (λ made p q. (sym p.0 ∙ q.0, sym p.1 ∙ q.1, sym p.2 ∙ q.2))
