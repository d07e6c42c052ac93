use Rattle.columns.proofs.Names.{sym, ap, ◌∙◌, bytes_cell}
use Rattle.columns.proofs.Types.{both_hold}
use Rattle.columns.proofs.laws.one_decimal.Goals as goal

pub returns : goal.returns
returns c a b first second short also is same =
    both_hold _ _ _ c.read-found.result (c.read-found.ensures.only a first short (ap bytes_cell is)) (c.read-found.ensures.only b second also (ap bytes_cell same))
    (λ made p q. (sym p.0 ∙ q.0, sym p.1 ∙ q.1))
