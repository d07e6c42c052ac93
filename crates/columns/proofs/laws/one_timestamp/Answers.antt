use Rattle.columns.proofs.Names.{sym, ap, ◌∙◌, bytes_cell}
use Rattle.columns.proofs.Types.{both_hold}
use Rattle.columns.proofs.laws.one_timestamp.Goals as goal

pub returns : goal.returns
returns c a b first second is same =
    both_hold _ _ _ c.read-found.result (c.read-found.ensures.only a first (ap bytes_cell is)) (c.read-found.ensures.only b second (ap bytes_cell same))
    (λ made p q. record {
      seconds = sym p.seconds ∙ q.seconds;
      digits = sym p.digits ∙ q.digits;
      number = sym p.number ∙ q.number;
    })
