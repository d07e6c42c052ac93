use Rattle.columns.proofs.Names.{sym, ap, ◌∙◌, bytes_cell}
use Rattle.columns.proofs.Types.{both_hold}
use Rattle.columns.proofs.laws.one_datetime.Goals as goal

pub returns : goal.returns
returns c a b first second is same =
    both_hold _ _ _ c.read-found.result (c.read-found.ensures.only a first (ap bytes_cell is)) (c.read-found.ensures.only b second (ap bytes_cell same))
    (λ made p q. record {
      year = sym p.year ∙ q.year;
      month = sym p.month ∙ q.month;
      day = sym p.day ∙ q.day;
      hour = sym p.hour ∙ q.hour;
      minute = sym p.minute ∙ q.minute;
      second = sym p.second ∙ q.second;
      digits = sym p.digits ∙ q.digits;
      number = sym p.number ∙ q.number;
    })
