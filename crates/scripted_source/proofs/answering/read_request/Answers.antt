use Rattle.scripted_source.proofs.Names.{ap, sym, subst, err_from_is_err_and, DumpValue, IsEncoding}
use Rattle.scripted_source.proofs.answering.read_request.Goals as goal

pub returns-in-Err-clause-only : goal.returns-in-Err-clause-only
returns-in-Err-clause-only c dump ids asks = absurd (c.in-Err.ensures.only dump asks.is_dump)

pub returns-in_err-set-clause-only : goal.returns-in_err-set-clause-only
returns-in_err-set-clause-only c dump ids asks =
    let p = err_from_is_err_and c.from_residual.result c.from_residual.ensures.1 in
    let set_is = ap (λ (d : DumpValue). d.set) (c.in-Ok.ensures.only dump asks.is_dump) in
    rw (p.1, p.2) (c.in_err-set.ensures.only ids (subst (IsEncoding ids) (sym set_is) asks.encodes))

pub returns-clause-only : goal.returns-clause-only
returns-clause-only c dump ids asks =
    let set_is = ap (λ (d : DumpValue). d.set) (c.in-Ok.ensures.only dump asks.is_dump) in
    c.in_ok-set.ensures.only ids (subst (IsEncoding ids) (sym set_is) asks.encodes)
