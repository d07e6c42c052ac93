use Rattle.gather.proofs.Names.{refl, err_from_is_err_and}
use Rattle.gather.proofs.gatherer.Gatherer.event.Goals as goal

pub returns-in_err-delivery-clause-fault : goal.returns-in_err-delivery-clause-fault
returns-in_err-delivery-clause-fault c = λ events ds s.
    let p = err_from_is_err_and c.from_residual.result c.from_residual.ensures.1 in
    rw (p.1, p.2) (c.in_err-delivery.ensures.fault events ds s.given)

pub returns-clause-taken : goal.returns-clause-taken
returns-clause-taken c = λ events ds s. record { given = c.in_ok-delivery.ensures.taken events ds s.given; goes_on = refl }

pub returns-in_err-delivery-clause-memory : goal.returns-in_err-delivery-clause-memory
returns-in_err-delivery-clause-memory c = λ events ds s.
    let p = err_from_is_err_and c.from_residual.result c.from_residual.ensures.1 in
    rw (p.1, p.2) (c.in_err-delivery.ensures.memory events ds s.given)
