use Rattle.store.proofs.apply.refuse.Goals as goal

pub returns-in-Err-clause-reported : goal.returns-in-Err-clause-reported
returns-in-Err-clause-reported g c clean is_open = (c.check_open.ensures.opened clean is_open, λ settled. c.check_open.ensures.rests clean settled is_open)
