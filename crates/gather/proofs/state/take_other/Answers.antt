use Rattle.std.proofs.lemmas.Result.{err_from_is_err_and}
use Rattle.gather.proofs.States.{other_adds}
use Rattle.gather.proofs.state.take_other.Goals as goal

pub returns-in_err-take_other-in-Inside-clause-memory : goal.returns-in_err-take_other-in-Inside-clause-memory
returns-in_err-take_other-in-Inside-clause-memory c =
    rw (err_from_is_err_and c.from_residual.result c.from_residual.ensures.1).1
    (λ wanted. other_adds c.in-Inside.current c.args.id c.args.state.now c.in-Inside.is c.in_err-take_other-in-Inside.ensures.memory)
