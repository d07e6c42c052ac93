use Rattle.gather.proofs.Names.{err_from_is_err_and, table_value}
use Rattle.gather.proofs.States.{map_adds}
use Rattle.gather.proofs.state.take_map.Goals as goal

pub returns-in_err-take_map-in-Inside-clause-memory : goal.returns-in_err-take_map-in-Inside-clause-memory
returns-in_err-take_map-in-Inside-clause-memory c =
    rw (err_from_is_err_and c.from_residual.result c.from_residual.ensures.1).1 (λ wanted. map_adds c.in-Inside.current (table_value c.args.map.now) c.args.state.now c.in-Inside.is)
