use Rattle.gather.proofs.Names.{[], None, refl, err_from_is_err_and, other_map}
use Rattle.gather.proofs.Maps.{maps_more, no_changes, other_says, unknown}
use Rattle.gather.proofs.open_transaction.OpenTransaction.take_other.Goals as goal

pub returns-clause-keeps : goal.returns-clause-keeps
returns-clause-keeps c = λ body keeps. record {
  maps = maps_more c.args.self.now.maps c.insert.new.self c.args.id None (other_map c.args.id) body c.in_ok-insert.ensures.updates (other_says c.args.id) keeps.maps;
  changes = no_changes [] body (other_map c.args.id) c.args.self.now.changes keeps.changes refl;
}

pub returns-in_err-insert-clause-memory : goal.returns-in_err-insert-clause-memory
returns-in_err-insert-clause-memory c = λ body keeps.
    rw (err_from_is_err_and c.from_residual.result c.from_residual.ensures.1).1 (unknown body c.args.self.now c.args.id keeps c.in_err-insert.ensures.absent)
