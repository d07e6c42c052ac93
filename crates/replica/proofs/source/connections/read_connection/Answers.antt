use Rattle.replica.specs.Pieces.{stream_of}
use Rattle.replica.proofs.Runs.{read_none}
use Rattle.replica.proofs.source.connections.read_connection.Goals as goal

pub returns-in-Err-clause-read : goal.returns-in-Err-clause-read
returns-in-Err-clause-read g c clean was old holds =
    read_none g.S.Store (λ h db is_open may. g.met.S.Store.settled h.store db is_open may) c.args.config.now.limit c.args.store.now was old (stream_of c.args.pieces.now) holds
