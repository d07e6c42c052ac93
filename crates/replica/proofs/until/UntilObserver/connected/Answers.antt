use Rattle.replica.proofs.Names.{[], ◌∷◌, is_over}
use Rattle.replica.specs.Noted.{connected}
use Rattle.replica.proofs.WaitSets.{apart_noted, either_stays, left_connected}
use Rattle.replica.proofs.until.UntilObserver.connected.Goals as goal

pub returns : goal.returns
returns g c =
    let was = c.args.self.now.missing in
    record {
      noticed = record {
        noted = apart_noted c.args.self.now.is_apart (g.W.Observer.account c.args.self.now.inner).noted (g.W.Observer.account c.connected.new.self).noted (connected ∷ []) c.connected.ensures.noticed.noted;
        waits = left_connected was;
        stays = either_stays (is_over was) (g.W.Observer.account c.args.self.now.inner).has_stopped (is_over was) (g.W.Observer.account c.connected.new.self).has_stopped (λ over. over) c.connected.ensures.noticed.stays;
      };
      seen = c.connected.ensures.seen;
    }
