use Rattle.replica.proofs.Names.{[], ◌∷◌, Option, subst, or_right, Ids, is_over}
use Rattle.replica.specs.Missing.{IsLeftOf}
use Rattle.replica.proofs.WaitSets.{apart_noted, left_opened, either_stays, left_none}
use Rattle.replica.specs.Noted.{opened}
use Rattle.replica.proofs.until.UntilObserver.opened.Goals as goal

pub returns : goal.returns
returns g c =
    let was = c.args.self.now.missing in
    let taken = c.args.executed.now in
    let left : IsLeftOf was taken c.without.result = subst (λ (m : Option Ids). IsLeftOf m taken c.without.result) c.take.ensures.value c.without.ensures in
    record {
      noticed = record {
        noted = apart_noted c.args.self.now.is_apart (g.W.Observer.account c.args.self.now.inner).noted (g.W.Observer.account c.opened.new.self).noted (opened taken ∷ []) c.opened.ensures.noticed.noted;
        waits = left_opened was taken c.without.result left;
        stays =
            either_stays (is_over was) (g.W.Observer.account c.args.self.now.inner).has_stopped (is_over c.without.result) (g.W.Observer.account c.opened.new.self).has_stopped
            (left_none was taken c.without.result left) c.opened.ensures.noticed.stays;
      };
      excludes = λ out. or_right (is_over c.without.result) (g.W.Observer.account c.opened.new.self).has_stopped (c.opened.ensures.excludes out);
      seen = c.opened.ensures.seen;
    }
