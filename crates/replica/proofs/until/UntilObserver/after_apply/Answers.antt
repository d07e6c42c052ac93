use Rattle.replica.proofs.Names.{[], ◌∷◌, Option, subst, Ids, is_over, delivery_value, StillWaits}
use Rattle.replica.specs.Noted.{after}
use Rattle.replica.proofs.WaitSets.{apart_noted, either_stays, after_none}
use Rattle.replica.proofs.until.UntilObserver.after_apply.Goals as goal

pub returns : goal.returns
returns g c =
    let was = c.args.self.now.missing in
    let d = delivery_value c.args.delivery.now in
    let o = c.args.outcome.now in
    let left : StillWaits was (after d o ∷ []) c.left_after.result = subst (λ (m : Option Ids). StillWaits m (after d o ∷ []) c.left_after.result) c.take.ensures.value c.left_after.ensures in
    record {
      noticed = record {
        noted = apart_noted c.args.self.now.is_apart (g.W.Observer.account c.args.self.now.inner).noted (g.W.Observer.account c.after_apply.new.self).noted (after d o ∷ []) c.after_apply.ensures.noticed.noted;
        waits = left;
        stays =
            either_stays (is_over was) (g.W.Observer.account c.args.self.now.inner).has_stopped (is_over c.left_after.result) (g.W.Observer.account c.after_apply.new.self).has_stopped
            (after_none was d o c.left_after.result left) c.after_apply.ensures.noticed.stays;
      };
      seen = c.after_apply.ensures.seen;
    }
