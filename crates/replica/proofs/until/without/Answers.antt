use Rattle.replica.proofs.Names.{◌≡◌, false, Option, inl, sym, subst, false≢true, Ids, waits_for_none}
use Rattle.replica.proofs.MissingSets.{some_of}
use Rattle.replica.proofs.until.without.Goals as goal

pub returns-in-Err : goal.returns-in-Err
returns-in-Err c =
    let left = c.in_ok-left.left in
    subst (λ (m : Option Ids). waits_for_none m ≡ false) (sym c.in_ok-left.was) (some_of left (λ empty. false≢true (rw c.in-Err.is at (c.subtract.ensures.none (inl empty)))))
