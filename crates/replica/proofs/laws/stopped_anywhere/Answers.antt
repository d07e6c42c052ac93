use Rattle.std.proofs.Common.{◌+◌, inl, inr}
use Rattle.replica.proofs.laws.stopped_anywhere.Goals as goal

pub returns : goal.returns
returns c limit names history j held last request r part more was new end left bytes conn is =
    let l = c.left_transactions.ensures limit names was held part new end left conn is in (
      l.count,
      c.resuming.ensures.cut limit names history j held last request r part more l.count end.applied new bytes l.begun,
      elim l.left_is [
        | inl same ↦ inl same
        | inr one ↦ inr (c.resuming.ensures.cut limit names history j held last request r part more (l.count + 1) (end.applied + 1) left bytes one.2)
      ],
    )
