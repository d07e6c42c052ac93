use Rattle.std.proofs.Common.{inr}
use Rattle.replica.proofs.laws.found_again.Goals as goal

pub returns : goal.returns
returns g c = record {
  closed = λ only names content a. inr (a.trees, a.seen.both, a.stands only);
  left = λ only names content image a may. (inr (a.trees, (a.left image may).both, a.stands only), inr (a.trees, (a.left image may).alone, a.stands only));
}
