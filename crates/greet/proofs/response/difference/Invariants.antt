use Rattle.greet.proofs.Names.{◌≡◌, response_lead, first_difference}
use Rattle.std.proofs.Common.{drop}
use Rattle.greet.proofs.response.difference.Given as goal

abbrev pub invariant-loop-at : goal.invariant-loop-at
invariant-loop-at l = first_difference l.lead response_lead ≡ first_difference (drop l.at l.lead) (drop l.at response_lead)
