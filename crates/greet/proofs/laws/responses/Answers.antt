use Rattle.greet.proofs.Names.{refl, IsBytes-all}
use Rattle.greet.proofs.Complete.{some_response}
use Rattle.greet.proofs.Responses.{one_value, not_refused}
use Rattle.greet.proofs.laws.responses.Goals as goal

pub returns-clause-one : goal.returns-clause-one
returns-clause-one c = one_value

pub returns-clause-not_refused : goal.returns-clause-not_refused
returns-clause-not_refused c = not_refused

pub returns-clause-written : goal.returns-clause-written
returns-clause-written c r fits = record { payload_is = refl; fits = fits }

pub returns-clause-some : goal.returns-clause-some
returns-clause-some c payload all none = some_response payload (IsBytes-all payload all) none
