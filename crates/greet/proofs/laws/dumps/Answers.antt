use Rattle.greet.proofs.Dumps.{one_value, not_refused}
use Rattle.greet.proofs.MessageBytes.{written_dump}
use Rattle.wire.proofs.Cuts.{IsBytes-all}
use Rattle.greet.proofs.Complete.{some_dump}
use Rattle.greet.proofs.laws.dumps.Goals as goal

pub returns-clause-one : goal.returns-clause-one
returns-clause-one c = one_value

pub returns-clause-not_refused : goal.returns-clause-not_refused
returns-clause-not_refused c = not_refused

pub returns-clause-written : goal.returns-clause-written
returns-clause-written c = written_dump

pub returns-clause-some : goal.returns-clause-some
returns-clause-some c payload all none = some_dump payload (IsBytes-all payload all) none
