use Rattle.greet.proofs.Replies.{one_switch, switch_not_refused, ok_not_refused, ok_reply_not_refused, eof_not_refused, apart}
use Rattle.wire.proofs.Cuts.{IsBytes-all}
use Rattle.greet.proofs.Complete.{some_eof, some_ok, some_reply}
use Rattle.greet.proofs.laws.replies.Goals as goal

pub returns-clause-one : goal.returns-clause-one
returns-clause-one c = one_switch

pub returns-clause-a_switch : goal.returns-clause-a_switch
returns-clause-a_switch c = switch_not_refused

pub returns-clause-an_ok : goal.returns-clause-an_ok
returns-clause-an_ok c = ok_not_refused

pub returns-clause-an_ok_reply : goal.returns-clause-an_ok_reply
returns-clause-an_ok_reply c = ok_reply_not_refused

pub returns-clause-an_eof : goal.returns-clause-an_eof
returns-clause-an_eof c = eof_not_refused

pub returns-clause-apart : goal.returns-clause-apart
returns-clause-apart c = apart

pub returns-clause-some : goal.returns-clause-some
returns-clause-some c payload all none = some_reply payload (IsBytes-all payload all) none

pub returns-clause-some_ok : goal.returns-clause-some_ok
returns-clause-some_ok c payload all none = some_ok payload (IsBytes-all payload all) none

pub returns-clause-some_eof : goal.returns-clause-some_eof
returns-clause-some_eof c = some_eof
