use Rattle.greet.proofs.Errors.{one_error, in_greeting, in_reply, in_ok, in_eof}
use Rattle.wire.proofs.Cuts.{IsBytes-all}
use Rattle.greet.proofs.ErrBytes.{greeting_err, reply_err, ok_err, eof_err}
use Rattle.greet.proofs.laws.errors.Goals as goal

pub returns-clause-one : goal.returns-clause-one
returns-clause-one c = one_error

pub returns-clause-greeting : goal.returns-clause-greeting
returns-clause-greeting c = in_greeting

pub returns-clause-reply : goal.returns-clause-reply
returns-clause-reply c = in_reply

pub returns-clause-ok : goal.returns-clause-ok
returns-clause-ok c = in_ok

pub returns-clause-eof : goal.returns-clause-eof
returns-clause-eof c = in_eof

pub returns-clause-only_greeting : goal.returns-clause-only_greeting
returns-clause-only_greeting c code state kept payload all = greeting_err code state kept payload (IsBytes-all payload all)

pub returns-clause-only_reply : goal.returns-clause-only_reply
returns-clause-only_reply c code state kept payload all = reply_err code state kept payload (IsBytes-all payload all)

pub returns-clause-only_ok : goal.returns-clause-only_ok
returns-clause-only_ok c code state kept payload all = ok_err code state kept payload (IsBytes-all payload all)

pub returns-clause-only_eof : goal.returns-clause-only_eof
returns-clause-only_eof c code state kept payload all = eof_err code state kept payload (IsBytes-all payload all)
