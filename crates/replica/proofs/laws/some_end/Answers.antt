use Rattle.std.proofs.Common.{arith}
use Rattle.gtid.proofs.GroupText.{all_bytes}
use Rattle.replica.proofs.SomeMessage.{Tables}
use Rattle.replica.proofs.SomeEnd.{some_end}
use Rattle.replica.proofs.laws.some_end.Goals as goal

pub returns : goal.returns
returns c limit names old =
    let tables : Tables = record {
      greeting = c.greetings.ensures.some;
      reply = c.replies.ensures.some;
      ok = c.replies.ensures.some_ok;
      eof = c.replies.ensures.some_eof;
      error_greeting = c.errors.ensures.only_greeting;
      error_reply = c.errors.ensures.only_reply;
      error_ok = c.errors.ensures.only_ok;
      error_eof = c.errors.ensures.only_eof;
    } in
    some_end limit names old c.args._bytes.now (all_bytes c.args._bytes.now (λ i. let fits = c.type_inv._bytes i in omega (arith, fits))) (omega arith) tables
