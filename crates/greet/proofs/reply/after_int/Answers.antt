use Rattle.greet.proofs.Names.{◌∙◌, sym, ap, Some, arith, take_rest}
use Rattle.greet.proofs.Replies.{if_none, no_int, some_int}
use Rattle.greet.proofs.reply.after_int.Goals as goal

pub returns-in_err-size-clause-none : goal.returns-in_err-size-clause-none
returns-in_err-size-clause-none c = if_none c.from_residual.result (no_int c.args.bytes.now (λ i. omega (arith, c.type_inv.bytes i)) c.in_err-size.ensures.none)

pub returns-clause-some : goal.returns-clause-some
returns-clause-some c = some_int _ c.in_ok-size.size c.args.bytes.now c.in_ok-size.ensures.found ∙ ap Some (sym (take_rest c.args.bytes.now c.in_ok-size.size))
