use Rattle.greet.proofs.Names.{sym, subst, err_from_is_err_and}
use Rattle.greet.specs.Message.{IsResponse}
use Rattle.greet.specs.View.{Refuses}
use Rattle.greet.proofs.Readers.{memory_alone}
use Rattle.greet.proofs.Responses.{not_refused, one_value}
use Rattle.greet.proofs.response.Response.read.Goals as goal

pub returns-in_err-user-clause-only : goal.returns-in_err-user-clause-only
returns-in_err-user-clause-only c r is =
    let p = err_from_is_err_and c.from_residual.result c.from_residual.ensures.1 in
    rw (p.1, p.2) (memory_alone c.in_err-user.field-0.0 (subst (λ t. Refuses t c.in_err-user.field-0.0) (not_refused r c.args.payload.now is) c.in_err-user.ensures.fault))

pub returns-clause-found : goal.returns-clause-found
returns-clause-found c =
    let u = sym c.in_ok-user-2.ensures.items in
    let a = sym c.in_ok-auth.ensures.items in
    subst (λ r. IsResponse r c.args.payload.now) (λ i. record { user = u i; auth = a i }) c.in_ok-user.ensures.found

pub returns-clause-only : goal.returns-clause-only
returns-clause-only c r is = one_value _ r c.args.payload.now (returns-clause-found c) is
