use Rattle.scripted_source.proofs.Names.{◌∙◌, sym, subst, err_from_is_err_and}
use Rattle.greet.specs.Complete.{HasResponse}
use Rattle.scripted_source.proofs.checking.check.Goals as goal

pub returns-in_err-login-clause-only : goal.returns-in_err-login-clause-only
returns-in_err-login-clause-only c executed sent =
    let p = err_from_is_err_and c.from_residual.result c.from_residual.ensures.1 in
    rw (p.1, p.2) (c.in_err-login.ensures.only sent.login sent.rest sent.taken)

pub returns-then-not-branch-clause-only : goal.returns-then-not-branch-clause-only
returns-then-not-branch-clause-only c executed sent =
    let same = c.in_ok-login.ensures.only sent.login sent.rest sent.taken in
    let is = c.in_ok-is_response.ensures.ok.1 (subst HasResponse (sym (c.deref.ensures.value ∙ same.0)) sent.is_login) in
    let other = c.if-not-branch.true in
    absurd cc
