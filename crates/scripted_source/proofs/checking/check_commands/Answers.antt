use Rattle.std.proofs.Common.{◌∙◌, sym, subst, refl}
use Rattle.std.proofs.lemmas.Result.{err_from_is_err_and, IfOk-weaker}
use Rattle.greet.specs.Message.{checksum_query}
use Rattle.scripted_source.specs.Source.{TakesPayload, IsLastSent}
use Rattle.scripted_source.proofs.checking.check_commands.Goals as goal

pub returns-in_err-query-clause-only : goal.returns-in_err-query-clause-only
returns-in_err-query-clause-only c executed last =
    let p = err_from_is_err_and c.from_residual.result c.from_residual.ensures.1 in
    rw (p.1, p.2) (c.in_err-query.ensures.only checksum_query last.rest last.taken)

pub returns-then-not-is_query-clause-only : goal.returns-then-not-is_query-clause-only
returns-then-not-is_query-clause-only c executed last =
    let same = c.in_ok-query.ensures.only checksum_query last.rest last.taken in
    let other = c.if-not-is_query.ensures.1 (c.deref.ensures.value ∙ same.0) in
    absurd cc

pub returns-clause-found : goal.returns-clause-found
returns-clause-found c = IfOk-weaker c.check_dump.result _ _ (λ executed last. record { rest = c.in_ok-query.rest.now; taken = subst (λ l. TakesPayload 0 c.args.bytes.now l c.in_ok-query.rest.now) (sym c.deref.ensures.value ∙ c.if-not-is_query.ensures.0 refl) c.in_ok-query.ensures.found; others = last }) c.check_dump.ensures.found

pub returns-clause-only : goal.returns-clause-only
returns-clause-only c executed last =
    let same = c.in_ok-query.ensures.only checksum_query last.rest last.taken in
    c.check_dump.ensures.only executed (subst (λ l. IsLastSent l executed) (sym same.1) last.others)
