use Rattle.greet.proofs.Names.{◌≡◌, get_or, sym, ap, subst, arith, err_from_is_err_and, IsSwitch, begun_by}
use Rattle.greet.specs.declared.reply.AuthReply.TheVariants.{Switch}
use Rattle.greet.specs.Refusal.{reply_refusal, ok_refusal}
use Rattle.greet.specs.View.{Refuses}
use Rattle.greet.proofs.Readers.{memory_alone}
use Rattle.greet.proofs.Replies.{reply_nothing, as_switch, same_refusal, switch_not_refused, one_switch}
use Rattle.greet.proofs.reply.AuthReply.read.Goals as goal

pub returns-in_default-clause-fault : goal.returns-in_default-clause-fault
returns-in_default-clause-fault c = reply_nothing c.args.payload.now c.in_default.len_below

pub returns-in_err-scramble-clause-fault : goal.returns-in_err-scramble-clause-fault
returns-in_err-scramble-clause-fault c =
    let p = err_from_is_err_and c.from_residual.result c.from_residual.ensures.1 in
    let first : get_or c.args.payload.now 0 0 ≡ 254 = omega arith in
    rw (p.1, p.2) (as_switch c.in_err-scramble.field-0.0 c.args.payload.now _ (begun_by 254 c.args.payload.now c.in-len1-up.len_at_least first) c.in_err-scramble.ensures.fault)

pub returns-in_err-scramble-clause-only_switch : goal.returns-in_err-scramble-clause-only_switch
returns-in_err-scramble-clause-only_switch c scramble is =
    let p = err_from_is_err_and c.from_residual.result c.from_residual.ensures.1 in
    let first : get_or c.args.payload.now 0 0 ≡ 254 = omega arith in
    let refused = as_switch c.in_err-scramble.field-0.0 c.args.payload.now _ (begun_by 254 c.args.payload.now c.in-len1-up.len_at_least first) c.in_err-scramble.ensures.fault in
    rw (p.1, p.2) (memory_alone c.in_err-scramble.field-0.0 (subst (λ r. Refuses r c.in_err-scramble.field-0.0) (switch_not_refused scramble c.args.payload.now is) refused))

pub returns-then-first-clause-only_switch : goal.returns-then-first-clause-only_switch
returns-then-first-clause-only_switch c scramble is =
    let first : get_or c.args.payload.now 0 0 ≡ 254 = omega arith in
    let found = subst (IsSwitch c.in_ok-scramble.scramble) (sym (begun_by 254 c.args.payload.now c.in-len1-up.len_at_least first)) c.in_ok-scramble.ensures.found in
    ap Switch (one_switch c.in_ok-scramble.scramble scramble c.args.payload.now found is)

pub returns-in_err-read_ok-clause-fault : goal.returns-in_err-read_ok-clause-fault
returns-in_err-read_ok-clause-fault c =
    let p = err_from_is_err_and c.from_residual-in_err-read_ok.result c.from_residual-in_err-read_ok.ensures.1 in
    let same : reply_refusal c.args.payload.now ≡ ok_refusal c.args.payload.now = same_refusal c.args.payload.now (λ some first. c.if-first.false first) in
    rw (p.1, p.2) (subst (λ r. Refuses r c.in_err-read_ok.field-0.0) (sym same) c.in_err-read_ok.ensures.fault)
